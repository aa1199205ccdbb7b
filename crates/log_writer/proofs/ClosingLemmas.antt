-- What stands behind the events of a whole run: rows that are renewed once more, and bounds.
use Rattle.std.proofs.Common.{◌≡◌, ℕ, suc, List, [], ◌∷◌, ◌++◌, append-nil, append_assoc, Option, None, Some, refl, sym, ap, subst, ◌∙◌}
use Rattle.std.specs.Prelude.{true}
use Rattle.std.specs.List.{flat_map}
use Rattle.sat_model.specs.declared.rules.Rules.{Rules}
use Rattle.sat_model.specs.declared.rows.Row.{Row}
use Rattle.grid_model.specs.Boxes.{GridBox, IsInside}
use Rattle.sat_model.specs.Events.{Event, Made, Renewed, RowsOver, steps_in}
use Rattle.sat_model.specs.Fold.{Subpaving, boxes_after, taken_by, live_box, pieces, IsLive, NoneLive}
use Rattle.sat_model.specs.KeptHulls.{kept_hull}
use Rattle.sat_model.specs.Renewals.{AnyLine, IsOfPlace, LinesPass}
use Rattle.sat_model.specs.ShownBounds.{rows_behind}
use Rattle.sat_model.specs.Stages.{Stage, after}
use Rattle.sat_model.specs.Verdicts.{EventsPass}
use Rattle.sat_model.proofs.EventLemmas.{steps_behind}
use Rattle.log_lines.specs.declared.line.LogLine.TheVariants as line
use Rattle.epoch_report.specs.Reports.{piece_text}
use Rattle.paving.specs.Renewing.{Maker, GivesFrom}
use Rattle.paving.proofs.TurnLemmas.{Suits}
use Rattle.log_writer.specs.InUse.{used_last}
use Rattle.log_writer.specs.LastRenewals.{last_events}
use Rattle.log_writer.specs.Pieces.{Piece, with_report, row_pieces, event_pieces}
use Rattle.log_writer.specs.Wrote.{last_pieces}

-- ---- the events with the last renewal

steps_of_last : (last : Option RowsOver) → steps_in (last_events last) ≡ []
steps_of_last None = refl
steps_of_last (Some new) = refl

-- the steps are the same
pub last_steps : (events : List Event) (last : Option RowsOver)
    → steps_in (events ++ last_events last) ≡ steps_in events
last_steps events last =
    steps_behind events (last_events last) ∙ ap (λ (steps : List _). steps_in events ++ steps) (steps_of_last last) ∙ append-nil (steps_in events)

-- so is what is kept
pub last_hull : (root : GridBox) (events : List Event) (last : Option RowsOver)
    → kept_hull (pieces root (steps_in (events ++ last_events last))) ≡ kept_hull (pieces root (steps_in events))
last_hull root events last = ap (λ (steps : List _). kept_hull (pieces root steps)) (last_steps events last)

-- its rows are in use then
pub last_rows : (first : RowsOver) (events : List Event) (last : Option RowsOver)
    → rows_behind first (events ++ last_events last) ≡ used_last (rows_behind first events) last
last_rows first [] None = refl
last_rows first [] (Some new) = refl
last_rows first (Made step ∷ events) last = last_rows first events last
last_rows first (Renewed new ∷ events) last = last_rows new events last

-- its lines come last
pub last_apart : (boxes : Subpaving) (events : List Event) (last : Option RowsOver)
    → event_pieces boxes (events ++ last_events last) ≡ event_pieces boxes events ++ last_pieces last
last_apart boxes [] None = refl
last_apart boxes [] (Some new) = append-nil (row_pieces new)
last_apart boxes (Made step ∷ events) last =
    ap (λ (ps : List Piece). with_report (line.Step step) (flat_map piece_text (taken_by boxes step)) ∷ ps) (last_apart (boxes_after boxes step) events last)
last_apart boxes (Renewed new ∷ events) last =
    ap (λ (ps : List Piece). row_pieces new ++ ps) (last_apart boxes events last)
    ∙ sym (append_assoc (row_pieces new) (event_pieces boxes events) (last_pieces last))

-- ---- they pass

lines_pass : (maker : Maker) (first : RowsOver) (j i : ℕ) (part : GridBox) (rows : List Row)
    → ((k : ℕ) (c : GridBox) (row : Row) → maker.gives k c row → IsOfPlace first.rows k row)
    → GivesFrom maker i part rows → LinesPass AnyLine first j i rows
lines_pass maker first j i part [] suits gives = tt
lines_pass maker first j i part (row ∷ rows) suits gives =
    ((suits i part row gives.0, tt), lines_pass maker first j (suc i) part rows suits gives.1)

none_is_live : (boxes : Subpaving) (id : ℕ) (live : GridBox) → NoneLive boxes → IsLive boxes id live → ⊥
none_is_live boxes id live none is = no_box (live_box boxes id) live (none id) is
  where
    no_box : (o : Option GridBox) (live : GridBox) → o ≡ None → o ≡ Some live → ⊥
    no_box o live none is = cc

module _ (maker : Maker) (first : RowsOver) (rules : Rules) (done : ℕ) (suits : Suits maker first.rows) where
  -- what may be renewed last: in the root, and by the maker
  pub record IsLast (new : RowsOver) : Type 0 where
    pub active : maker.active ≡ true
    pub in_root : IsInside new.part first.part
    pub gives : GivesFrom maker 0 new.part new.rows

  new_passes : (j : ℕ) (stage : Stage) (events : List Event) (new : RowsOver) → IsLast new
      → EventsPass AnyLine first rules done j stage events
      → EventsPass AnyLine first rules done j stage (events ++ Renewed new ∷ [])
  new_passes j stage [] new is p = (
    record {
      holds = record { in_root = is.in_root; each_live = λ id live lives. absurd (none_is_live stage.boxes id live p.0 lives) };
      lines = lines_pass maker first j 0 new.part new.rows (suits is.active) is.gives;
    },
    p,
  )
  new_passes j stage (Made step ∷ events) new is p = (p.0, new_passes j (after stage (Made step)) events new is p.1)
  new_passes j stage (Renewed x ∷ events) new is p = (p.0, new_passes (suc j) (after stage (Renewed x)) events new is p.1)

  pub last_passes : (j : ℕ) (stage : Stage) (events : List Event) (last : Option RowsOver)
      → ((new : RowsOver) → last ≡ Some new → IsLast new)
      → EventsPass AnyLine first rules done j stage events
      → EventsPass AnyLine first rules done j stage (events ++ last_events last)
  last_passes j stage events None is p = subst (λ (l : List Event). EventsPass AnyLine first rules done j stage l) (sym (append-nil events)) p
  last_passes j stage events (Some new) is p = new_passes j stage events new (is new refl) p
