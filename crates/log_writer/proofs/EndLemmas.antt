-- What stands behind the events of a whole run, as it is put line by line.
use Rattle.std.proofs.Common.{◌≡◌, ℕ, ◌≤◌, List, [], ◌∷◌, ◌++◌, length, map, Option, None, Some, Result, Err, sym, ap, subst, ◌∙◌, append_assoc}
use Rattle.std.specs.List.{flat_map, AllByRecursion}
use Rattle.bound_directions.specs.Directions.{IsDirectionsOf}
use Rattle.bound_directions.specs.declared.direction.Direction.{Direction}
use Rattle.bound_directions.specs.declared.directions.Directions.{Directions}
use Rattle.epoch_report.specs.declared.counts.Counts4.{Counts4}
use Rattle.epoch_report.specs.ReportLines.{total_text_of}
use Rattle.grid_model.specs.Boxes.{GridBox}
use Rattle.sat_model.specs.Events.{Event, RowsOver, steps_in}
use Rattle.sat_model.specs.Fold.{pieces}
use Rattle.sat_model.specs.KeptHulls.{kept_hull}
use Rattle.sat_model.specs.ShownBounds.{rows_behind, AreShownOver}
use Rattle.paving.specs.Renewing.{Maker}
use Rattle.log_lines.specs.declared.line.LogLine.TheVariants as line
use Rattle.log_lines.specs.Rows.{RowFits}
use Rattle.log_lines.specs.Text.{bound_lines}
use Rattle.subpaving.specs.LiveValues.{box_option}
use Rattle.log_writer.specs.declared.fault.WriteFault.{WriteFault}
use Rattle.log_writer.specs.declared.outcome.Outcome.{Outcome}
use Rattle.log_writer.specs.declared.wanted.Wanted.{Wanted}
use Rattle.log_writer.specs.Bounding.{AreBoundsFor}
use Rattle.log_writer.specs.Found.{WroteBounds}
use Rattle.log_writer.specs.InUse.{rows_option, used_last}
use Rattle.log_writer.specs.LastRenewals.{RenewsOver, RenewsLast, last_events}
use Rattle.log_writer.specs.Pieces.{Piece, alone, with_report}
use Rattle.log_writer.specs.Writing.{Seen, Went, Ended, Written}
use Rattle.log_writer.specs.Wrote.{IsBehind, last_pieces, WroteClosing}
use Rattle.log_writer.proofs.AlongLemmas.{along_none, some_axes, are_axes, axes_few}
use Rattle.log_writer.proofs.ClosingLemmas.{last_hull, last_rows}
use Rattle.log_writer.proofs.StepSizes.{GivesFit, given_fit}
use Rattle.log_writer.proofs.WritingLemmas.{went_twice, ended_before, written_behind}

one_new : (x y : RowsOver) → Some x ≡ Some y → x ≡ y
one_new x y e = cc

-- the rows that are renewed once more fit in lines
pub new_fits : (maker : Maker) (used : GridBox) (hull : Option GridBox) (n : ℕ) (last : Option RowsOver)
    → GivesFit maker → RenewsOver maker used hull n last
    → (new : RowsOver) → last ≡ Some new → AllByRecursion RowFits new.rows
new_fits maker used hull n None fit renews new some = absurd cc
new_fits maker used hull n (Some x) fit (active, is, shorter, same, gives) new some =
    subst (λ (y : RowsOver). AllByRecursion RowFits y.rows) (one_new x new some) (given_fit maker (fit active) 0 x.part x.rows gives)

abbrev pub done_piece : Counts4 → Piece
done_piece counts = with_report (line.Done counts.bisections) (total_text_of counts)

module _ (wanted : Wanted) (d : Directions) (asks : wanted.directions ≡ Some d) (list : List Direction) (are : IsDirectionsOf d list) (few : length list ≤ 64) (maker : Maker) (first : RowsOver) (events : List Event) (done : Outcome) (behind : IsBehind first events done) (last : Option RowsOver) (renews : RenewsOver maker (used_last first (rows_option done.renewed)).part (box_option done.kept) (length first.rows) last) where
  its_renewal : RenewsLast wanted.directions maker first events last
  its_renewal =
      subst (λ (o : Option Directions). RenewsLast o maker first events last) (sym asks)
      (subst (λ (hull : Option GridBox). RenewsOver maker (rows_behind first events).part hull (length first.rows) last) behind.kept
      (subst (λ (used : RowsOver). RenewsOver maker used.part (box_option done.kept) (length first.rows) last) behind.in_use renews))

  no_bounds : AreBoundsFor wanted.directions wanted.rules.outliers first (events ++ last_events last) []
  no_bounds =
      subst (λ (o : Option Directions). AreBoundsFor o wanted.rules.outliers first (events ++ last_events last) []) (sym asks)
      (record {
        list = list;
        are_they = are;
        axes = some_axes;
        are_axes = are_axes;
        few = axes_few some_axes list are_axes few;
        along = along_none (some_axes ++ list);
        fit = tt;
        shown = tt;
      })

  -- the last renewal broke
  pub closing_last : {T : Type 0} (a c : Seen) (fault : WriteFault)
      → Ended a (last_pieces last) fault c
      → WroteClosing {T = T} wanted maker first events done.counts a (Err fault) c
  closing_last a c fault ended = record {
    last = last;
    renews = its_renewal;
    bounds = [];
    bounded = no_bounds;
    written = ended_before a c (last_pieces last) (done_piece done.counts ∷ []) fault ended;
  }

  -- the number of splits broke, or was put and there are no bounds
  pub closing_done : {T : Type 0} (a b c : Seen) (r : Result T WriteFault)
      → Went a (last_pieces last) b → Written b (done_piece done.counts ∷ []) r c
      → WroteClosing wanted maker first events done.counts a r c
  closing_done a b c r went written = record {
    last = last;
    renews = its_renewal;
    bounds = [];
    bounded = no_bounds;
    written = written_behind a b c (last_pieces last) (done_piece done.counts ∷ []) r went written;
  }

  -- the bounds were written, or broke off
  module _ (hull : GridBox) (kept : box_option done.kept ≡ Some hull) (used : RowsOver) (in_use : used ≡ used_last (used_last first (rows_option done.renewed)) last) where
    is_hull : kept_hull (pieces first.part (steps_in (events ++ last_events last))) ≡ Some hull
    is_hull = last_hull first.part events last ∙ sym behind.kept ∙ kept

    are_used : rows_behind first (events ++ last_events last) ≡ used
    are_used =
        last_rows first events last ∙ ap (λ (u : RowsOver). used_last u last) (sym behind.in_use) ∙ sym in_use

    pub closing_bounds : {T : Type 0} (a b c e : Seen) (r : Result T WriteFault)
        → Went a (last_pieces last) b → Went b (done_piece done.counts ∷ []) c
        → WroteBounds first.rows used wanted.rules.outliers list hull c r e
        → WroteClosing wanted maker first events done.counts a r e
    closing_bounds a b c e r went also w =
        let tail : List Piece = map alone (flat_map bound_lines w.wrote.bounds) in
        record {
          last = last;
          renews = its_renewal;
          bounds = w.wrote.bounds;
          bounded = subst (λ (o : Option Directions). AreBoundsFor o wanted.rules.outliers first (events ++ last_events last) w.wrote.bounds) (sym asks)
              (record {
                list = list;
                are_they = are;
                axes = w.axes;
                are_axes = w.are_axes;
                few = axes_few w.axes list w.are_axes few;
                along = w.wrote.found.along;
                fit = w.wrote.found.fit;
                shown = subst (λ (o : Option GridBox). AreShownOver wanted.rules.outliers first (events ++ last_events last) o w.wrote.bounds) (sym is_hull)
                    (w.wrote.found.shown first.part (events ++ last_events last) are_used);
              });
          written = subst (λ (ps : List Piece). Written a ps r e) (append_assoc (last_pieces last) (done_piece done.counts ∷ []) tail)
              (written_behind a c e (last_pieces last ++ done_piece done.counts ∷ []) tail r
              (went_twice a b c (last_pieces last) (done_piece done.counts ∷ []) went also) w.wrote.written);
        }
