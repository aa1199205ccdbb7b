-- The rows that are renewed in a solved block, against own rows over the same boxes.
use Rattle.std.proofs.Common.{◌≡◌, ℕ, zero, suc, ◌+◌, ◌<◌, true, List, [], ◌∷◌, length, map, inl, inr, refl, sym, ap, subst, ◌∙◌, arith}
use Rattle.std.specs.Prelude.{pos, ◌≤ℤ◌, None, Some, slice_get, option_map}
use Rattle.std.specs.List.{AllByRecursion}
use Rattle.std.proofs.lemmas.Bool.{and_from as both_from, cases_lt}
use Rattle.std.proofs.lemmas.Int.{ints}
use Rattle.std.proofs.lemmas.List.{length-map}
use Rattle.std.proofs.lemmas.Option.{same_Some, slice_get-map, slice_get_within}
use Rattle.std.proofs.Math.Nat.{eq-or-lt_of_le}
use Rattle.epoch_rows.specs.Grown.{IsGrownRow}
use Rattle.epoch_rows.specs.Renewed.{Hand, GivesRow}
use Rattle.epoch_selection.specs.Searches.{Search}
use Rattle.gnss_model.specs.declared.satellites.Sat.{Sat}
use Rattle.gnss_model.specs.Delays.{err_spare_of}
use Rattle.grid_model.specs.Boxes.{Side, GridBox, side_holds, box_holds}
use Rattle.grid_model.specs.Lengths.{spare_of}
use Rattle.grid_model.specs.SearchBoxes.{IsSearchBox}
use Rattle.grid_model.specs.declared.boxes.Pos.{Pos}
use Rattle.grid_model.proofs.PointLemmas.{le_to}
use Rattle.paving_log_check.specs.Lines.{HoldsOwn, HasBound}
use Rattle.paving_log_check.specs.OwnLines.{usable_of, AreOwnRows, AreRenewed, HaveEachRow}
use Rattle.paving_log_check.specs.Renewed.{HoldsGiven}
use Rattle.rinex_obs.specs.declared.obs.SatObs.{SatObs}
use Rattle.sat_model.specs.Contractors.{LiesIn}
use Rattle.sat_model.specs.Events.{Event, Made, Renewed, RowsOver, renewals_in}
use Rattle.sat_model.specs.Logs.{sat_of}
use Rattle.sat_model.specs.Renewals.{LineFact, AnyLine, LinesPass}
use Rattle.sat_model.specs.Stages.{Stage, after}
use Rattle.sat_model.specs.Verdicts.{NoneRepeats, EventsPass}
use Rattle.sat_model.specs.declared.rows.Row.{Row}
use Rattle.sat_model.specs.declared.rows.SatEntry.{SatEntry}
use Rattle.sat_model.specs.declared.rules.Rules.{Rules}
use Rattle.sat_rows.proofs.PartLemmas.{part_holds}
use Rattle.sat_rows.specs.Meanings.{Meaning, IsSound}
use Rattle.sat_rows.specs.OwnRows.{IsOwnRow}
use Rattle.sat_rows.specs.declared.lines.SatLine.{SatLine}
use Rattle.sat_rows.specs.declared.lines.SatLine.TheVariants.{Usable, Skipped}
use Rattle.epoch_rows.proofs.AgreeLemmas.{own_agree}

-- ---- where a satellite stands

abbrev sats_of : List SatObs → List Sat
sats_of sats = map (λ seen. seen.sat) sats

named : (sats : List SatObs) (k : ℕ) (seen : SatObs) → slice_get sats k ≡ Some seen
    → slice_get (sats_of sats) k ≡ Some seen.sat
named sats k seen at = slice_get-map (λ (s : SatObs). s.sat) sats k ∙ ap (option_map (λ (s : SatObs). s.sat)) at

-- the one in the place of a name
seen_at : (sats : List SatObs) (k : ℕ) (sat : Sat) → slice_get (sats_of sats) k ≡ Some sat
    → (seen : SatObs) × (slice_get sats k ≡ Some seen) × (seen.sat ≡ sat)
seen_at [] k sat at = absurd cc
seen_at (seen ∷ sats) zero sat at = (seen, refl, same_Some seen.sat sat at)
seen_at (seen ∷ sats) (suc k) sat at = seen_at sats k sat at

usable_at : (sats : List SatObs) (lines : List SatLine) (k : ℕ) (seen : SatObs)
    → slice_get (usable_of sats lines) k ≡ Some seen
    → (place : ℕ) × (slice_get sats place ≡ Some seen)
usable_at [] lines k seen at = absurd cc
usable_at (first ∷ sats) [] k seen at = absurd cc
usable_at (first ∷ sats) (Usable row ∷ lines) zero seen at = (0, at)
usable_at (first ∷ sats) (Usable row ∷ lines) (suc k) seen at = let (place, is) = usable_at sats lines k seen at in (suc place, is)
usable_at (first ∷ sats) (Skipped sat skip ∷ lines) k seen at = let (place, is) = usable_at sats lines k seen at in (suc place, is)

-- the lines of a block name each satellite once, so two of one name are one
module _ (entries : List SatEntry) (sats : List SatObs) (once : NoneRepeats entries) (names : map sat_of entries ≡ sats_of sats) where
  as_long : length entries ≡ length sats
  as_long = sym (length-map entries sat_of) ∙ ap length names ∙ length-map sats (λ (s : SatObs). s.sat)

  no_later : (j k : ℕ) (seen other : SatObs) → slice_get sats j ≡ Some seen
      → slice_get sats k ≡ Some other → seen.sat ≡ other.sat → j < k → ⊥
  no_later j k seen other at there same less = once k (record {
    earlier = j;
    is_earlier = less;
    is_line = omega (arith, as_long, slice_get_within sats k other there);
    same = rw names (named sats j seen at ∙ ap (λ (sat : Sat). Some sat) same ∙ sym (named sats k other there));
  })

  same_seen : (j k : ℕ) (seen other : SatObs) → slice_get sats j ≡ Some seen
      → slice_get sats k ≡ Some other → seen.sat ≡ other.sat → seen ≡ other
  same_seen j k seen other at there same = elim (cases_lt j k) [
    | inl less ↦ absurd (no_later j k seen other at there same less)
    | inr from ↦ elim (eq-or-lt_of_le from) [
      | inl is ↦ same_Some seen other (sym at ∙ ap (slice_get sats) (sym is) ∙ there)
      | inr less ↦ absurd (no_later k j other seen there at (sym same) less)
    ]
  ]

-- ---- a point of a box

low_corner : GridBox → Pos
low_corner part = record { x = part.x.lo; y = part.y.lo; z = part.z.lo }

side_low : (s : Side) → s.lo ≤ℤ s.hi → side_holds s s.lo ≡ true
side_low s ordered = both_from _ _ (le_to s.lo s.lo (omega (arith, ints))) (le_to s.lo s.hi ordered)

holds_corner : (part root : GridBox) → LiesIn part root → box_holds part (low_corner part) ≡ true
unfolding low_corner
holds_corner part root lies =
    both_from _ _ (side_low part.x (lies 0).ordered) (both_from _ _ (side_low part.y (lies 1).ordered) (side_low part.z (lies 2).ordered))

-- ---- renewed rows

module _ (m : Meaning) (search : Search) where
  -- a renewed row of the usable satellite in this place
  pub record RowAt (usable : List SatObs) (part : GridBox) (i : ℕ) (row : Row) : Type 0 where
    pub lies : LiesIn part search.root
    pub seen : SatObs
    pub at : slice_get usable i ≡ Some seen
    pub judged : m.judged search.root search.epoch.tag seen None
    pub own : Row
    pub is_own : IsOwnRow m part search.epoch.tag seen own
    pub grown : IsGrownRow (pos (spare_of part)) (pos (err_spare_of part m.delays)) own row

  -- by the lines of the block, and own lines of its satellites
  module _ (entries : List SatEntry) (lines : List SatLine) (once : NoneRepeats entries) (names : map sat_of entries ≡ sats_of search.epoch.sats.items) (hand : Hand)
      (is_hand : hand.search ≡ search) (hand_sats : hand.sats ≡ sats_of (usable_of search.epoch.sats.items lines)) where
    abbrev Usables : List SatObs
    Usables = usable_of search.epoch.sats.items lines

    pub row_at : (part : GridBox) (i : ℕ) (row : Row) → GivesRow m (Some hand) i part row
        → RowAt Usables part i row
    row_at part i row gives =
        let (seen, at, same) = seen_at Usables i row.sat (rw hand_sats at gives.0) in
        let r = rw is_hand at gives.1 in
        let (place, is) = usable_at search.epoch.sats.items lines i seen at in
        let one = same_seen entries search.epoch.sats.items once names place r.place seen r.seen is r.is_seen (same ∙ r.grown.sat ∙ r.sat) in
        record {
          lies = r.lies;
          seen = seen;
          at = at;
          judged = subst (λ (s : SatObs). m.judged search.root search.epoch.tag s None) (sym one) r.usable;
          own = r.own;
          is_own = subst (λ (s : SatObs). IsOwnRow m part search.epoch.tag s r.own) (sym one) r.is_own;
          grown = r.grown;
        }

  -- ---- against own rows that are given

  own_at : (part : GridBox) (sats : List SatObs) (ours : List Row) (i : ℕ) (seen : SatObs) (row : Row)
      → AreOwnRows m part search.epoch.tag sats ours → slice_get sats i ≡ Some seen
      → slice_get ours i ≡ Some row → IsOwnRow m part search.epoch.tag seen row
  own_at part sats [] i seen row are at there = absurd cc
  own_at part [] (first ∷ ours) i seen row are at there = absurd are
  own_at part (one ∷ sats) (first ∷ ours) zero seen row are at there =
      rw (sym (same_Some one seen at), sym (same_Some first row there)) are.0
  own_at part (one ∷ sats) (first ∷ ours) (suc i) seen row are at there = own_at part sats ours i seen row are.1 at there

  renewed_at : (sats : List SatObs) (renewals : List RowsOver) (renewed : List (List Row)) (j : ℕ) (new : RowsOver) (rows : List Row)
      → AreRenewed m search.epoch.tag sats renewals renewed
      → slice_get renewals j ≡ Some new → slice_get renewed j ≡ Some rows
      → AreOwnRows m new.part search.epoch.tag sats rows
  renewed_at sats renewals [] j new rows are at there = absurd cc
  renewed_at sats [] (first ∷ renewed) j new rows are at there = absurd are
  renewed_at sats (one ∷ renewals) (first ∷ renewed) zero new rows are at there =
      rw (sym (same_Some one new at), sym (same_Some first rows there)) are.0
  renewed_at sats (one ∷ renewals) (first ∷ renewed) (suc j) new rows are at there = renewed_at sats renewals renewed j new rows are.1 at there

  module _ (sound : IsSound m) (box : IsSearchBox search.root) where
    -- it passes against each of them
    passes_at : (usable : List SatObs) (part : GridBox) (i : ℕ) (row ours : Row)
        → RowAt usable part i row → (rows : List Row)
        → AreOwnRows m part search.epoch.tag usable rows
        → slice_get rows i ≡ Some ours → HoldsOwn m.delays row ours × HasBound m.delays row ours
    passes_at usable part i row ours r rows are at =
        let inside = holds_corner part search.root r.lies in
        own_agree m sound search.root search.epoch.tag part (low_corner part) box (part_holds part search.root (low_corner part) r.lies inside) inside r.seen r.own ours row r.judged
        r.is_own (own_at part usable rows i r.seen ours are r.at at) r.grown

    pub given_held : (usable : List SatObs) (renewals : List RowsOver) (renewed : List (List Row))
        → AreRenewed m search.epoch.tag usable renewals renewed
        → (j : ℕ) (new : RowsOver) (i : ℕ) (row : Row) → slice_get renewals j ≡ Some new
        → RowAt usable new.part i row → HoldsGiven m.delays renewed j i row
    given_held usable renewals renewed are j new i row at r = λ ours (rows, there, here).
        passes_at usable new.part i row ours r rows (renewed_at usable renewals renewed j new rows are at there) here

  -- ---- the own rows that they were made of

  -- one for each of these rows of usable satellites, the first of which is in this place
  own_rows : (usable : List SatObs) (part : GridBox) (i : ℕ) (left : List SatObs) (rows : List Row)
      → ((k : ℕ) → slice_get left k ≡ slice_get usable (i + k))
      → ((k : ℕ) (row : Row) → slice_get rows k ≡ Some row → RowAt usable part (i + k) row)
      → (ours : List Row) × AreOwnRows m part search.epoch.tag left ours × (length ours ≡ length rows)
  own_rows usable part i left [] inside each = ([], tt, refl)
  own_rows usable part i [] (row ∷ rows) inside each =
      absurd (let r = each 0 row refl in let none = inside 0 ∙ r.at in cc)
  own_rows usable part i (first ∷ left) (row ∷ rows) inside each =
      let r = each 0 row refl in
      let same = same_Some first r.seen (inside 0 ∙ r.at) in
      let (ours, are, many) = own_rows usable part (suc i) left rows
      (λ k. inside (suc k) ∙ ap (slice_get usable) (omega arith))
      (λ k other at. subst (λ (n : ℕ). RowAt usable part n other) (omega arith) (each (suc k) other at)) in
      (r.own ∷ ours, (subst (λ (s : SatObs). IsOwnRow m part search.epoch.tag s r.own) (sym same) r.is_own, are), ap suc many)

  pub own_renewed : (usable : List SatObs) (renewals : List RowsOver)
      → AllByRecursion (λ (new : RowsOver). (i : ℕ) (row : Row) → slice_get new.rows i ≡ Some row → RowAt usable new.part i row) renewals
      → (renewed : List (List Row)) × AreRenewed m search.epoch.tag usable renewals renewed × HaveEachRow renewals renewed
  own_renewed usable [] each = ([], tt, tt)
  own_renewed usable (new ∷ renewals) each =
      let (ours, are, many) = own_rows usable new.part 0 usable new.rows (λ k. ap (slice_get usable) (omega arith))
      (λ k row at. subst (λ (n : ℕ). RowAt usable new.part n row) (omega arith) (each.0 k row at)) in
      let (renewed, all, whole) = own_renewed usable renewals each.1 in
      (ours ∷ renewed, (are, all), (many, whole))

-- ---- what more is asked of each line of a renewal

module _ (Meets : LineFact) (first : RowsOver) where
  lines_meet : (j i : ℕ) (rows : List Row)
      → ((k : ℕ) (row : Row) → slice_get rows k ≡ Some row → Meets j (i + k) row)
      → LinesPass AnyLine first j i rows → LinesPass Meets first j i rows
  lines_meet j i [] each pass = tt
  lines_meet j i (row ∷ rows) each pass = (
    (pass.0.0, subst (λ (n : ℕ). Meets j n row) (omega arith) (each 0 row refl)),
    lines_meet j (suc i) rows (λ k other at. subst (λ (n : ℕ). Meets j n other) (omega arith) (each (suc k) other at)) pass.1,
  )

  events_meet : (rules : Rules) (done j : ℕ) (stage : Stage) (events : List Event)
      → ((k : ℕ) (new : RowsOver) (i : ℕ) (row : Row) → slice_get (renewals_in events) k ≡ Some new → slice_get new.rows i ≡ Some row → Meets (j + k) i row)
      → EventsPass AnyLine first rules done j stage events
      → EventsPass Meets first rules done j stage events
  events_meet rules done j stage [] each pass = pass
  events_meet rules done j stage (Made step ∷ events) each pass = (pass.0, events_meet rules done j (after stage (Made step)) events each pass.1)
  events_meet rules done j stage (Renewed new ∷ events) each pass = (
    record {
      holds = pass.0.holds;
      lines = lines_meet j 0 new.rows (λ i row at. subst (λ (n : ℕ). Meets j n row) (omega arith) (subst (λ (n : ℕ). Meets n i row) (omega arith) (each 0 new i row refl at))) pass.0.lines;
    },
    events_meet rules done (suc j) (after stage (Renewed new)) events
        (λ k other i row at there. subst (λ (n : ℕ). Meets n i row) (omega arith) (each (suc k) other i row at there)) pass.1,
  )

  pub all_meet : (rules : Rules) (done : ℕ) (stage : Stage) (events : List Event)
      → ((j : ℕ) (new : RowsOver) (i : ℕ) (row : Row) → slice_get (renewals_in events) j ≡ Some new → slice_get new.rows i ≡ Some row → Meets j i row)
      → EventsPass AnyLine first rules done 0 stage events
      → EventsPass Meets first rules done 0 stage events
  all_meet rules done stage events each pass =
      events_meet rules done 0 stage events (λ j new i row at there. subst (λ (n : ℕ). Meets n i row) (omega arith) (each j new i row at there)) pass
