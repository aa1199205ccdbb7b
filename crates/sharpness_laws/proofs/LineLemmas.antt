-- A box that is clear by six W and two G is decided by the rows in use.
use Rattle.std.proofs.Common.{◌≡◌, ℕ, zero, suc, ◌+◌, ◌*◌, ◌-◌, ◌≤◌, arith, List, [], ◌∷◌, length, count_by, cond, true, inl, inr, subst}
use Rattle.std.specs.Prelude.{ℤ, None, Some}
use Rattle.std.proofs.lemmas.Bool.{cases_Bool, and_parts as both}
use Rattle.std.proofs.lemmas.List.Sums.{sum_by-cons}
use Rattle.epoch_selection.specs.Searches.{Search}
use Rattle.rinex_obs.specs.declared.obs.SatObs.{SatObs}
use Rattle.grid_model.specs.Boxes.{Side, GridBox}
use Rattle.sat_model.specs.ClockSpans.{clock_ends, clock_spans, inner_ends, inner_spans, IsShownEmpty, IsShownInner}
use Rattle.sat_model.specs.Contractors.{LiesIn}
use Rattle.grid_model.specs.Lengths.{spare_of}
use Rattle.sat_model.specs.Relaxed.{holds}
use Rattle.grid_model.specs.SearchBoxes.{IsSearchBox}
use Rattle.gnss_model.specs.Delays.{err_spare_of}
use Rattle.sat_model.specs.declared.rows.Row.{Row}
use Rattle.grid_model.proofs.PointLemmas.{le_from}
use Rattle.sat_model.proofs.FittingLemmas.{holds_from, count_here, count_not_here, count_any}
use Rattle.sat_rows.specs.Meanings.{Meaning, IsSound}
use Rattle.sharpness_laws.specs.Clear.{UsableBut, IfUsable, HoldsRange, IsNearlyConsistent, IsSafelyConsistent, IsEmptyBy, IsInnerBy}
use Rattle.sharpness_laws.specs.UsableRows.{IsRowFor, AreRowsFor, AreRowsOver}
use Rattle.sharpness_laws.proofs.RowLemmas.{row_over, nearly_consistent, safely_inner}
use Rattle.range_contractor.proofs.TreeLemmas.{lies_itself as own_box}
use Rattle.grid_model.proofs.PlainLemmas.{at_most_one}

count_le : (b : ℤ) (spans : List (ℤ × ℤ)) → count_by (λ s. holds s b) spans ≤ length spans
count_le b [] = omega arith
count_le b (s ∷ spans) = omega (arith, sum_by-cons (λ t. cond (holds t b) 1 0) s spans, at_most_one (holds s b), count_le b spans)

spans_each : (part : GridBox) (rows : List Row) → length (clock_spans part rows) ≡ length rows
spans_each part [] = omega arith
spans_each part (row ∷ rows) = omega (arith, spans_each part rows)

-- the rows are over the box `used`
module _ (m : Meaning) (sound : IsSound m) (search : Search) (box : IsSearchBox search.root) (used part : GridBox) (in_root : LiesIn part search.root) (in_used : LiesIn part used)
    (margin : ℕ) (enough : 6 * spare_of used + 2 * err_spare_of used m.delays ≤ margin) where
  -- of the satellites of the search
  abbrev Usable : (SatObs → Type 0) → SatObs → Type 0
  Usable = IfUsable m search.root search.epoch

  abbrev But : ℕ → (SatObs → Type 0) → List SatObs → Type 0
  But = UsableBut m search.root search.epoch

  -- a usable satellite has no reason not to use it
  usable_meets : (Meets : SatObs → Type 0) (seen : SatObs)
      → m.judged search.root search.epoch.tag seen None → Usable Meets seen → Meets seen
  usable_meets Meets seen usable h = elim h [
    | inl (skip, skipped) ↦ absurd (let same = sound.one_judgement search.root search.epoch.tag seen None (Some skip) usable skipped in cc)
    | inr meets ↦ meets
  ]

  -- one more of which the fact holds
  meets_too : (q : ℕ) (Meets : SatObs → Type 0) (seen : SatObs) (sats : List SatObs)
      → Usable Meets seen → But q Meets sats → But q Meets (seen ∷ sats)
  meets_too zero Meets seen sats here more = (here, more)
  meets_too (suc q) Meets seen sats here more = inl (here, more)

  -- ---- clock spans

  module _ (ranges : SatObs → Side) (b : ℤ) where
    abbrev Near : SatObs → Type 0
    Near seen = IsNearlyConsistent m search.root search.epoch part margin (ranges seen) b seen

    abbrev Held : SatObs → Type 0
    Held seen = HoldsRange m search.root search.epoch part margin (ranges seen) seen

    near_here : (seen : SatObs) (row : Row) → IsRowFor m search used seen row → Usable Held seen
        → holds (clock_ends part row) b ≡ true → Near seen
    near_here seen row is held e =
        let (from, to) = both _ _ e in
        nearly_consistent m search.root search.epoch part margin seen (spare_of used) (err_spare_of used m.delays) is.own row (own_box part used in_used)
        (row_over m sound search box used part seen row in_root in_used is) enough
        (ranges seen) b (usable_meets Held seen is.usable held) (le_from _ _ from) (le_from _ _ to)

    near_but : (q : ℕ) (sats : List SatObs) (rows : List Row) → AreRowsFor m search used sats rows
        → But 0 Held sats
        → length rows ≤ count_by (λ s. holds s b) (clock_spans part rows) + q → But q Near sats
    near_but q [] rows are held le = tt
    near_but q (seen ∷ sats) [] are held le = meets_too q Near seen sats (inl are.0) (near_but q sats [] are.1 held.1 le)
    near_but q (seen ∷ sats) (row ∷ rows) are held le = elim are [
      | inl (unused, are) ↦ meets_too q Near seen sats (inl unused) (near_but q sats (row ∷ rows) are held.1 le)
      | inr (is, are) ↦ elim (cases_Bool (holds (clock_ends part row) b)) [
        | inl e ↦ meets_too q Near seen sats (inr (near_here seen row is held.0 e))
            (near_but q sats rows are held.1 (omega (arith, le, count_here b (clock_ends part row) (clock_spans part rows) e)))
        | inr e ↦
            let not = count_not_here b (clock_ends part row) (clock_spans part rows) e in
            let some : 1 ≤ q = omega (arith, le, not, count_le b (clock_spans part rows), spans_each part rows) in
            let q_is : suc (q - 1) ≡ q = omega (arith, some) in
            subst (λ (n : ℕ). But n Near (seen ∷ sats)) q_is (inr (near_but (q - 1) sats rows are held.1 (omega (arith, le, not, some))))
      ]
    ]

  pub empty_shown : (q : ℕ) (rows : List Row) → AreRowsOver m search used rows
      → IsEmptyBy m search.root search.epoch part margin q → IsShownEmpty rows part q
  empty_shown q rows are clear b lies_in = clear.none b (near_but clear.ranges b q search.epoch.sats.items rows are clear.hold (omega arith))

  -- ---- inner spans

  module _ (b : ℤ) where
    abbrev Safe : SatObs → Type 0
    Safe seen = IsSafelyConsistent m search.root search.epoch part margin b seen

    inner_here : (seen : SatObs) (row : Row) → IsRowFor m search used seen row → Usable Safe seen
        → holds (inner_ends part row) b ≡ true
    inner_here seen row is safe =
        let (from, to) = safely_inner m search.root search.epoch part margin seen (spare_of used) (err_spare_of used m.delays) is.own row (own_box part used in_used)
        (row_over m sound search box used part seen row in_root in_used is) enough b (usable_meets Safe seen is.usable safe) in
        holds_from _ _ b from to

    inner_but : (q : ℕ) (sats : List SatObs) (rows : List Row) → AreRowsFor m search used sats rows
        → But q Safe sats → length rows ≤ count_by (λ s. holds s b) (inner_spans part rows) + q
    inner_but q [] [] are safe = omega arith
    inner_but q [] (row ∷ rows) are safe = absurd are
    inner_but q (seen ∷ sats) [] are safe = omega arith
    inner_but zero (seen ∷ sats) (row ∷ rows) are safe = elim are [
      | inl (unused, are) ↦ inner_but zero sats (row ∷ rows) are safe.1
      | inr (is, are) ↦ omega (arith, count_here b (inner_ends part row) (inner_spans part rows) (inner_here seen row is safe.0), inner_but zero sats rows are safe.1)
    ]
    inner_but (suc q) (seen ∷ sats) (row ∷ rows) are safe = elim are [
      | inl (unused, are) ↦ elim safe [
        | inl safe ↦ inner_but (suc q) sats (row ∷ rows) are safe.1
        | inr safe ↦ omega (arith, inner_but q sats (row ∷ rows) are safe)
      ]
      | inr (is, are) ↦ elim safe [
        | inl safe ↦ omega (arith, count_here b (inner_ends part row) (inner_spans part rows) (inner_here seen row is safe.0), inner_but (suc q) sats rows are safe.1)
        | inr safe ↦ omega (arith, count_any b (inner_ends part row) (inner_spans part rows), inner_but q sats rows are safe)
      ]
    ]

  pub inner_shown : (q : ℕ) (rows : List Row) → AreRowsOver m search used rows
      → (clear : IsInnerBy m search.root search.epoch part margin q)
      → IsShownInner rows part q clear.offset
  inner_shown q rows are clear = omega (arith, inner_but clear.offset q search.epoch.sats.items rows are clear.inside)
