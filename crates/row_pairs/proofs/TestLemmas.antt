-- A box is shown empty, by clock spans or by pairs, or it isn't.
use Rattle.std.proofs.Common.{ℕ, ◌-◌, ◌<◌, arith, List, length, ◌⊎◌, inl, inr, true, false, Bool}
use Rattle.sat_model.specs.declared.rows.Row.{Row}
use Rattle.grid_model.specs.Boxes.{GridBox}
use Rattle.sat_model.specs.BoxTests.{BoxTest, IsEmptyBy, IsEmpty}
use Rattle.sat_model.specs.ClockSpans.{clock_spans, IsShownEmpty}
use Rattle.sat_model.proofs.RelaxedExists.{relaxed_hull}
use Rattle.row_pairs.proofs.DecideLemmas.{shown_or_not}

by_spans_or_not : (rows : List Row) (part : GridBox) (q : ℕ) → q < length rows
    → IsShownEmpty rows part q ⊎ (IsShownEmpty rows part q → ⊥)
by_spans_or_not rows part q few = elim (relaxed_hull (clock_spans part rows) (length rows - q) (omega arith)) [
  | inl none ↦ inl none
  | inr (lo, hi, hull) ↦ inr (λ none. none lo hull.lo_lies)
]

by_either_or_not : (asked : Bool) (rows : List Row) (part : GridBox) (q : ℕ) → q < length rows
    → IsEmptyBy asked rows part q ⊎ (IsEmptyBy asked rows part q → ⊥)
by_either_or_not false rows part q few = by_spans_or_not rows part q few
by_either_or_not true rows part q few = elim (by_spans_or_not rows part q few) [
  | inl e ↦ inl (inl e)
  | inr n ↦ elim (shown_or_not rows part q) [
    | inl e ↦ inl (inr e)
    | inr m ↦ inr (λ e. elim e [ inl x ↦ n x | inr x ↦ m x ])
  ]
]

pub empty_or_not : (test : BoxTest) (part : GridBox) → test.q < length test.rows
    → IsEmpty test part ⊎ (IsEmpty test part → ⊥)
empty_or_not test part few = by_either_or_not test.pairs test.rows part test.q few
