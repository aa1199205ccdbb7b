-- In a box that is shown empty, by clock spans or by pairs, nothing fits.
use Rattle.std.proofs.Common.{◌≡◌, ℕ, List, inl, inr, true, false, Bool}
use Rattle.std.specs.Prelude.{ℤ}
use Rattle.grid_model.specs.declared.boxes.Pos.{Pos}
use Rattle.sat_model.specs.declared.rows.Row.{Row}
use Rattle.grid_model.specs.Boxes.{GridBox, box_holds}
use Rattle.sat_model.specs.BoxTests.{BoxTest, IsEmptyBy, IsEmpty}
use Rattle.sat_model.specs.ClockSpans.{IsShownEmpty}
use Rattle.sat_model.specs.Fitting.{IsPossible, AllBut}
use Rattle.grid_model.proofs.PointLemmas.{in_box}
use Rattle.sat_model.proofs.FittingLemmas.{relaxed_of_possible}
use Rattle.sat_model.proofs.PairLemmas as pairs

-- at none of its points, with no offset, are all rows but at most q possible
NothingFits : List Row → ℕ → GridBox → Type 0
NothingFits rows q part = (p : Pos) (b : ℤ) → box_holds part p ≡ true → AllBut q (IsPossible p b) rows → ⊥

by_spans : (rows : List Row) (q : ℕ) (part : GridBox) → IsShownEmpty rows part q
    → NothingFits rows q part
unfolding NothingFits
by_spans rows q part empty p b i h = empty b (relaxed_of_possible q part p b rows (in_box part p i) h)

by_either : (asked : Bool) (rows : List Row) (q : ℕ) (part : GridBox) → IsEmptyBy asked rows part q
    → NothingFits rows q part
unfolding NothingFits
by_either false rows q part empty = by_spans rows q part empty
by_either true rows q part empty = elim empty [
  | inl e ↦ by_spans rows q part e
  | inr e ↦ pairs.nothing_fits q part rows e
]

-- the law of an inclusion test: where a box is shown empty, nothing fits
pub nothing_fits : (test : BoxTest) (part : GridBox) → IsEmpty test part
    → (p : Pos) (b : ℤ) → box_holds part p ≡ true → AllBut test.q (IsPossible p b) test.rows → ⊥
unfolding NothingFits
nothing_fits test part empty = by_either test.pairs test.rows test.q part empty
