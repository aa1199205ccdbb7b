-- What a test shows of a box.
use Rattle.std.specs.Prelude.{ℕ, List, false}
use Rattle.grid_model.specs.Boxes.{GridBox}
use Rattle.sat_model.specs.BoxTests.{BoxTest, IsEmpty, NoneIsInner, IsLeastInner, IsHull}
use Rattle.sat_model.specs.declared.rows.Row.{Row}
use Rattle.relaxed_meet.specs.declared.shown.BoxState.{BoxState}
use Rattle.relaxed_meet.specs.declared.shown.BoxState.TheVariants as state

abbrev pub IsBoxState : BoxTest → GridBox → BoxState → Type 0
IsBoxState test part state.Empty = IsEmpty test part
IsBoxState test part (state.Inner clock hull) =
    (IsEmpty test part → ⊥) × IsLeastInner test part clock × IsHull test part hull.lo hull.hi
IsBoxState test part (state.Undecided hull) =
    (IsEmpty test part → ⊥) × NoneIsInner test part × IsHull test part hull.lo hull.hi

-- the test of these rows by clock spans alone
abbrev pub span_test : List Row → ℕ → BoxTest
span_test rows q = record { rows = rows; q = q; pairs = false }
