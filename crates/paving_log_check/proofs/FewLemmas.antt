-- What is shown by rows that may all be inconsistent.
use Rattle.std.proofs.Common.{◌≡◌, ℕ, zero, suc, ◌≤◌, arith, List, [], ◌∷◌, length, inr}
use Rattle.std.specs.Prelude.{ℤ, pos, ◌+ℤ◌}
use Rattle.std.proofs.lemmas.Int.{ints}
use Rattle.grid_model.specs.Boxes.{GridBox, grid_box}
use Rattle.grid_model.specs.declared.boxes.Box3.{Box3}
use Rattle.grid_model.proofs.PointLemmas.{low_corner}
use Rattle.sat_model.specs.BoxTests.{BoxTest, IsEmpty, HoldsHull}
use Rattle.sat_model.specs.Fitting.{IsPossible, AllBut}
use Rattle.sat_model.proofs.BoxTestLemmas.{nothing_fits}
use Rattle.paving_log_check.specs.RowsTests.{rows_test_value}
use Rattle.paving_log_check.specs.declared.rows_test.FewRows.{FewRows}
use Rattle.paving_log_check.specs.declared.rows_test.RowsTest.{RowsTest}
use Rattle.paving_log_check.specs.declared.rows_test.RowsTest.TheVariants.{Few}

all_but_few : {A : Type 0} (q : ℕ) (Meets : A → Type 0) (xs : List A) → length xs ≤ q
    → AllBut q Meets xs
all_but_few q Meets [] few = tt
all_but_few zero Meets (x ∷ xs) few = absurd (omega (arith, few))
all_but_few (suc q) Meets (x ∷ xs) few = inr (all_but_few q Meets xs (omega (arith, few)))

module _ (test : BoxTest) (few : length test.rows ≤ test.q) where
  -- no box is shown empty, since everything fits at each of its points
  never_empty : (part : Box3) → IsEmpty test (grid_box part) → ⊥
  never_empty part empty = nothing_fits test (grid_box part) empty part.lo (pos 0) (low_corner part) (all_but_few test.q (IsPossible part.lo (pos 0)) test.rows few)

  never_held : (part : GridBox) (lo hi : ℤ) → HoldsHull test part lo hi → ⊥
  never_held part lo hi held = absurd (let beyond = held (hi +ℤ pos 1) (omega (arith, few)) in omega (arith, ints, beyond.1))

-- ---- the test by such rows

module _ (test : RowsTest) (few : FewRows) (is : test ≡ Few few) where
  pub shows_none_empty : (part : Box3) → IsEmpty (rows_test_value test) (grid_box part) → ⊥
  shows_none_empty part empty = never_empty (rows_test_value (Few few)) few.few part (rw is at empty)

  pub holds_none : (part : GridBox) (lo hi : ℤ) → HoldsHull (rows_test_value test) part lo hi → ⊥
  holds_none part lo hi held = never_held (rows_test_value (Few few)) few.few part lo hi (rw is at held)
