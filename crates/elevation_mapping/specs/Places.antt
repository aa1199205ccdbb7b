-- The squared lengths of the vectors that a place holds, and how far a box is from a place.
use Rattle.std.specs.Prelude.{ℕ, ◌≡◌, ◌+◌, ◌≤◌, ℤ, ◌-ℤ◌, true}
use Rattle.grid_model.specs.Amounts.{square}
use Rattle.grid_model.specs.Boxes.{GridBox, box_holds}
use Rattle.grid_model.specs.Squares.{least_square, greatest_square, sum_of_squares}
use Rattle.grid_model.specs.declared.boxes.Pos.{Pos}
use Rattle.fix_interval.specs.Places.{HoldsPlace}
use Rattle.fix_interval.specs.declared.place.Place.{Place}

-- the least and the greatest squared length of a vector that the place holds
abbrev pub least_sum : Place → ℕ
least_sum a = least_square a.x.lo a.x.hi + least_square a.y.lo a.y.hi + least_square a.z.lo a.z.hi

abbrev pub greatest_sum : Place → ℕ
greatest_sum a =
    greatest_square a.x.lo a.x.hi + greatest_square a.y.lo a.y.hi + greatest_square a.z.lo a.z.hi

-- each grid point of the box is at least n um from each point of the place
abbrev pub IsFarFromPlace : ℕ → Place → GridBox → Type 0
IsFarFromPlace n a b =
    (p : Pos) (x y z : ℤ) → box_holds b p ≡ true → HoldsPlace a x y z
    → square n ≤ sum_of_squares (x -ℤ p.x) (y -ℤ p.y) (z -ℤ p.z)
