-- Boxes in which a receiver is searched.
use Rattle.std.specs.Prelude.{ℕ, ◌*◌, ◌^◌, ◌≤◌, ◌≡◌, true}
use Rattle.grid_model.specs.Amounts.{square}
use Rattle.grid_model.specs.Boxes.{Side, GridBox, box_holds}
use Rattle.grid_model.specs.Lengths.{longest_length}
use Rattle.grid_model.specs.Sizes.{IsWithin}
use Rattle.grid_model.specs.Squares.{sum_of_squares}
use Rattle.grid_model.specs.declared.boxes.Pos.{Pos}

-- within 8,600 km of the origin, in um
pub record IsSearchSide (s : Side) : Type 0 where
  pub low : IsWithin (8600 * 10 ^ 9) s.lo
  pub high : IsWithin (8600 * 10 ^ 9) s.hi

-- on each axis, and no side is longer than 200 km
pub record IsSearchBox (c : GridBox) : Type 0 where
  pub x : IsSearchSide c.x
  pub y : IsSearchSide c.y
  pub z : IsSearchSide c.z
  pub short : longest_length c ≤ 2 * 10 ^ 11

-- each grid point of the box is at least n um from the origin
abbrev pub IsFarFromOrigin : ℕ → GridBox → Type 0
IsFarFromOrigin n c = (p : Pos) → box_holds c p ≡ true → square n ≤ sum_of_squares p.x p.y p.z
