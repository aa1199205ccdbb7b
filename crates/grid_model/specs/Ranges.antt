-- How far a place is from a point of the grid.
use Rattle.std.specs.Prelude.{ℕ, ◌+◌, ℤ, ◌-ℤ◌, unsigned_abs}
use Rattle.grid_model.specs.Amounts.{square}
use Rattle.grid_model.specs.Roots.{root}
use Rattle.grid_model.specs.declared.boxes.Pos.{Pos}

-- the range: the whole-number root of the squared distance
unfoldable pub range_to : ℤ → ℤ → ℤ → Pos → ℕ
range_to x y z p = root (square (unsigned_abs (x -ℤ p.x)) + square (unsigned_abs (y -ℤ p.y))
    + square (unsigned_abs (z -ℤ p.z)))
