-- The bounds of an epoch: half-spaces, each with the sums of rows that show it.
use Rattle.std.specs.Prelude.{ℕ, ◌+◌, List, [], ◌∷◌, length}
use Rattle.sat_model.specs.declared.half_spaces.HalfSpace.{HalfSpace}
use Rattle.sat_model.specs.declared.row_sums.RowSum.{RowSum}

pub record BoundValue : Type 0 where
  pub half : HalfSpace
  pub sums : List RowSum

-- a bound has one line for its half-space and one for each sum
abbrev pub lines_of_bound : BoundValue → ℕ
lines_of_bound bound = 1 + length bound.sums

abbrev pub lines_of_bounds : List BoundValue → ℕ
lines_of_bounds [] = 0
lines_of_bounds (bound ∷ more) = lines_of_bound bound + lines_of_bounds more
