-- The ranges that are wanted: those that a satellite allows with an offset of the clock span, as
-- far as they are possible.
use Rattle.std.specs.Prelude.{ℕ, ◌≤◌, ℤ, pos, ◌≤ℤ◌}
use Rattle.grid_model.specs.Intervals.{Between}

-- no range from a satellite to a point of a box is greater, in um
abbrev pub greatest_possible : ℕ
greatest_possible = 139999999999999

-- least and most are the ends of the possible ranges from `from` to `to`
pub record IsWanted (from to least most : ℤ) : Type 0 where
  pub natural : pos 0 ≤ℤ least
  pub ordered : least ≤ℤ most
  pub possible : most ≤ℤ pos greatest_possible
  pub low : from ≤ℤ least
  pub high : most ≤ℤ to
  pub holds : (n : ℕ) → n ≤ greatest_possible → Between from to (pos n) → Between least most (pos n)

-- no possible range lies from `from` to `to`
abbrev pub NoneIsWanted : ℤ → ℤ → Type 0
NoneIsWanted from to = (n : ℕ) → n ≤ greatest_possible → Between from to (pos n) → ⊥

-- the least of the possible ranges from `from` on
pub record IsLeastWanted (from least : ℤ) : Type 0 where
  pub natural : pos 0 ≤ℤ least
  pub low : least ≤ℤ pos greatest_possible → from ≤ℤ least
  pub holds : (n : ℕ) → n ≤ greatest_possible → from ≤ℤ pos n → least ≤ℤ pos n

-- the greatest of those up to `to`
pub record IsMostWanted (to most : ℤ) : Type 0 where
  pub possible : most ≤ℤ pos greatest_possible
  pub high : pos 0 ≤ℤ most → most ≤ℤ to
  pub holds : (n : ℕ) → n ≤ greatest_possible → pos n ≤ℤ to → pos n ≤ℤ most
