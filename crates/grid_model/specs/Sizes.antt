-- Bounds on the amounts of whole numbers of micrometres.
use Rattle.std.specs.Prelude.{ℕ, ℤ, pos, neg_ℤ, ◌≤ℤ◌}

-- z is at most n in amount
pub record IsWithin (n : ℕ) (z : ℤ) : Type 0 where
  pub low : neg_ℤ (pos n) ≤ℤ z
  pub high : z ≤ℤ pos n

-- a coordinate of a box or a bound of a cut
abbrev pub IsBoxSize : ℤ → Type 0
IsBoxSize z = IsWithin 10000000000000 z

-- a coordinate of a satellite or a range
abbrev pub IsPlaceSize : ℤ → Type 0
IsPlaceSize z = IsWithin 60000000000000 z

-- an error
abbrev pub IsErrorSize : ℤ → Type 0
IsErrorSize z = IsWithin 1000000000000 z

-- a clock offset
abbrev pub IsClockSize : ℤ → Type 0
IsClockSize z = IsWithin 200000000000000 z
