-- Whole numbers between two ends.
use Rattle.std.specs.Prelude.{ℕ, ℤ, pos, ◌+ℤ◌, ◌-ℤ◌, ◌≤ℤ◌}
use Rattle.grid_model.specs.Sizes.{IsWithin}

-- x is one of the whole numbers from lo to hi
pub record Between (lo hi x : ℤ) : Type 0 where
  pub from : lo ≤ℤ x
  pub to : x ≤ℤ hi

-- lo and hi are at most n in amount and at most w apart
pub record Ends (n w : ℕ) (lo hi : ℤ) : Type 0 where
  pub order : lo ≤ℤ hi
  pub low : IsWithin n lo
  pub high : IsWithin n hi
  pub width : (hi -ℤ lo) ≤ℤ pos w

-- a and b are at most n apart
pub record Close (n : ℕ) (a b : ℤ) : Type 0 where
  pub below : a ≤ℤ (b +ℤ pos n)
  pub above : b ≤ℤ (a +ℤ pos n)
