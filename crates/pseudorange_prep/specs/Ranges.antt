-- Codes and widths.
use Rattle.std.specs.Prelude.{ℕ, ℤ, pos, ◌-ℤ◌, ◌≤ℤ◌}

-- a code, in um: from 0 to 40,000 km
pub record IsCode (lo hi : ℤ) : Type 0 where
  pub from : pos 0 ≤ℤ lo
  pub to : hi ≤ℤ pos 40000000000000

-- lo and hi are at most w apart
pub record IsNarrow (w : ℕ) (lo hi : ℤ) : Type 0 where
  pub width : (hi -ℤ lo) ≤ℤ pos w
