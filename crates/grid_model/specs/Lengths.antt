-- The longest side of a box, and the number of binary digits of its length.
use Rattle.std.specs.Prelude.{ℕ, zero, suc, ◌+◌, ◌/◌, ◌^◌, ◌≤◌, ◌<◌, ◌≡◌, max, nat_le}
use Rattle.std.specs.Prelude.{if◌then◌else◌}
use Rattle.grid_model.specs.Amounts.{above}
use Rattle.grid_model.specs.Boxes.{GridBox, Side, side_at}

-- how far the high end is from the low end
abbrev pub side_length : Side → ℕ
side_length s = above s.hi s.lo

abbrev pub longest_length : GridBox → ℕ
longest_length c = max (side_length c.x) (max (side_length c.y) (side_length c.z))

-- the first of the axes with the longest side
pub record IsLongestAxis (c : GridBox) (axis : ℕ) : Type 0 where
  pub axis_le : axis ≤ 2
  pub longest : side_length (side_at axis c) ≡ longest_length c
  pub first : (other : ℕ) → other < axis → side_length (side_at other c) < longest_length c

-- n is written with so many binary digits
pub record IsBitLength (n bits : ℕ) : Type 0 where
  pub fits : n < 2 ^ bits
  pub needed : (fewer : ℕ) → fewer < bits → 2 ^ fewer ≤ n

-- the greatest number of digits up to a bound that n needs
unfoldable pub digits_up_to : ℕ → ℕ → ℕ
digits_up_to n zero = 0
digits_up_to n (suc k) = if nat_le (2 ^ k) n then suc k else digits_up_to n k

-- the number of binary digits of n
unfoldable pub bit_length : ℕ → ℕ
bit_length n = digits_up_to n n

-- how wide a row's spans may be over this search box
abbrev pub spare_of : GridBox → ℕ
spare_of root = 2000 + longest_length root / 40000
