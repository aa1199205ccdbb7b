-- Squares of the whole numbers from lo to hi.
use Rattle.std.specs.Prelude.{ℕ, ◌+◌, max, ℤ, nat_abs}
use borrow.Author.Differences.{up, down}
use Rattle.grid_model.specs.Amounts.{square}

-- the least amount: `up` is the part of a number above 0 and `down` the part below, both natural
abbrev pub least_end : ℤ → ℤ → ℕ
least_end lo hi = max (up lo) (down hi)

-- the greatest amount
abbrev pub greatest_end : ℤ → ℤ → ℕ
greatest_end lo hi = max (down lo) (up hi)

abbrev pub least_square : ℤ → ℤ → ℕ
least_square lo hi = square (least_end lo hi)

abbrev pub greatest_square : ℤ → ℤ → ℕ
greatest_square lo hi = square (greatest_end lo hi)

-- the squared length of a vector
abbrev pub sum_of_squares : ℤ → ℤ → ℤ → ℕ
sum_of_squares a b c = square (nat_abs a) + square (nat_abs b) + square (nat_abs c)
