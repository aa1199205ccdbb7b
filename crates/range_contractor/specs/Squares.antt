-- Squares of differences and of ranges, rounded outward by less than a grain in the root. `low` and
-- `high` are the ends of an area of squares.
use Rattle.std.specs.Prelude.{◌≡◌, ℕ, ◌-◌, ◌≤◌, ℤ, pos, ◌+ℤ◌, ◌-ℤ◌, ◌≤ℤ◌, unsigned_abs}
use Rattle.grid_model.specs.Amounts.{least_amount, greatest_amount, square}
use Rattle.grid_model.specs.Boxes.{Side, IsIn}
use Rattle.grid_model.specs.Roots.{root}
use Rattle.grid_model.specs.Rounding.{grain_floor, grain_ceil, IsMultipleOf}
use Rattle.grid_model.specs.Sizes.{IsWithin}

-- low and high enclose the squares of the differences of a number of the place and one of the side,
-- and pass the least and the greatest of them by less than a grain in the root
pub record AreDifferenceSquares (grain : ℤ) (place side : Side) (low high : ℕ) : Type 0 where
  pub least : ℕ
  pub greatest : ℕ
  pub low_is : low ≡ square least
  pub high_is : high ≡ square greatest
  pub near : pos (least_amount place.lo place.hi side.lo side.hi) ≤ℤ (pos least +ℤ grain)
  pub far :
      (pos greatest +ℤ pos 1) ≤ℤ (pos (greatest_amount place.lo place.hi side.lo side.hi) +ℤ grain)
  pub small : greatest ≤ 80000001048576
  pub holds : (s v : ℤ) → IsIn place s → IsIn side v
      → (low ≤ square (unsigned_abs (s -ℤ v))) × (square (unsigned_abs (s -ℤ v)) ≤ high)

-- low and high enclose the squares of the numbers from least to most + 1, less than a grain off in
-- the root
pub record AreRangeSquares (grain : ℤ) (least most : ℤ) (low high : ℕ) : Type 0 where
  pub from : ℕ
  pub to : ℕ
  pub low_is : low ≡ square from
  pub high_is : high ≡ square to
  pub from_near : least ≤ℤ (pos from +ℤ grain)
  pub to_near : pos to ≤ℤ (most +ℤ pos 1 +ℤ grain)
  pub holds_from : (n : ℕ) → least ≤ℤ pos n → low ≤ square n
  pub holds_to : (n : ℕ) → pos n ≤ℤ (most +ℤ pos 1) → square n ≤ high

-- the ends of the amount are the rounded roots of what squares of others leave of wanted ones
pub record AreAmounts (grain : ℤ) (low high others_low others_high : ℕ) (amount : Side)
    : Type 0 where
  pub some : others_low ≤ high
  pub low_is : amount.lo ≡ grain_floor grain (pos (root (low - others_high)))
  pub high_is : amount.hi ≡ grain_ceil grain (pos (root (high - others_low)))

-- both ends are multiples of the grain
pub record AreWhole (grain : ℤ) (s : Side) : Type 0 where
  pub low : IsMultipleOf grain s.lo
  pub high : IsMultipleOf grain s.hi

pub record IsAmount (grain : ℤ) (low high others_low others_high : ℕ) (amount : Side) : Type 0 where
  pub are : AreAmounts grain low high others_low others_high amount
  pub whole : AreWhole grain amount
  pub natural : pos 0 ≤ℤ amount.lo
  pub low_size : IsWithin 1125899906842624 amount.lo
  pub high_size : IsWithin 1125899906842624 amount.hi
