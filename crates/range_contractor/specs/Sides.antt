-- What is kept of one side of a box. `low` and `high` are the ends of the squares of wanted ranges,
-- `others_low` and `others_high` those of what the two other axes add to a squared distance.
use Rattle.std.specs.Prelude.{◌≡◌, ℕ, ◌+◌, ◌<◌, ◌≤◌, ◌⊎◌, ℤ, pos, ◌+ℤ◌, ◌-ℤ◌, ◌≤ℤ◌, ◌<ℤ◌}
use Rattle.std.specs.Prelude.{unsigned_abs}
use Rattle.grid_model.specs.Amounts.{least_amount, greatest_amount, square}
use Rattle.grid_model.specs.Boxes.{Side, IsIn}
use Rattle.grid_model.specs.Rounding.{IsMultipleOf}

-- ---- by one satellite

-- the square of the difference of v and some number of the place, with some number of the others,
-- comes to a wanted one
pub record IsReached (place : Side) (low high others_low others_high : ℕ) (v : ℤ) : Type 0 where
  pub at : ℤ
  pub at_in : IsIn place at
  pub others : ℕ
  pub others_from : others_low ≤ others
  pub others_to : others ≤ others_high
  pub from : low ≤ square (unsigned_abs (at -ℤ v)) + others
  pub to : square (unsigned_abs (at -ℤ v)) + others ≤ high

-- at v the place is near enough and far enough, but for a grain in the roots
pub record IsNearlyReached (grain : ℤ) (place : Side) (low high others_low others_high : ℕ) (v : ℤ)
    : Type 0 where
  pub most : ℕ
  pub most_fits : square most + others_low ≤ high
  pub near : pos (least_amount place.lo place.hi v v) ≤ℤ (pos most +ℤ grain)
  pub least : ℕ
  pub least_fits : low < square (least + 1) + others_high
  pub far : (pos least +ℤ pos 1) ≤ℤ (pos (greatest_amount place.lo place.hi v v) +ℤ grain)

-- what is kept of the side holds all that is reached, and its faces nearly are
pub record IsKept (grain : ℤ) (place side : Side) (low high others_low others_high : ℕ)
    (kept : Side) : Type 0 where
  pub from : side.lo ≤ℤ kept.lo
  pub ordered : kept.lo ≤ℤ kept.hi
  pub to : kept.hi ≤ℤ side.hi
  pub holds : (v : ℤ) → IsIn side v → IsReached place low high others_low others_high v
      → IsIn kept v
  pub low_tight : IsNearlyReached grain place low high others_low others_high kept.lo
  pub high_tight : IsNearlyReached grain place low high others_low others_high kept.hi
  pub low_face : (kept.lo ≡ side.lo) ⊎ IsMultipleOf grain kept.lo
  pub high_face : (kept.hi ≡ side.hi) ⊎ IsMultipleOf grain kept.hi

abbrev pub NoneIsKept : Side → Side → ℕ → ℕ → ℕ → ℕ → Type 0
NoneIsKept place side low high others_low others_high =
    (v : ℤ) → IsIn side v → IsReached place low high others_low others_high v → ⊥

-- the numbers whose difference from one of the place, which is above them, is one of the amount
pub record IsBelow (place amount below : Side) : Type 0 where
  pub low : below.lo ≡ place.lo -ℤ amount.hi
  pub high : below.hi ≡ place.hi -ℤ amount.lo

-- .. which is below them
pub record IsAbove (place amount above : Side) : Type 0 where
  pub low : above.lo ≡ place.lo +ℤ amount.lo
  pub high : above.hi ≡ place.hi +ℤ amount.hi

-- ---- meets and hulls

-- r are the numbers that a and b both have
pub record IsMeetOf (a b r : Side) : Type 0 where
  pub low_a : a.lo ≤ℤ r.lo
  pub low_b : b.lo ≤ℤ r.lo
  pub ordered : r.lo ≤ℤ r.hi
  pub high_a : r.hi ≤ℤ a.hi
  pub high_b : r.hi ≤ℤ b.hi
  pub low_end : (r.lo ≡ a.lo) ⊎ (r.lo ≡ b.lo)
  pub high_end : (r.hi ≡ a.hi) ⊎ (r.hi ≡ b.hi)

abbrev pub DontMeet : Side → Side → Type 0
DontMeet a b = (b.hi <ℤ a.lo) ⊎ ((a.hi <ℤ b.lo) ⊎ ((a.hi <ℤ a.lo) ⊎ (b.hi <ℤ b.lo)))

-- r is the least span that holds those of a and those of b
pub record IsHullOf (a b r : Side) : Type 0 where
  pub low_a : r.lo ≤ℤ a.lo
  pub low_b : r.lo ≤ℤ b.lo
  pub high_a : a.hi ≤ℤ r.hi
  pub high_b : b.hi ≤ℤ r.hi
  pub low_end : (r.lo ≡ a.lo) ⊎ (r.lo ≡ b.lo)
  pub high_end : (r.hi ≡ a.hi) ⊎ (r.hi ≡ b.hi)

abbrev pub IsInOneOf : Side → Side → ℤ → Type 0
IsInOneOf below above v = IsIn below v ⊎ IsIn above v

-- v is one of the numbers
abbrev pub IsEndOf : ℤ → ℤ → ℤ → ℤ → Type 0
IsEndOf a b c v = (v ≡ a) ⊎ ((v ≡ b) ⊎ (v ≡ c))

-- the hull of what two spans have of a side
pub record IsHullOfMeets (side below above kept : Side) : Type 0 where
  pub from : side.lo ≤ℤ kept.lo
  pub ordered : kept.lo ≤ℤ kept.hi
  pub to : kept.hi ≤ℤ side.hi
  pub holds : (v : ℤ) → IsIn side v → IsInOneOf below above v → IsIn kept v
  pub low_in : IsInOneOf below above kept.lo
  pub high_in : IsInOneOf below above kept.hi
  pub low_end : IsEndOf side.lo below.lo above.lo kept.lo
  pub high_end : IsEndOf side.hi below.hi above.hi kept.hi

abbrev pub NoneMeets : Side → Side → Side → Type 0
NoneMeets side below above = (v : ℤ) → IsIn side v → IsInOneOf below above v → ⊥
