-- How far apart the roots of two sums of squares are, and how near a place's span is to a side.
use Rattle.std.proofs.Common.{◌≡◌, ℕ, ◌+◌, ◌-◌, ◌*◌, ◌<◌, ◌≤◌, arith, ◌⊎◌, inl, inr}
use Rattle.std.specs.Prelude.{ℤ, pos, negsuc, ◌+ℤ◌, ◌-ℤ◌, ◌≤ℤ◌, unsigned_abs}
use Rattle.std.proofs.lemmas.Int.{ints, by_lt_z}
use Rattle.std.proofs.lemmas.Nat.{mul-le}
use Rattle.grid_model.specs.Amounts.{least_amount, greatest_amount, square}
use Rattle.grid_model.specs.Boxes.{Side, IsIn}
use Rattle.grid_model.specs.Roots.{IsRoot, root}
use Rattle.grid_model.proofs.RootLemmas.{root_is, square-mono, less_of_squares}
use Rattle.grid_model.proofs.SquareLemmas.{one_part}
use Rattle.range_contractor.proofs.AmountLemmas.{above_is_up}
use borrow.Author.Differences.{up, down}

-- ---- roots: where each part of a sum of squares grows by up to two spares, the root grows by less
-- than four

twice_product : (d e : ℕ) → d * e + d * e ≤ d * d + e * e
twice_product d e = elim (order d e) [
  | inl (k, is) ↦ rw is (omega arith)
  | inr (k, is) ↦ rw is (omega arith)
]
  where
    le_or : (d e : ℕ) → (d ≤ e) ⊎ (e ≤ d)
    le_or d e = grind arith

    order : (d e : ℕ) → ((k : ℕ) × (e ≡ d + k)) ⊎ ((k : ℕ) × (d ≡ e + k))
    order d e = elim (le_or d e) [
      | inl h ↦ inl (e - d, omega arith)
      | inr h ↦ inr (d - e, omega arith)
    ]

-- the root of three is less than 7 / 4
sum_less : (d e f r : ℕ) → d * d + e * e + f * f < (r + 1) * (r + 1) → 4 * (d + e + f) < 7 * (r + 1)
sum_less d e f r h =
    less_of_squares (4 * (d + e + f)) (7 * (r + 1)) (omega (arith, twice_product d e, twice_product e f, twice_product d f))

grown_numbers : (w a b c d e f r t : ℕ) → 2 ≤ w → a ≤ d + 2 * w → b ≤ e + 2 * w → c ≤ f + 2 * w
    → d * d + e * e + f * f < (r + 1) * (r + 1) → t * t ≤ a * a + b * b + c * c → t < r + 4 * w
grown_numbers w a b c d e f r t two p q s small great =
    let sum = sum_less d e f r small in
    let x : a * a ≤ (d + 2 * w) * (d + 2 * w) = square-mono a (d + 2 * w) p in
    let y : b * b ≤ (e + 2 * w) * (e + 2 * w) = square-mono b (e + 2 * w) q in
    let z : c * c ≤ (f + 2 * w) * (f + 2 * w) = square-mono c (f + 2 * w) s in
    let m : w * (4 * (d + e + f)) ≤ w * (7 * (r + 1)) = mul-le w (4 * (d + e + f)) w (7 * (r + 1)) (omega arith) (omega arith) in
    let n : 2 * r ≤ w * r = mul-le 2 r w r two (omega arith) in
    let k : 2 * w ≤ w * w = mul-le 2 w w w two (omega arith) in
    less_of_squares t (r + 4 * w) (omega arith)

pub root_grown : (w a b c d e f : ℕ) → 2 ≤ w → a ≤ d + 2 * w → b ≤ e + 2 * w → c ≤ f + 2 * w
    → root (square a + square b + square c) < root (square d + square e + square f) + 4 * w
root_grown w a b c d e f two p q s =
    let small : IsRoot (square d + square e + square f) (root (square d + square e + square f)) = root_is _ in
    let great : IsRoot (square a + square b + square c) (root (square a + square b + square c)) = root_is _ in
    grown_numbers w a b c d e f (root (square d + square e + square f)) (root (square a + square b + square c)) two p q s small.next_square_gt great.square_le

-- ---- one axis: a span from x0 to x1, at most w wide, is grown by w at both ends; a point of the side
-- is told by the span alone, and is good for each number of it

pub record AxisPoint (x0 x1 : ℤ) (side : Side) (Good : ℤ → ℤ → Type 0) : Type 0 where
  pub at : ℤ
  pub inside : IsIn side at
  pub good : (x : ℤ) → x0 ≤ℤ x → x ≤ℤ x1 → Good x at

abs_up_down : (z : ℤ) → unsigned_abs z ≡ up z + down z
abs_up_down (pos n) = omega arith
abs_up_down (negsuc n) = omega arith

abbrev IsFarAt : ℤ → ℤ → ℕ → Side → ℤ → ℤ → Type 0
IsFarAt x0 x1 w side x at = greatest_amount (x0 -ℤ pos w) (x1 +ℤ pos w) side.lo side.hi ≤ unsigned_abs (x -ℤ at) + 2 * w

abbrev IsNearAt : ℤ → ℤ → ℕ → Side → ℤ → ℤ → Type 0
IsNearAt x0 x1 w side x at = unsigned_abs (x -ℤ at) ≤ least_amount (x0 -ℤ pos w) (x1 +ℤ pos w) side.lo side.hi + 2 * w

-- the end of the side that is farthest from the grown span
pub far_axis : (x0 x1 : ℤ) (w : ℕ) (side : Side) → x0 ≤ℤ x1 → (x1 -ℤ x0) ≤ℤ pos w
    → side.lo ≤ℤ side.hi
    → AxisPoint x0 x1 side (λ x at. IsFarAt x0 x1 w side x at)
far_axis x0 x1 w side o tight s =
    let above = above_is_up (x1 +ℤ pos w) side.lo in
    let below = above_is_up side.hi (x0 -ℤ pos w) in
    let high_part = one_part ((x1 +ℤ pos w) -ℤ side.lo) in
    let low_part = one_part (side.hi -ℤ (x0 -ℤ pos w)) in
    by_lt_z (side.lo +ℤ side.hi) (x0 +ℤ x1)
    (λ h. record { at = side.lo; inside = (omega (arith, ints), s); good = λ x l u. omega (arith, ints, above, below, abs_up_down (x -ℤ side.lo), one_part (x -ℤ side.lo), high_part, low_part) })
    (λ h. record { at = side.hi; inside = (s, omega (arith, ints)); good = λ x l u. omega (arith, ints, above, below, abs_up_down (x -ℤ side.hi), one_part (x -ℤ side.hi), high_part, low_part) })

-- the number of the side that is nearest to the span's low end
pub near_axis : (x0 x1 : ℤ) (w : ℕ) (side : Side) → x0 ≤ℤ x1 → (x1 -ℤ x0) ≤ℤ pos w
    → side.lo ≤ℤ side.hi
    → AxisPoint x0 x1 side (λ x at. IsNearAt x0 x1 w side x at)
near_axis x0 x1 w side o tight s =
    let above = above_is_up (x0 -ℤ pos w) side.hi in
    let below = above_is_up side.lo (x1 +ℤ pos w) in
    let high_part = one_part ((x0 -ℤ pos w) -ℤ side.hi) in
    let low_part = one_part (side.lo -ℤ (x1 +ℤ pos w)) in
    by_lt_z x0 side.lo
    (λ h. record { at = side.lo; inside = (omega (arith, ints), s); good = λ x l u. omega (arith, ints, above, below, abs_up_down (x -ℤ side.lo), one_part (x -ℤ side.lo), high_part, low_part) })
    (λ h. by_lt_z side.hi x0
    (λ k. record { at = side.hi; inside = (s, omega (arith, ints)); good = λ x l u. omega (arith, ints, above, below, abs_up_down (x -ℤ side.hi), one_part (x -ℤ side.hi), high_part, low_part) })
    (λ k. record { at = x0; inside = (h, k); good = λ x l u. omega (arith, ints, abs_up_down (x -ℤ x0), one_part (x -ℤ x0)) }))
