-- Small facts of numbers that many crates need.
use Rattle.std.proofs.Common.{◌≡◌, ℕ, ◌+◌, ◌<◌, ◌≤◌, ◌⊎◌, arith, Bool, true, false, cond, w64, to_z, of_z}
use Rattle.std.specs.Prelude.{ℤ, pos, ◌*ℤ◌, nat_abs}
use Rattle.std.proofs.lemmas.Int.{ints}
use Rattle.grid_model.specs.Intervals.{Between}
use Rattle.grid_model.specs.Sizes.{IsWithin, IsBoxSize}

-- ---- sizes

-- a coordinate keeps its value in 64 bits
pub uncast_end : (x : ℤ) → IsBoxSize x → to_z w64 (of_z w64 x) ≡ x
uncast_end x size = omega (arith, ints, size.low, size.high)

pub within_itself : (n : ℕ) → IsWithin n (pos n)
within_itself n = record { low = omega (arith, ints); high = omega (arith, ints) }

pub amount_at_most : (n : ℕ) (z : ℤ) → IsWithin n z → nat_abs z ≤ n
amount_at_most n z within = omega (arith, ints, within.low, within.high)

pub held_itself : (x : ℤ) → Between x x x
held_itself x = record { from = omega (arith, ints); to = omega (arith, ints) }

-- ---- one

pub times_one : (n : ℤ) → n *ℤ pos 1 ≡ n
times_one n = omega (arith, ints)

pub one_times : (n : ℤ) → pos 1 *ℤ n ≡ n
one_times n = omega (arith, ints)

-- what is counted of one thing
pub at_most_one : (t : Bool) → cond t 1 0 ≤ 1
at_most_one true = omega arith
at_most_one false = omega arith

-- ---- orders

pub below_or_last : (i n : ℕ) → i < n + 1 → (i < n) ⊎ (i ≡ n)
below_or_last i n h = grind arith

-- ---- truth values

pub false_is_not_true : false ≡ true → ⊥
false_is_not_true e = absurd cc

pub not_both : (b : Bool) → b ≡ false → b ≡ true → ⊥
not_both true e f = absurd cc
not_both false e f = absurd cc
