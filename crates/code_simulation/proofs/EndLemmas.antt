-- What is left at the ends of the search.
use Rattle.std.proofs.Common.{◌≡◌, ℕ, ◌+◌, ◌*◌, ◌^◌, ◌≤◌, arith}
use Rattle.std.specs.Prelude.{ℤ, pos, ◌+ℤ◌, ◌-ℤ◌, ◌*ℤ◌, ◌≤ℤ◌, nat_abs}
use Rattle.std.proofs.lemmas.Int.{ints}
use Rattle.sat_clock.specs.ClockSizes.{correction_size}
use Rattle.code_simulation.specs.Residuals.{um_of}
use Rattle.grid_model.specs.Intervals.{Between}
use Rattle.grid_model.specs.Ranges.{range_to}
use Rattle.gnss_model.specs.Pseudorange.{IsCorrected}
use Rattle.grid_model.specs.Sizes.{IsWithin}
use Rattle.grid_model.specs.declared.boxes.Pos.{Pos}
use Rattle.grid_model.proofs.RootLemmas.{square-mono}
use Rattle.grid_model.proofs.ProductLemmas.{square_of_amount}
use Rattle.code_simulation.specs.SearchSizes.{IsNearPoint, farthest_range, greatest_offset}
use Rattle.code_simulation.proofs.SquareLemmas.{side_most, range_most}
use Rattle.broadcast_orbit.proofs.TurnKeeps.{turned_low, turned_high}

pub corrected_most : (p dt v : ℤ) → IsWithin correction_size dt → IsCorrected p dt v
    → v ≤ℤ (p +ℤ pos greatest_offset)
corrected_most p dt v k near = omega (arith, ints, k.high, near.below, near.above)

pub corrected_least : (p dt v : ℤ) → IsWithin correction_size dt → IsCorrected p dt v
    → (p -ℤ pos greatest_offset) ≤ℤ v
corrected_least p dt v k near = omega (arith, ints, k.low, near.below, near.above)

-- ---- the range from a point within 5,000 km on each axis

side_of_point : (c : ℤ) → IsWithin 5000000000000 c → (c *ℤ c) ≤ℤ pos (5000000000000 * 5000000000000)
side_of_point c h =
    let e = square_of_amount c in
    let k : nat_abs c ≤ 5000000000000 = omega (arith, ints, h.low, h.high) in
    omega (arith, ints, e, square-mono (nat_abs c) 5000000000000 k)

pub far_range : (x y z : ℤ) (p : Pos)
    → Between (pos (turned_low * turned_low)) (pos (turned_high * turned_high)) ((x *ℤ x) +ℤ (y *ℤ y) +ℤ (z *ℤ z))
    → IsNearPoint p → range_to x y z p ≤ farthest_range
far_range x y z p d near =
    let a = side_most x p.x in
    let b = side_most y p.y in
    let c = side_most z p.z in
    let k = side_of_point p.x near.x in
    let l = side_of_point p.y near.y in
    let m = side_of_point p.z near.z in
    range_most farthest_range x y z p (omega (arith, ints, a, b, c, k, l, m, d.to))

-- a difference from a range
pub less_most : (p c v : ℤ) (r : ℕ) → c ≤ℤ (p +ℤ pos greatest_offset) → v ≡ c -ℤ pos r
    → v ≤ℤ (p +ℤ pos greatest_offset)
less_most p c v r h is = omega (arith, ints, h, is)

pub less_least : (p c v : ℤ) (r : ℕ) → (p -ℤ pos greatest_offset) ≤ℤ c → r ≤ farthest_range
    → v ≡ c -ℤ pos r → (p -ℤ pos (greatest_offset + farthest_range)) ≤ℤ v
less_least p c v r h k is = omega (arith, ints, h, k, is)

-- the first code is low and the last one high
pub first_low : (v goal : ℤ) → IsWithin (10 ^ 9) goal → v ≤ℤ (um_of 0 +ℤ pos greatest_offset)
    → v ≤ℤ (goal +ℤ pos 3507)
first_low v goal k h = omega (arith, ints, k.low, h)

pub last_high : (v goal : ℤ) → IsWithin (10 ^ 9) goal
    → (um_of 100000000000 -ℤ pos (greatest_offset + farthest_range)) ≤ℤ v → goal ≤ℤ v
last_high v goal k h = omega (arith, ints, k.high, h)
