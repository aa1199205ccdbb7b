use Rattle.std.proofs.Common.{ℕ, ◌+◌, ◌*◌, ◌/◌, ◌≤◌, ◌<◌, arith, lit≤}
use Rattle.std.proofs.Math.Nat.{mul-le-mul_right, mul-lt-mul_of_pos_right}
use Rattle.sat_clock.proofs.motion.cube.Goals as goal

-- rounding twice is at most two units
below : (a q r u v : ℕ) → q * u ≤ a * a → r * v ≤ q * a → r * (u * v) ≤ a * a * a
below a q r u v h k = omega (arith, mul-le-mul_right a h, mul-le-mul_right u k)

above : (a q r u v : ℕ) → 0 < u → a * a < (q + 1) * u → q * a < (r + 1) * v → a ≤ v
    → a * a * a < (r + 2) * (u * v)
above a q r u v p h k l =
    let x : a * a * a ≤ (q + 1) * u * a = mul-le-mul_right a (omega arith) in
    let y : q * a * u < (r + 1) * v * u = mul-lt-mul_of_pos_right k p in
    let z : a * u ≤ v * u = mul-le-mul_right u l in
    omega (arith, x, y, z)

pub returns-clause-below : goal.returns-clause-below
returns-clause-below c =
    let a = c.args.root_a in
    below a (a * a / 10000000000000) (a * a / 10000000000000 * a / 10000000000000000) 10000000000000 10000000000000000 (omega arith) (omega arith)

pub returns-clause-above : goal.returns-clause-above
returns-clause-above c =
    let a = c.args.root_a in
    let q = a * a / 10000000000000 in
    above a q (q * a / 10000000000000000) 10000000000000 10000000000000000 (lit≤ tt) (omega arith) (omega arith) (omega arith)
