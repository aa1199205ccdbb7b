-- The root of 1 - e^2 over an interval of eccentricities.
use Rattle.std.proofs.Common.{◌≡◌, ℕ, ◌+◌, ◌-◌, ◌*◌, ◌≤◌, ◌<◌, arith, lit≤, subst}
use Rattle.std.specs.Prelude.{ℤ, pos, nat_abs, ◌+ℤ◌, ◌-ℤ◌, ◌*ℤ◌, ◌≤ℤ◌, ◌<ℤ◌}
use Rattle.std.proofs.lemmas.Int.{ints}
use Rattle.grid_model.specs.Angles.{unit}
use Rattle.grid_model.specs.Intervals.{Between, Ends}
use Rattle.grid_model.specs.Roots.{IsRoot}
use Rattle.grid_model.proofs.RootLemmas.{square-mono}
use Rattle.broadcast_orbit.specs.OrbitSizes.{eccentricity_amount}
use Rattle.interval_trig.proofs.Symmetry.{natural}

-- a number whose square is at most n is at most a number whose successor's square is above n
not_above : (a w n : ℕ) → a * a ≤ n → n < (w + 1) * (w + 1) → a ≤ w
not_above a w n h k = grind (arith, square-mono (w + 1) a, h, k)

-- v is the root for i and u that for k, with one o and squares as variables
between_roots : (o ii xx kk u v w : ℕ) → xx ≤ kk → ii ≤ xx → kk ≤ o → u * u ≤ o - kk
    → o - ii < (v + 1) * (v + 1) → w * w + xx ≤ o → o < (w + 1) * (w + 1) + xx → (u ≤ w) × (w ≤ v)
between_roots o ii xx kk u v w p q r s t y z =
    (not_above u w (o - kk) s (omega arith), not_above w v (o - ii) (omega arith) t)

pub flatness_held : (i x k u v w : ℕ) → i ≤ x → x ≤ k → k ≤ eccentricity_amount
    → IsRoot (unit * unit - k * k) u → IsRoot (unit * unit - i * i) v → w * w + x * x ≤ unit * unit
    → unit * unit < (w + 1) * (w + 1) + x * x → (u ≤ w) × (w ≤ v)
flatness_held i x k u v w h l m p q y z =
    let a = square-mono k eccentricity_amount m in
    between_roots (unit * unit) (i * i) (x * x) (k * k) u v w (square-mono x k l) (square-mono i x h) (omega arith) p.square_le q.next_square_gt y z

one_apart : (o k i u v : ℕ) → i ≤ k → k ≤ i + 1 → k * k + k * k ≤ o → u * u ≤ o - k * k
    → o - k * k < (u + 1) * (u + 1) → v * v ≤ o - i * i → v ≤ u + 1
one_apart o k i u v g h m p q r =
    let a : k ≤ u = not_above k u (o - k * k) (omega arith) q in
    let b : k * k ≤ (i + 1) * (i + 1) = square-mono k (i + 1) h in
    not_above v (u + 1) (o - i * i) r (omega arith)

pub flatness_narrow : (i k u v : ℕ) → i ≤ k → k ≤ i + 1 → k ≤ eccentricity_amount
    → IsRoot (unit * unit - k * k) u → IsRoot (unit * unit - i * i) v → v ≤ u + 1
flatness_narrow i k u v g h m p q = let a = square-mono k eccentricity_amount m in one_apart (unit * unit) k i u v g h (omega arith) p.square_le p.next_square_gt q.square_le

pub flatness_order : (i k u v : ℕ) → i ≤ k → k ≤ eccentricity_amount
    → IsRoot (unit * unit - k * k) u → IsRoot (unit * unit - i * i) v → u ≤ v
flatness_order i k u v h m p q = let a = square-mono i k h in not_above u v (unit * unit - i * i) (omega (arith, p.square_le)) q.next_square_gt

pub flatness_small : (i v : ℕ) → IsRoot (unit * unit - i * i) v → v ≤ unit
flatness_small i v q = not_above v unit (unit * unit) (omega (arith, q.square_le)) (lit≤ tt)

-- ---- with whole numbers that aren't negative as amounts

square_of : (x : ℤ) (n w : ℕ) → x ≡ pos n → (pos (w * w) +ℤ (x *ℤ x)) ≤ℤ pos (unit * unit)
    → w * w + n * n ≤ unit * unit
square_of x n w e h = omega (arith, ints, subst (λ (z : ℤ). (pos (w * w) +ℤ (z *ℤ z)) ≤ℤ pos (unit * unit)) e h)

next_of : (x : ℤ) (n w : ℕ) → x ≡ pos n → pos (unit * unit) <ℤ (pos ((w + 1) * (w + 1)) +ℤ (x *ℤ x))
    → unit * unit < (w + 1) * (w + 1) + n * n
next_of x n w e h = omega (arith, ints, subst (λ (z : ℤ). pos (unit * unit) <ℤ (pos ((w + 1) * (w + 1)) +ℤ (z *ℤ z))) e h)

pub root_held : (lo hi x : ℤ) (i k u v w : ℕ) → pos i ≡ lo → pos k ≡ hi → pos 0 ≤ℤ lo
    → hi ≤ℤ pos eccentricity_amount → Between lo hi x → IsRoot (unit * unit - k * k) u
    → IsRoot (unit * unit - i * i) v → (pos (w * w) +ℤ (x *ℤ x)) ≤ℤ pos (unit * unit)
    → pos (unit * unit) <ℤ (pos ((w + 1) * (w + 1)) +ℤ (x *ℤ x)) → Between (pos u) (pos v) (pos w)
root_held lo hi x i k u v w e f p h b r s y z =
    let from = b.from in
    let to = b.to in
    let n = natural x (omega (arith, ints)) in
    let a = flatness_held i (nat_abs x) k u v w (omega (arith, ints)) (omega (arith, ints)) (omega (arith, ints)) r s (square_of x (nat_abs x) w n y) (next_of x (nat_abs x) w n z) in
    record { from = omega (arith, ints, a.0); to = omega (arith, ints, a.1) }

pub root_ends : (lo hi : ℤ) (i k u v : ℕ) → pos i ≡ lo → pos k ≡ hi → lo ≤ℤ hi → (hi -ℤ lo) ≤ℤ pos 1
    → hi ≤ℤ pos eccentricity_amount → IsRoot (unit * unit - k * k) u
    → IsRoot (unit * unit - i * i) v → Ends unit 1 (pos u) (pos v)
root_ends lo hi i k u v e f o w h r s =
    let a : i ≤ k = omega (arith, ints) in
    let b : k ≤ eccentricity_amount = omega (arith, ints) in
    let p = flatness_order i k u v a b r s in
    let q = flatness_narrow i k u v a (omega (arith, ints)) b r s in
    let x = flatness_small k u r in
    let y = flatness_small i v s in
    record { order = omega (arith, ints); low = record { low = omega (arith, ints); high = omega (arith, ints) }; high = record { low = omega (arith, ints); high = omega (arith, ints) }; width = omega (arith, ints) }
