-- The sum of the squares of a cosine and a sine goes with the sum of two angles.
use Rattle.std.proofs.Common.{◌≡◌, ℕ, ◌+◌, ◌*◌, ◌≤◌, arith, sym, ap, ◌∙◌, subst}
use Rattle.std.specs.Prelude.{ℤ, pos, nat_abs, ◌+ℤ◌, ◌-ℤ◌, ◌*ℤ◌, ◌≤ℤ◌}
use Rattle.std.proofs.lemmas.Int.{ints}
use lib.IntN.{*ℤ_comm}
use Rattle.grid_model.specs.Angles.{unit}
use Rattle.grid_model.specs.Intervals.{Between}
use Rattle.grid_model.specs.Rounding.{Near}
use Rattle.grid_model.specs.Sizes.{IsWithin}
use Rattle.grid_model.proofs.ProductLemmas.{mul_mono, add_mul, distrib, distrib_less, product_within, square_of_amount, swap4, less_mul}
use Rattle.grid_model.proofs.RootLemmas.{square-mono}

pub square_of_sum : (a b : ℤ)
    → (a +ℤ b) *ℤ (a +ℤ b) ≡ (a *ℤ a) +ℤ (a *ℤ b) +ℤ ((a *ℤ b) +ℤ (b *ℤ b))
square_of_sum a b = add_mul a b (a +ℤ b) ∙ (let p = distrib a a b in let q = distrib b a b in let r = *ℤ_comm b a in omega (arith, ints))

pub square_of_difference : (a b : ℤ)
    → (a -ℤ b) *ℤ (a -ℤ b) ≡ (a *ℤ a) -ℤ (a *ℤ b) -ℤ ((a *ℤ b) -ℤ (b *ℤ b))
square_of_difference a b = less_mul a b (a -ℤ b) ∙ (let p = distrib_less a a b in let q = distrib_less b a b in let r = *ℤ_comm b a in omega (arith, ints))

-- the law of two squares
pub pair_squares : (a b c d : ℤ)
    → (((a *ℤ c) -ℤ (b *ℤ d)) *ℤ ((a *ℤ c) -ℤ (b *ℤ d))) +ℤ (((b *ℤ c) +ℤ (a *ℤ d)) *ℤ ((b *ℤ c) +ℤ (a *ℤ d))) ≡ ((a *ℤ a) +ℤ (b *ℤ b)) *ℤ ((c *ℤ c) +ℤ (d *ℤ d))
pair_squares a b c d =
    let p = square_of_difference (a *ℤ c) (b *ℤ d) in
    let q = square_of_sum (b *ℤ c) (a *ℤ d) in
    let e = swap4 a a c c in
    let f = swap4 b b d d in
    let g = swap4 b b c c in
    let h = swap4 a a d d in
    let i : (a *ℤ c) *ℤ (b *ℤ d) ≡ (b *ℤ c) *ℤ (a *ℤ d) = swap4 a b c d ∙ ap (λ (z : ℤ). z *ℤ (c *ℤ d)) (*ℤ_comm a b) ∙ sym (swap4 b a c d) in
    let k = add_mul (a *ℤ a) (b *ℤ b) ((c *ℤ c) +ℤ (d *ℤ d)) in
    let l = distrib (a *ℤ a) (c *ℤ c) (d *ℤ d) in
    let m = distrib (b *ℤ b) (c *ℤ c) (d *ℤ d) in
    omega (arith, ints)

-- ---- squares of numbers that are near

difference_of_squares : (x y : ℤ) → (x -ℤ y) *ℤ (x +ℤ y) ≡ (x *ℤ x) -ℤ (y *ℤ y)
difference_of_squares x y = less_mul x y (x +ℤ y) ∙ (let p = distrib x x y in let q = distrib y x y in let r = *ℤ_comm y x in omega (arith, ints))

pub near_squares : (x y : ℤ) (d m : ℕ) → IsWithin d (x -ℤ y) → IsWithin m y
    → IsWithin (d * (d + 2 * m)) ((x *ℤ x) -ℤ (y *ℤ y))
near_squares x y d m v w = subst (λ (z : ℤ). IsWithin (d * (d + 2 * m)) z) (difference_of_squares x y) (product_within d (d + 2 * m) (x -ℤ y) (x +ℤ y) v (record { low = omega (arith, ints, v.low, w.low); high = omega (arith, ints, v.high, w.high) }))

-- a number near a fraction times the denominator is near the numerator
pub times_near : (n d v : ℤ) (m : ℕ) → d ≤ℤ pos m → Near n d v → IsWithin m ((v *ℤ d) -ℤ n)
times_near n d v m h i = record { low = omega (arith, ints, i.above); high = omega (arith, ints, i.below) }

-- the sum of the squares of a and b is from low to high
abbrev pub Squares : ℕ → ℕ → ℤ → ℤ → Type 0
Squares low high a b = Between (pos low) (pos high) ((a *ℤ a) +ℤ (b *ℤ b))

pub square_natural : (z : ℤ) → pos 0 ≤ℤ (z *ℤ z)
square_natural z = rw (square_of_amount z) (omega (arith, ints))

pub side_within : (n : ℕ) (z : ℤ) → (z *ℤ z) ≤ℤ pos (n * n) → IsWithin n z
side_within n z h =
    let e = square_of_amount z in
    let k : nat_abs z * nat_abs z ≤ n * n = omega (arith, ints) in
    let l : nat_abs z ≤ n = grind (arith, square-mono (n + 1) (nat_abs z), k) in
    record { low = omega (arith, ints); high = omega (arith, ints) }

pub first_within : (n low high : ℕ) (a b : ℤ) → high ≤ n * n → Squares low high a b → IsWithin n a
first_within n low high a b h s = let t = s.to in let q = square_natural b in side_within n a (omega (arith, ints))

pub second_within : (n low high : ℕ) (a b : ℤ) → high ≤ n * n → Squares low high a b → IsWithin n b
second_within n low high a b h s = let t = s.to in let q = square_natural a in side_within n b (omega (arith, ints))

-- a product of numbers that are not negative
pub product_between : (s0 s1 t0 t1 : ℕ) (x y : ℤ) → Between (pos s0) (pos s1) x
    → Between (pos t0) (pos t1) y → Between (pos (s0 * t0)) (pos (s1 * t1)) (x *ℤ y)
product_between s0 s1 t0 t1 x y p q =
    let a : (pos s0 *ℤ y) ≤ℤ (x *ℤ y) = mul_mono (pos s0) x y p.from (omega (arith, ints, q.from)) in
    let b : (x *ℤ y) ≤ℤ (pos s1 *ℤ y) = mul_mono x (pos s1) y p.to (omega (arith, ints, q.from)) in
    let c : (pos t0 *ℤ pos s0) ≤ℤ (y *ℤ pos s0) = mul_mono (pos t0) y (pos s0) q.from (omega (arith, ints)) in
    let d : (y *ℤ pos s1) ≤ℤ (pos t1 *ℤ pos s1) = mul_mono y (pos t1) (pos s1) q.to (omega (arith, ints)) in
    let e = *ℤ_comm (pos s0) y in
    let f = *ℤ_comm (pos s1) y in
    record { from = omega (arith, ints); to = omega (arith, ints) }

difference_within : (m : ℕ) (x y : ℤ) → IsWithin m x → IsWithin m y → IsWithin (2 * m) (x -ℤ y)
difference_within m x y p q = record { low = omega (arith, ints, p.low, q.high); high = omega (arith, ints, p.high, q.low) }

sum_within : (m : ℕ) (x y : ℤ) → IsWithin m x → IsWithin m y → IsWithin (2 * m) (x +ℤ y)
sum_within m x y p q = record { low = omega (arith, ints, p.low, q.low); high = omega (arith, ints, p.high, q.high) }

-- what is left of a rounding over one
abbrev pub slip : ℕ
slip = unit * (unit + 2 * (8 * (unit * unit)))

close_sums : (j0 j1 s t : ℕ) (pp qq P Q w : ℤ) → IsWithin slip (pp -ℤ P) → IsWithin slip (qq -ℤ Q)
    → P +ℤ Q ≡ w → Between (pos s) (pos t) w → j0 * (unit * unit) + 2 * slip ≤ s
    → t + 2 * slip ≤ j1 * (unit * unit)
    → Between (pos (j0 * (unit * unit))) (pos (j1 * (unit * unit))) (pp +ℤ qq)
close_sums j0 j1 s t pp qq P Q w a b e p h k = record { from = omega (arith, ints, a.low, b.low, p.from); to = omega (arith, ints, a.high, b.high, p.to) }

back_sums : (j0 j1 : ℕ) (p q pp qq : ℤ) → pp ≡ p *ℤ pos (unit * unit) → qq ≡ q *ℤ pos (unit * unit)
    → Between (pos (j0 * (unit * unit))) (pos (j1 * (unit * unit))) (pp +ℤ qq)
    → Between (pos j0) (pos j1) (p +ℤ q)
back_sums j0 j1 p q pp qq e f b = record { from = omega (arith, ints, b.from); to = omega (arith, ints, b.to) }

-- the cosine and the sine of the sum of two angles
pub pair_near : (s0 s1 t0 t1 j0 j1 : ℕ) (a b c d p q : ℤ) → Squares s0 s1 a b → Squares t0 t1 c d
    → Near ((a *ℤ c) -ℤ (b *ℤ d)) (pos unit) p → Near ((b *ℤ c) +ℤ (a *ℤ d)) (pos unit) q
    → s1 ≤ (2 * unit) * (2 * unit) → t1 ≤ (2 * unit) * (2 * unit)
    → j0 * (unit * unit) + 2 * slip ≤ s0 * t0 → s1 * t1 + 2 * slip ≤ j1 * (unit * unit)
    → Squares j0 j1 p q
pair_near s0 s1 t0 t1 j0 j1 a b c d p q S T m n h k low high =
    let A = first_within (2 * unit) s0 s1 a b h S in
    let B = second_within (2 * unit) s0 s1 a b h S in
    let C = first_within (2 * unit) t0 t1 c d k T in
    let D = second_within (2 * unit) t0 t1 c d k T in
    let P : IsWithin (8 * (unit * unit)) ((a *ℤ c) -ℤ (b *ℤ d)) = difference_within (4 * (unit * unit)) (a *ℤ c) (b *ℤ d) (product_within (2 * unit) (2 * unit) a c A C) (product_within (2 * unit) (2 * unit) b d B D) in
    let Q : IsWithin (8 * (unit * unit)) ((b *ℤ c) +ℤ (a *ℤ d)) = sum_within (4 * (unit * unit)) (b *ℤ c) (a *ℤ d) (product_within (2 * unit) (2 * unit) b c B C) (product_within (2 * unit) (2 * unit) a d A D) in
    let U = near_squares (p *ℤ pos unit) ((a *ℤ c) -ℤ (b *ℤ d)) unit (8 * (unit * unit)) (times_near ((a *ℤ c) -ℤ (b *ℤ d)) (pos unit) p unit (record { le = tt }) m) P in
    let V = near_squares (q *ℤ pos unit) ((b *ℤ c) +ℤ (a *ℤ d)) unit (8 * (unit * unit)) (times_near ((b *ℤ c) +ℤ (a *ℤ d)) (pos unit) q unit (record { le = tt }) n) Q in
    back_sums j0 j1 (p *ℤ p) (q *ℤ q) ((p *ℤ pos unit) *ℤ (p *ℤ pos unit)) ((q *ℤ pos unit) *ℤ (q *ℤ pos unit)) (swap4 p p (pos unit) (pos unit)) (swap4 q q (pos unit) (pos unit))
    (close_sums j0 j1 (s0 * t0) (s1 * t1) ((p *ℤ pos unit) *ℤ (p *ℤ pos unit)) ((q *ℤ pos unit) *ℤ (q *ℤ pos unit)) (((a *ℤ c) -ℤ (b *ℤ d)) *ℤ ((a *ℤ c) -ℤ (b *ℤ d))) (((b *ℤ c) +ℤ (a *ℤ d)) *ℤ ((b *ℤ c) +ℤ (a *ℤ d))) _ U V (pair_squares a b c d) (product_between s0 s1 t0 t1 _ _ S T) low high)
