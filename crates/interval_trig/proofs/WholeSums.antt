-- The sums rounded to whole numbers: they move no faster than the rest.
use Rattle.std.proofs.Common.{◌≡◌, ℕ, ◌+◌, ◌-◌, ◌*◌, ◌^◌, ◌/◌, ◌≤◌, ◌<◌, arith, refl, ap, subst, lit≤, [], ◌∷◌}
use Rattle.std.proofs.lemmas.Nat.{mul-le}
use Rattle.std.proofs.Math.Nat.{mul-le-mul_right, mul-le-mul_left, le_of_mul-le-mul_left, le_trans, add-mul-div_right}
use Rattle.grid_model.specs.Angles.{unit}
use Rattle.interval_trig.specs.NestedSums.{greatest_rest, plain_num, nested_den, sine_15, cosine_16}
use Rattle.interval_trig.proofs.HornerSteps.{div_mono}
use Rattle.interval_trig.proofs.Monotone.{Falls, falls_all, rises, slope_by}
use Rattle.grid_model.proofs.RootLemmas.{square-mono as squares_rise}

-- a quotient rises by at most k where the numerator rises by at most k denominators
quotient_rises : (n m k e : ℕ) → 0 < e → n ≤ m → m ≤ n + k * e
    → (n / e ≤ m / e) × (m / e ≤ n / e + k)
quotient_rises n m k e p h l = (div_mono n m e p h, subst (λ (x : ℕ). m / e ≤ x) (add-mul-div_right n k p) (div_mono m (n + k * e) e p l))

-- the sum of degree 15 at a rest that is not negative, rounded down
unfoldable pub sine_whole : ℕ → ℕ
sine_whole a = a * plain_num (a * a) sine_15 / nested_den sine_15

unfoldable pub cosine_whole : ℕ → ℕ
cosine_whole a = unit * plain_num (a * a) cosine_16 / nested_den cosine_16

-- the sine rises, and no faster than its rest
pub sine_rises : (a b : ℕ) → a ≤ b → b ≤ greatest_rest
    → (sine_whole a ≤ sine_whole b) × (sine_whole b ≤ sine_whole a + (b - a))
unfolding sine_whole
sine_rises a b h k =
    let s : b * b ≤ unit ^ 2 = le_trans (mul-le b b greatest_rest greatest_rest k k) (lit≤ tt) in
    let w = falls_all (a * a) (b * b) (2 * 3) (4 * 5 ∷ 6 * 7 ∷ 8 * 9 ∷ 10 * 11 ∷ 12 * 13 ∷ 14 * 15 ∷ []) (squares_rise a b h) s (lit≤ tt) (search arith) in
    let r = rises (unit ^ 2) (2 * 3) a b (plain_num (a * a) sine_15) (plain_num (b * b) sine_15) (nested_den sine_15) (lit≤ tt) (lit≤ tt) h (omega arith) w in
    quotient_rises (a * plain_num (a * a) sine_15) (b * plain_num (b * b) sine_15) (b - a) (nested_den sine_15) (lit≤ tt) r.0 r.1

cosine_slope : (u a b f g e : ℕ) → 0 < u → a ≤ b → b ≤ u → g ≤ f
    → Falls ((u * u)) 2 (a * a) (b * b) f g e → u * f ≤ u * g + (b - a) * e
cosine_slope u a b f g e p h k o w =
    let s : (f - g) * (2 * (u * u)) ≤ ((b - a) * (a + b)) * e = slope_by ((u * u)) 2 a b f g e (b - a) (f - g) h (omega arith) (omega arith) w in
    let t : ((b - a) * (a + b)) * e ≤ ((b - a) * (2 * u)) * e = mul-le-mul_right e (mul-le-mul_left (b - a) (omega arith)) in
    let x : (2 * u) * (u * (f - g)) ≤ (2 * u) * ((b - a) * e) = omega arith in
    let y : u * (f - g) ≤ (b - a) * e = le_of_mul-le-mul_left x (omega arith) in
    let i : f ≡ g + (f - g) = omega arith in
    let j = ap (λ (n : ℕ). u * n) i in
    omega (arith, j)

-- the cosine falls, and no faster than its rest's amount rises
pub cosine_falls : (a b : ℕ) → a ≤ b → b ≤ greatest_rest
    → (cosine_whole b ≤ cosine_whole a) × (cosine_whole a ≤ cosine_whole b + (b - a))
unfolding cosine_whole
cosine_falls a b h k =
    let s : b * b ≤ unit ^ 2 = le_trans (mul-le b b greatest_rest greatest_rest k k) (lit≤ tt) in
    let w = falls_all (a * a) (b * b) (1 * 2) (3 * 4 ∷ 5 * 6 ∷ 7 * 8 ∷ 9 * 10 ∷ 11 * 12 ∷ 13 * 14 ∷ 15 * 16 ∷ []) (squares_rise a b h) s (lit≤ tt) (search arith) in
    quotient_rises (unit * plain_num (b * b) cosine_16) (unit * plain_num (a * a) cosine_16) (b - a) (nested_den cosine_16) (lit≤ tt)
    (mul-le-mul_left unit w.order) (cosine_slope unit a b (plain_num (a * a) cosine_16) (plain_num (b * b) cosine_16) (nested_den cosine_16) (lit≤ tt) h (le_trans k (lit≤ tt)) w.order w)

-- what is computed: the sums at 0 and at half a quarter turn, rounded down
abbrev pub seam : ℕ
seam = 7853981633974483

sine_at_zero : sine_whole 0 ≡ 0
unfolding sine_whole
sine_at_zero = refl

cosine_at_zero : cosine_whole 0 ≡ unit
unfolding cosine_whole
cosine_at_zero = refl

pub seam_below : sine_whole seam ≤ cosine_whole seam + 1
unfolding sine_whole cosine_whole
seam_below = lit≤ tt

pub seam_above : cosine_whole seam ≤ sine_whole seam + 1
unfolding sine_whole cosine_whole
seam_above = lit≤ tt

pub sine_small : (a : ℕ) → a ≤ greatest_rest → sine_whole a ≤ a
sine_small a h = omega (arith, sine_at_zero, (sine_rises 0 a (omega arith) h).1)

pub cosine_small : (a : ℕ) → a ≤ greatest_rest → cosine_whole a ≤ unit
cosine_small a h = omega (arith, cosine_at_zero, (cosine_falls 0 a (omega arith) h).0)
