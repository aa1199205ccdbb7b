-- The values of the sine and the cosine at one angle: the law on their squares.
use Rattle.grid_model.proofs.ProductLemmas.{square_of_amount}
use Rattle.std.proofs.Common.{◌≡◌, ℕ, zero, suc, ◌+◌, ◌-◌, ◌*◌, ◌≤◌, ◌<◌, arith, refl, ap, ◌∙◌, subst, lit≤, ⊎_elim, ◌⊎◌, inl, inr}
use Rattle.std.specs.Prelude.{ℤ, pos, negsuc, neg_ℤ, nat_abs, ◌+ℤ◌}
use Rattle.std.proofs.lemmas.Int.{ints}
use Rattle.std.proofs.lemmas.Bool.{cases_lt}
use Rattle.std.proofs.lemmas.Nat.{mul-le}
use Rattle.std.proofs.Math.Nat.{mul-le-mul_left, le_trans}
use Rattle.grid_model.specs.Angles.{unit, quarter, IsRest}
use Rattle.grid_model.specs.Intervals.{Close}
use Rattle.grid_model.specs.Sines.{by_quarter, Sine, Cosine, NearCircle, modulo_4}
use Rattle.grid_model.specs.Sizes.{IsWithin}
use Rattle.interval_trig.specs.NestedSums.{greatest_rest}
use Rattle.interval_trig.proofs.WholeSums.{sine_whole, cosine_whole, sine_small, cosine_small}
use Rattle.interval_trig.proofs.SquareSums.{WholeSquares, whole_squares}
use Rattle.interval_trig.proofs.QuarterLemmas.{next, turn_next, rest_small, rests_in_quarter}
use Rattle.interval_trig.proofs.SignedSums.{whole_by, value_near_whole, inside, signed_sine, signed_cosine}

-- the squares of two numbers that are at most d apart
record SquaresNear (p s d : ℕ) : Type 0 where
  below : p * p ≤ s * s + 2 * (d * s) + d * d
  above : s * s ≤ p * p + 2 * (d * s)

square_above : (p s x d : ℕ) → s ≡ p + x → x ≤ d → s * s ≤ p * p + 2 * (d * s)
square_above p s x d e h =
    let a : x * (p + s) ≤ d * (2 * s) = mul-le x (p + s) d (2 * s) h (omega arith) in
    let i : s * s ≡ (p + x) * s = ap (λ (n : ℕ). n * s) e in
    let j : p * s ≡ p * (p + x) = ap (λ (n : ℕ). p * n) e in
    omega arith

squares_near : (p s d : ℕ) → p ≤ s + d → s ≤ p + d → SquaresNear p s d
squares_near p s d h k = record {
  below = let a : p * p ≤ (s + d) * (s + d) = mul-le p p (s + d) (s + d) h h in omega arith;
  above = ⊎_elim (λ (l : p < s). square_above p s (s - p) d (omega arith) (omega arith)) (λ (l : s ≤ p). let a : s * s ≤ p * p = mul-le s s p p l l in omega arith) (cases_lt p s);
}

-- p is at most 2 from the whole sine and q at most 4 from the whole cosine, or the other way round
record AddUp (p q : ℕ) : Type 0 where
  below : p * p + q * q ≤ unit * unit + 16 * unit
  above : unit * unit ≤ p * p + q * q + 16 * unit

add_up : (p q s c d e : ℕ) → d ≤ 4 → e ≤ 4 → d + e ≤ 6 → s ≤ greatest_rest → c ≤ unit
    → WholeSquares s c → SquaresNear p s d → SquaresNear q c e → AddUp p q
add_up p q s c d e hd he hs k l w f g =
    let a : d * s ≤ d * greatest_rest = mul-le-mul_left d k in
    let b : e * c ≤ e * unit = mul-le-mul_left e l in
    let x : d * d ≤ 4 * 4 = mul-le d d 4 4 hd hd in
    let y : e * e ≤ 4 * 4 = mul-le e e 4 4 he he in
    record { below = omega arith; above = omega arith }

swap : (p q : ℕ) → AddUp p q → AddUp q p
swap p q w = record { below = omega arith; above = omega arith }

abbrev Amounts : ℕ → ℤ → ℕ → ℕ → Type 0
Amounts i r s c = (nat_abs (whole_by i r) ≡ s) × (nat_abs (whole_by (next i) r) ≡ c)

sine_amount : (r : ℤ) → nat_abs (signed_sine r) ≡ sine_whole (nat_abs r)
sine_amount (pos a) = refl
sine_amount (negsuc a) = omega (arith, ints)

cosine_amount : (r : ℤ) → nat_abs (signed_cosine r) ≡ cosine_whole (nat_abs r)
cosine_amount (pos a) = refl
cosine_amount (negsuc a) = refl

amount_neg : (z : ℤ) → nat_abs (neg_ℤ z) ≡ nat_abs z
amount_neg z = omega (arith, ints)

amounts : (i : ℕ) (r : ℤ)
    → Amounts i r (sine_whole (nat_abs r)) (cosine_whole (nat_abs r)) ⊎ Amounts i r (cosine_whole (nat_abs r)) (sine_whole (nat_abs r))
amounts zero r = inl (sine_amount r, cosine_amount r)
amounts (suc zero) r = inr (cosine_amount r, amount_neg (signed_sine r) ∙ sine_amount r)
amounts (suc (suc zero)) r = inl (amount_neg (signed_sine r) ∙ sine_amount r, amount_neg (signed_cosine r) ∙ cosine_amount r)
amounts (suc (suc (suc n))) r = inr (amount_neg (signed_cosine r) ∙ cosine_amount r, sine_amount r)

near_amount : (s w : ℤ) (a d : ℕ) → Close d s w → nat_abs w ≡ a → SquaresNear (nat_abs s) a d
near_amount s w a d c e = squares_near (nat_abs s) a d (omega (arith, ints)) (omega (arith, ints))

farther : (s w v : ℤ) → Close 2 s w → Close 2 v w → Close 4 s v
farther s w v c k = record { below = omega (arith, ints); above = omega (arith, ints) }

squares_add_up : (i : ℕ) (r s c : ℤ) → IsWithin greatest_rest r → Close 2 s (whole_by i r)
    → Close 4 c (whole_by (next i) r) → AddUp (nat_abs s) (nat_abs c)
squares_add_up i r s c w f g =
    let h : nat_abs r ≤ greatest_rest = omega (arith, ints) in
    let t = whole_squares (nat_abs r) h in
    let k : sine_whole (nat_abs r) ≤ greatest_rest = le_trans (sine_small (nat_abs r) h) h in
    let l = cosine_small (nat_abs r) h in
    ⊎_elim
    (λ (a : Amounts i r (sine_whole (nat_abs r)) (cosine_whole (nat_abs r))). add_up (nat_abs s) (nat_abs c) (sine_whole (nat_abs r)) (cosine_whole (nat_abs r)) 2 4 (lit≤ tt) (lit≤ tt) (lit≤ tt) k l t (near_amount s (whole_by i r) (sine_whole (nat_abs r)) 2 f a.0) (near_amount c (whole_by (next i) r) (cosine_whole (nat_abs r)) 4 g a.1))
    (λ (a : Amounts i r (cosine_whole (nat_abs r)) (sine_whole (nat_abs r))). swap (nat_abs c) (nat_abs s) (add_up (nat_abs c) (nat_abs s) (sine_whole (nat_abs r)) (cosine_whole (nat_abs r)) 4 2 (lit≤ tt) (lit≤ tt) (lit≤ tt) k l t (near_amount c (whole_by (next i) r) (sine_whole (nat_abs r)) 4 g a.1) (near_amount s (whole_by i r) (cosine_whole (nat_abs r)) 2 f a.0)))
    (amounts i r)

circle_of : (s c : ℤ) → AddUp (nat_abs s) (nat_abs c) → NearCircle s c
circle_of s c w = let e = square_of_amount s in let f = square_of_amount c in record { below = rw (e, f) (omega (arith, ints)); above = rw (e, f) (omega (arith, ints)) }

near_circle : (x s c r q : ℤ) (i j : ℕ) → j ≡ next i → IsRest x r → IsRest x q → by_quarter i r s
    → by_quarter j q c → NearCircle s c
near_circle x s c r q i j e a b u v =
    let w = rest_small x r a in
    let k = rest_small x q b in
    let f : Close 2 r q = rests_in_quarter x x r q 0 (record { below = omega (arith, ints); above = omega (arith, ints) }) refl a b in
    let g = value_near_whole (next i) q c k (subst (λ (n : ℕ). by_quarter n q c) e v) in
    circle_of s c (squares_add_up i r s c w (value_near_whole i r s w u) (farther c (whole_by (next i) q) (whole_by (next i) r) g (inside (next i) r q 2 f w k)))

-- the law: s^2 + c^2 is within 16 units of one, for every value s of the sine and c of the cosine of an angle
pub sine_and_cosine : (x s c : ℤ) → Sine x s → Cosine x c → NearCircle s c
unfolding Sine Cosine
sine_and_cosine x s c u v = near_circle x s c u.0 v.0 (modulo_4 (quarter x)) (modulo_4 (quarter x +ℤ pos 1)) (turn_next (quarter x)) u.1 v.1 u.2 v.2
