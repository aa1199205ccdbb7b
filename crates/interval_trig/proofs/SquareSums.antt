-- The squares of the two sums add up to nearly one, and so do those of the values.
use Rattle.std.proofs.Common.{◌≡◌, ℕ, ◌+◌, ◌*◌, ◌≤◌, ◌<◌, arith, sym, ap, ◌∙◌, lit≤, List, [], ◌∷◌}
use Rattle.std.specs.Prelude.{ℤ, pos, ◌+ℤ◌, ◌*ℤ◌}
use Rattle.std.proofs.lemmas.Int.{ints}
use Rattle.std.proofs.lemmas.Nat.{mul-le}
use Rattle.std.proofs.Math.Nat.{mul-le-mul_left, le_of_mul-le-mul_left}
use Rattle.grid_model.specs.Angles.{unit}
use Rattle.grid_model.specs.Sizes.{IsWithin}
use Rattle.interval_trig.specs.NestedSums.{greatest_rest, plain_num, nested_den, sine_15, cosine_16}
use Rattle.interval_trig.proofs.HornerSteps.{below_quotient, nested_is_plain, above_quotient as at_most_next}
use Rattle.interval_trig.proofs.PointValues.{square_small}
use Rattle.interval_trig.proofs.Polynomials.{eval, add, scale, mul, eval-add, eval-scale, eval-mul, nested_poly, nested_is_poly, total, eval_within}
use Rattle.interval_trig.proofs.WholeSums.{sine_whole, cosine_whole}

-- the sum of the squares of the two sums, over one denominator, as a polynomial in the rest's square
abbrev pub squares : List ℤ
squares = add (scale (pos (nested_den cosine_16 * nested_den cosine_16)) (pos 0 ∷ mul (nested_poly sine_15) (nested_poly sine_15))) (scale (pos (unit * unit * (nested_den sine_15 * nested_den sine_15))) (mul (nested_poly cosine_16) (nested_poly cosine_16)))

abbrev one_squared : ℕ
one_squared = unit * unit * (nested_den sine_15 * nested_den sine_15) * (nested_den cosine_16 * nested_den cosine_16)

abbrev first : List ℤ → ℤ
first [] = pos 0
first (c ∷ cs) = c

abbrev others : List ℤ → List ℤ
others [] = []
others (c ∷ cs) = pos 0 ∷ cs

first_and_others : (y : ℤ) (cs : List ℤ) → eval y cs ≡ first cs +ℤ eval y (others cs)
first_and_others y [] = omega (arith, ints)
first_and_others y (c ∷ cs) = omega (arith, ints)

-- the first coefficient is one; the others, of which the first eight are 0, add up to little
others_small : total (greatest_rest * greatest_rest) (others squares) ≤ unit * (nested_den sine_15 * nested_den sine_15) * (nested_den cosine_16 * nested_den cosine_16)
others_small = lit≤ tt

-- k and p are at most r apart
record Around (r k p : ℕ) : Type 0 where
  below : p ≤ k + r
  above : k ≤ p + r

around_of : (r t k p : ℕ) (e o : ℤ) → t ≤ r → IsWithin t o → e ≡ pos k +ℤ o → e ≡ pos p
    → Around r k p
around_of r t k p e o h w f g = record { below = omega (arith, ints); above = omega (arith, ints) }

zero_in : (e k l : ℕ) → (pos e *ℤ (pos 0 +ℤ pos k)) +ℤ pos l ≡ pos (e * k + l)
zero_in e k l = let h : 0 + k ≡ k = omega arith in ap (λ (n : ℕ). pos (e * n + l)) h

eval_squares : (y e d n m : ℕ) (p q : List ℤ) → eval (pos y) p ≡ pos n → eval (pos y) q ≡ pos m
    → eval (pos y) (add (scale (pos e) (pos 0 ∷ mul p p)) (scale (pos d) (mul q q))) ≡ pos (e * (y * (n * n)) + d * (m * m))
eval_squares y e d n m p q f g =
    let a : eval (pos y) (mul p p) ≡ pos (n * n) = eval-mul (pos y) p p ∙ ap (λ (z : ℤ). z *ℤ eval (pos y) p) f ∙ ap (λ (z : ℤ). pos n *ℤ z) f in
    let b : eval (pos y) (mul q q) ≡ pos (m * m) = eval-mul (pos y) q q ∙ ap (λ (z : ℤ). z *ℤ eval (pos y) q) g ∙ ap (λ (z : ℤ). pos m *ℤ z) g in
    let i : eval (pos y) (scale (pos e) (pos 0 ∷ mul p p)) ≡ pos e *ℤ (pos 0 +ℤ pos (y * (n * n))) = eval-scale (pos y) (pos e) (pos 0 ∷ mul p p) ∙ ap (λ (z : ℤ). pos e *ℤ (pos 0 +ℤ (pos y *ℤ z))) a in
    let j : eval (pos y) (scale (pos d) (mul q q)) ≡ pos (d * (m * m)) = eval-scale (pos y) (pos d) (mul q q) ∙ ap (λ (z : ℤ). pos d *ℤ z) b in
    eval-add (pos y) (scale (pos e) (pos 0 ∷ mul p p)) (scale (pos d) (mul q q)) ∙ ap (λ (z : ℤ). z +ℤ eval (pos y) (scale (pos d) (mul q q))) i ∙ ap (λ (z : ℤ). (pos e *ℤ (pos 0 +ℤ pos (y * (n * n)))) +ℤ z) j ∙ zero_in e (y * (n * n)) (d * (m * m))

-- the squares of the sums rounded down, from those of the fractions a n / d and u m / e
upper_squares : (u a n m d e s c : ℕ) → 0 < d * d * (e * e)
    → Around (u * (d * d) * (e * e)) (u * u * (d * d) * (e * e)) (e * e * (a * a * (n * n)) + u * u * (d * d) * (m * m))
    → s * d ≤ a * n → c * e ≤ u * m → s * s + c * c ≤ u * u + u
upper_squares u a n m d e s c p w h k =
    let x : (e * e) * ((s * d) * (s * d)) ≤ (e * e) * ((a * n) * (a * n)) = mul-le-mul_left (e * e) (mul-le (s * d) (s * d) (a * n) (a * n) h h) in
    let y : (d * d) * ((c * e) * (c * e)) ≤ (d * d) * ((u * m) * (u * m)) = mul-le-mul_left (d * d) (mul-le (c * e) (c * e) (u * m) (u * m) k k) in
    let z : (d * d * (e * e)) * (s * s + c * c) ≤ (d * d * (e * e)) * (u * u + u) = let b = w.below in omega arith in
    le_of_mul-le-mul_left z p

lower_squares : (u a n m d e s c : ℕ) → 0 < d * d * (e * e)
    → Around (u * (d * d) * (e * e)) (u * u * (d * d) * (e * e)) (e * e * (a * a * (n * n)) + u * u * (d * d) * (m * m))
    → a * n ≤ s * d → u * m ≤ c * e → u * u ≤ s * s + c * c + u
lower_squares u a n m d e s c p w h k =
    let x : (e * e) * ((a * n) * (a * n)) ≤ (e * e) * ((s * d) * (s * d)) = mul-le-mul_left (e * e) (mul-le (a * n) (a * n) (s * d) (s * d) h h) in
    let y : (d * d) * ((u * m) * (u * m)) ≤ (d * d) * ((c * e) * (c * e)) = mul-le-mul_left (d * d) (mul-le (u * m) (u * m) (c * e) (c * e) k k) in
    let z : (d * d * (e * e)) * (u * u) ≤ (d * d * (e * e)) * (s * s + c * c + u) = let b = w.above in omega arith in
    le_of_mul-le-mul_left z p

-- the squares of the whole sums
pub record WholeSquares (s c : ℕ) : Type 0 where
  pub below : s * s + c * c ≤ unit * unit + unit
  pub above : unit * unit ≤ (s + 1) * (s + 1) + (c + 1) * (c + 1) + unit

squares_around : (a : ℕ) → a ≤ greatest_rest
    → Around (unit * (nested_den sine_15 * nested_den sine_15) * (nested_den cosine_16 * nested_den cosine_16)) one_squared
    (nested_den cosine_16 * nested_den cosine_16 * (a * a * (plain_num (a * a) sine_15 * plain_num (a * a) sine_15)) + unit * unit * (nested_den sine_15 * nested_den sine_15) * (plain_num (a * a) cosine_16 * plain_num (a * a) cosine_16))
squares_around a h =
    let f : eval (pos (a * a)) (nested_poly sine_15) ≡ pos (plain_num (a * a) sine_15) = sym (nested_is_poly (a * a) sine_15) ∙ nested_is_plain (a * a) sine_15 (square_small a h) (search arith) in
    let g : eval (pos (a * a)) (nested_poly cosine_16) ≡ pos (plain_num (a * a) cosine_16) = sym (nested_is_poly (a * a) cosine_16) ∙ nested_is_plain (a * a) cosine_16 (square_small a h) (search arith) in
    around_of _ (total (greatest_rest * greatest_rest) (others squares)) one_squared _ (eval (pos (a * a)) squares) (eval (pos (a * a)) (others squares)) others_small
    (eval_within (a * a) (greatest_rest * greatest_rest) (others squares) (mul-le a a greatest_rest greatest_rest h h)) (first_and_others (pos (a * a)) squares)
    (eval_squares (a * a) (nested_den cosine_16 * nested_den cosine_16) (unit * unit * (nested_den sine_15 * nested_den sine_15)) (plain_num (a * a) sine_15) (plain_num (a * a) cosine_16) (nested_poly sine_15) (nested_poly cosine_16) f g)

pub whole_squares : (a : ℕ) → a ≤ greatest_rest → WholeSquares (sine_whole a) (cosine_whole a)
unfolding sine_whole cosine_whole
whole_squares a h = record {
  below = upper_squares unit a (plain_num (a * a) sine_15) (plain_num (a * a) cosine_16) (nested_den sine_15) (nested_den cosine_16) (sine_whole a) (cosine_whole a) (lit≤ tt) (squares_around a h) (below_quotient (a * plain_num (a * a) sine_15) (nested_den sine_15)) (below_quotient (unit * plain_num (a * a) cosine_16) (nested_den cosine_16));
  above = lower_squares unit a (plain_num (a * a) sine_15) (plain_num (a * a) cosine_16) (nested_den sine_15) (nested_den cosine_16) (sine_whole a + 1) (cosine_whole a + 1) (lit≤ tt) (squares_around a h) (at_most_next (a * plain_num (a * a) sine_15) (nested_den sine_15) (lit≤ tt)) (at_most_next (unit * plain_num (a * a) cosine_16) (nested_den cosine_16) (lit≤ tt));
}
