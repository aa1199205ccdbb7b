-- Polynomials as lists of coefficients, so that products of sums are computed.
use Rattle.std.proofs.Common.{◌≡◌, ℕ, zero, suc, ◌+◌, ◌*◌, arith, sym, ap, ◌∙◌, List, [], ◌∷◌}
use Rattle.std.specs.Prelude.{ℤ, pos, negsuc, neg_ℤ, ◌-ℤ◌, ◌+ℤ◌, ◌*ℤ◌}
use Rattle.std.proofs.lemmas.Int.{ints}
use Rattle.grid_model.proofs.ProductLemmas.{distrib, add_mul, mul_neg, mul_assoc}
use Rattle.grid_model.specs.Angles.{unit}
use Rattle.grid_model.specs.Sizes.{IsWithin}
use Rattle.interval_trig.specs.NestedSums.{nested_num, nested_den}
use lib.IntN.{*ℤ_comm}
use Rattle.std.specs.Prelude.{nat_abs}
use Rattle.std.proofs.Common.{◌≤◌}
use Rattle.std.proofs.lemmas.Nat.{mul-le}
use Rattle.std.proofs.Common.{◌^◌}

abbrev pub eval : ℤ → List ℤ → ℤ
eval y [] = pos 0
eval y (c ∷ cs) = c +ℤ (y *ℤ eval y cs)

abbrev pub add : List ℤ → List ℤ → List ℤ
add [] q = q
add (c ∷ cs) [] = c ∷ cs
add (c ∷ cs) (d ∷ ds) = (c +ℤ d) ∷ add cs ds

abbrev pub scale : ℤ → List ℤ → List ℤ
scale k [] = []
scale k (c ∷ cs) = (k *ℤ c) ∷ scale k cs

abbrev pub mul : List ℤ → List ℤ → List ℤ
mul [] q = []
mul (c ∷ cs) q = add (scale c q) (pos 0 ∷ mul cs q)

zero_left : (a : ℤ) → pos 0 +ℤ a ≡ a
zero_left a = omega (arith, ints)

swap_sum : (a b c d : ℤ) → (a +ℤ b) +ℤ (c +ℤ d) ≡ (a +ℤ c) +ℤ (b +ℤ d)
swap_sum a b c d = omega (arith, ints)

pub eval-add : (y : ℤ) (p q : List ℤ) → eval y (add p q) ≡ eval y p +ℤ eval y q
eval-add y [] q = omega (arith, ints)
eval-add y (c ∷ cs) [] = omega (arith, ints)
eval-add y (c ∷ cs) (d ∷ ds) = ap (λ (z : ℤ). (c +ℤ d) +ℤ (y *ℤ z)) (eval-add y cs ds) ∙ ap (λ (z : ℤ). (c +ℤ d) +ℤ z) (distrib y (eval y cs) (eval y ds)) ∙ swap_sum c d (y *ℤ eval y cs) (y *ℤ eval y ds)

pub eval-scale : (y k : ℤ) (p : List ℤ) → eval y (scale k p) ≡ k *ℤ eval y p
eval-scale y k [] = omega (arith, ints)
eval-scale y k (c ∷ cs) = ap (λ (z : ℤ). (k *ℤ c) +ℤ (y *ℤ z)) (eval-scale y k cs) ∙ ap (λ (z : ℤ). (k *ℤ c) +ℤ z) (sym (mul_assoc y k (eval y cs)) ∙ ap (λ (z : ℤ). z *ℤ eval y cs) (*ℤ_comm y k) ∙ mul_assoc k y (eval y cs)) ∙ sym (distrib k c (y *ℤ eval y cs))

pub eval-mul : (y : ℤ) (p q : List ℤ) → eval y (mul p q) ≡ eval y p *ℤ eval y q
eval-mul y [] q = omega (arith, ints)
eval-mul y (c ∷ cs) q = eval-add y (scale c q) (pos 0 ∷ mul cs q) ∙ ap (λ (z : ℤ). z +ℤ (pos 0 +ℤ (y *ℤ eval y (mul cs q)))) (eval-scale y c q) ∙ ap (λ (z : ℤ). (c *ℤ eval y q) +ℤ (pos 0 +ℤ (y *ℤ z))) (eval-mul y cs q) ∙ ap (λ (z : ℤ). (c *ℤ eval y q) +ℤ z) (zero_left (y *ℤ (eval y cs *ℤ eval y q)) ∙ sym (mul_assoc y (eval y cs) (eval y q))) ∙ sym (add_mul c (y *ℤ eval y cs) (eval y q))

-- the nested numerator as a polynomial in the square
abbrev pub nested_poly : List ℕ → List ℤ
nested_poly [] = pos 1 ∷ []
nested_poly (d ∷ ds) = pos (d * unit ^ 2 * nested_den ds) ∷ scale (neg_ℤ (pos 1)) (nested_poly ds)

minus_one : (e : ℤ) → neg_ℤ (pos 1) *ℤ e ≡ neg_ℤ e
minus_one (pos zero) = omega (arith, ints)
minus_one (pos (suc n)) = omega (arith, ints)
minus_one (negsuc n) = omega (arith, ints)

pub nested_is_poly : (y : ℕ) (ds : List ℕ) → nested_num y ds ≡ eval (pos y) (nested_poly ds)
nested_is_poly y [] = omega (arith, ints)
nested_is_poly y (d ∷ ds) =
    ap (λ (z : ℤ). pos (d * unit ^ 2 * nested_den ds) -ℤ (pos y *ℤ z)) (nested_is_poly y ds) ∙
    ap (λ (z : ℤ). pos (d * unit ^ 2 * nested_den ds) +ℤ z) (sym (mul_neg (pos y) (eval (pos y) (nested_poly ds))) ∙ ap (λ (z : ℤ). pos y *ℤ z) (sym (minus_one (eval (pos y) (nested_poly ds))) ∙ sym (eval-scale (pos y) (neg_ℤ (pos 1)) (nested_poly ds))))

-- no value at a square up to z is more in amount
abbrev pub total : ℕ → List ℤ → ℕ
total z [] = 0
total z (c ∷ cs) = nat_abs c + z * total z cs

times_within : (y z t : ℕ) (e : ℤ) → y ≤ z → IsWithin t e → IsWithin (z * t) (pos y *ℤ e)
times_within y z t (pos n) h w = record { low = omega (arith, ints); high = omega (arith, ints, mul-le y n z t h (omega (arith, ints))) }
times_within zero z t (negsuc n) h w = record { low = omega (arith, ints); high = omega (arith, ints) }
times_within (suc y) z t (negsuc n) h w = record { low = omega (arith, ints, mul-le (suc y) (suc n) z t h (omega (arith, ints))); high = omega (arith, ints) }

sum_within : (c e : ℤ) (n : ℕ) → IsWithin n e → IsWithin (nat_abs c + n) (c +ℤ e)
sum_within c e n w = record { low = omega (arith, ints); high = omega (arith, ints) }

pub eval_within : (y z : ℕ) (cs : List ℤ) → y ≤ z → IsWithin (total z cs) (eval (pos y) cs)
eval_within y z [] h = record { low = omega (arith, ints); high = omega (arith, ints) }
eval_within y z (c ∷ cs) h = sum_within c (pos y *ℤ eval (pos y) cs) (z * total z cs) (times_within y z (total z cs) (eval (pos y) cs) h (eval_within y z cs h))
