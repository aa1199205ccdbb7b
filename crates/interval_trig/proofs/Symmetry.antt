-- The sine is odd and the cosine even: from the value at the amount of a rest to that at the rest.
use Rattle.std.proofs.Common.{◌≡◌, ℕ, zero, suc, ◌*◌, arith, sym, refl, ap, ◌∙◌, subst, ⊎_elim, inl, inr}
use Rattle.std.specs.Prelude.{ℤ, pos, negsuc, neg_ℤ, nat_abs, ◌-ℤ◌, ◌+ℤ◌, ◌*ℤ◌, ◌≤ℤ◌}
use Rattle.std.proofs.lemmas.Int.{ints}
use Rattle.grid_model.proofs.ProductLemmas.{neg_mul}
use Rattle.grid_model.specs.Taylor.{SineAt, CosineAt}
use Rattle.interval_trig.specs.NestedSums.{NestedSine, NestedCosine, NestedBetween, NestedAtLeast, NestedAtMost, nested_num, nested_den, sine_15, sine_17}
use Rattle.interval_trig.proofs.NestedSums.{sine_in, sine_out, cosine_in, cosine_out}

abs_neg : (r : ℤ) → nat_abs r ≡ nat_abs (neg_ℤ r)
abs_neg (pos zero) = refl
abs_neg (pos (suc n)) = refl
abs_neg (negsuc n) = refl

flip_low : (n s : ℤ) (d : ℕ) → NestedAtMost n d s → NestedAtLeast (neg_ℤ n) d (neg_ℤ s)
flip_low n s d h = let e : neg_ℤ (s -ℤ pos 1) ≡ neg_ℤ s +ℤ pos 1 = omega (arith, ints) in subst (λ (z : ℤ). neg_ℤ n ≤ℤ (z *ℤ pos d)) e (subst (λ (z : ℤ). neg_ℤ n ≤ℤ z) (sym (neg_mul (s -ℤ pos 1) (pos d))) (omega (arith, ints)))

flip_high : (n s : ℤ) (d : ℕ) → NestedAtLeast n d s → NestedAtMost (neg_ℤ n) d (neg_ℤ s)
flip_high n s d h = let e : neg_ℤ (s +ℤ pos 1) ≡ neg_ℤ s -ℤ pos 1 = omega (arith, ints) in subst (λ (z : ℤ). (z *ℤ pos d) ≤ℤ neg_ℤ n) e (subst (λ (z : ℤ). z ≤ℤ neg_ℤ n) (sym (neg_mul (s +ℤ pos 1) (pos d))) (omega (arith, ints)))

flip_sums : (n m : ℤ) (d e : ℕ) (s : ℤ) → NestedBetween n m d e s
    → NestedBetween (neg_ℤ n) (neg_ℤ m) d e (neg_ℤ s)
flip_sums n m d e s v = record { low = ⊎_elim (λ (h : NestedAtMost n d s). inl (flip_low n s d h)) (λ (h : NestedAtMost m e s). inr (flip_low m s e h)) v.high; high = ⊎_elim (λ (h : NestedAtLeast n d s). inl (flip_high n s d h)) (λ (h : NestedAtLeast m e s). inr (flip_high m s e h)) v.low }

flip_nested : (r s : ℤ) → NestedSine r s → NestedSine (neg_ℤ r) (neg_ℤ s)
unfolding NestedSine
flip_nested r s v =
    subst (λ (a : ℕ). NestedBetween (neg_ℤ r *ℤ nested_num (a * a) sine_15) (neg_ℤ r *ℤ nested_num (a * a) sine_17) (nested_den sine_15) (nested_den sine_17) (neg_ℤ s)) (abs_neg r)
    (subst (λ (z : ℤ). NestedBetween z (neg_ℤ r *ℤ nested_num (nat_abs r * nat_abs r) sine_17) (nested_den sine_15) (nested_den sine_17) (neg_ℤ s)) (sym (neg_mul r (nested_num (nat_abs r * nat_abs r) sine_15)))
    (subst (λ (z : ℤ). NestedBetween (neg_ℤ (r *ℤ nested_num (nat_abs r * nat_abs r) sine_15)) z (nested_den sine_15) (nested_den sine_17) (neg_ℤ s)) (sym (neg_mul r (nested_num (nat_abs r * nat_abs r) sine_17)))
    (flip_sums (r *ℤ nested_num (nat_abs r * nat_abs r) sine_15) (r *ℤ nested_num (nat_abs r * nat_abs r) sine_17) (nested_den sine_15) (nested_den sine_17) s v)))

pub flip : (r s : ℤ) → SineAt r s → SineAt (neg_ℤ r) (neg_ℤ s)
flip r s v = sine_out (neg_ℤ r) (neg_ℤ s) (flip_nested r s (sine_in r s v))

pub natural : (r : ℤ) → pos 0 ≤ℤ r → r ≡ pos (nat_abs r)
natural (pos n) h = refl
natural (negsuc n) h = absurd (omega (arith, ints))

negative : (r : ℤ) → r ≤ℤ pos 0 → neg_ℤ (pos (nat_abs r)) ≡ r
negative (pos zero) h = refl
negative (pos (suc n)) h = absurd (omega (arith, ints))
negative (negsuc n) h = refl

-- the other way round: from the value at the amount of a rest
pub value_from_up : (r s t : ℤ) (a : ℕ) → pos 0 ≤ℤ r → a ≡ nat_abs r → t ≡ s → SineAt (pos a) s
    → SineAt r t
value_from_up r s t a h e f v = rw f (subst (λ (z : ℤ). SineAt z s) (ap pos e ∙ sym (natural r h)) v)

pub value_from_down : (r s t : ℤ) (a : ℕ) → r ≤ℤ pos 0 → a ≡ nat_abs r → t ≡ neg_ℤ s
    → SineAt (pos a) s → SineAt r t
value_from_down r s t a h e f v = rw f (subst (λ (z : ℤ). SineAt z (neg_ℤ s)) (ap (λ (n : ℕ). neg_ℤ (pos n)) e ∙ negative r h) (flip (pos a) s v))

-- the cosine is even
even_nested : (r s : ℤ) → NestedCosine (pos (nat_abs r)) s → NestedCosine r s
unfolding NestedCosine
even_nested (pos n) s v = v
even_nested (negsuc n) s v = v

even_back : (a : ℕ) (s : ℤ) → NestedCosine (negsuc a) s → NestedCosine (pos (suc a)) s
unfolding NestedCosine
even_back a s v = v

pub cosine_even : (a : ℕ) (s : ℤ) → CosineAt (negsuc a) s → CosineAt (pos (suc a)) s
cosine_even a s v = cosine_out (pos (suc a)) s (even_back a s (cosine_in (negsuc a) s v))

pub same_amount : (r s : ℤ) → CosineAt (pos (nat_abs r)) s → CosineAt r s
same_amount r s v = cosine_out r s (even_nested r s (cosine_in (pos (nat_abs r)) s v))

pub cosine_from : (r s t : ℤ) (a : ℕ) → a ≡ nat_abs r → t ≡ s → CosineAt (pos a) s → CosineAt r t
cosine_from r s t a e f v = rw f (same_amount r s (subst (λ (n : ℕ). CosineAt (pos n) s) e v))
