-- The plain Taylor sums equal the nested ones.
use Rattle.std.proofs.Common.{◌≡◌, ℕ, suc, ◌-◌, ◌*◌, ◌^◌, ◌/◌, arith, sym, refl, ap, ◌∙◌, subst, List, [], ◌∷◌, ⊎_elim, inl, inr}
use Rattle.std.specs.Prelude.{ℤ, pos, nat_abs, ◌-ℤ◌, ◌+ℤ◌, ◌*ℤ◌, ◌≤ℤ◌}
use Rattle.std.proofs.lemmas.Int.{ints}
use lib.IntN.{*ℤ_comm}
use Rattle.grid_model.proofs.ProductLemmas.{distrib_less, mul_assoc, square_of_amount}
use Rattle.grid_model.specs.Angles.{unit}
use Rattle.grid_model.specs.Taylor.{factorial, power, term, taylor_sum, taylor_den, odd_to_15, odd_to_17, even_to_16, even_to_18, AtLeast, AtMost, BetweenSums, SineAt, CosineAt}
use Rattle.interval_trig.specs.NestedSums.{nested_num, nested_den, sine_15, sine_17, cosine_16, cosine_18, NestedAtLeast, NestedAtMost, NestedBetween, NestedSine, NestedCosine}
use Rattle.grid_model.proofs.PlainLemmas.{times_one, one_times}

-- the degrees rise by two, and the denominators of the nested sums are those of the terms
abbrev pub Agrees : ℕ → List ℕ → List ℕ → Type 0
Agrees last [] ds = ⊥
Agrees last (n ∷ []) [] = unit ^ (last - n) * (factorial last / factorial n) ≡ 1
Agrees last (n ∷ []) (d ∷ ds) = ⊥
Agrees last (n ∷ m ∷ ns) [] = ⊥
Agrees last (n ∷ m ∷ ns) (d ∷ ds) = (m ≡ suc (suc n)) × (unit ^ (last - n) * (factorial last / factorial n) ≡ d * unit ^ 2 * nested_den ds) × Agrees last (m ∷ ns) ds

two_more : (r p : ℤ) → r *ℤ (r *ℤ p) ≡ p *ℤ pos (nat_abs r * nat_abs r)
two_more r p = sym (mul_assoc r r p) ∙ ap (λ (z : ℤ). z *ℤ p) (square_of_amount r) ∙ *ℤ_comm (pos (nat_abs r * nat_abs r)) p

last_term_is : (p : ℤ) (w : ℕ) → w ≡ 1 → (p *ℤ pos w) -ℤ pos 0 ≡ p *ℤ pos 1
last_term_is p w e = rw e (omega (arith, ints))

pub taylor_is_nested : (last : ℕ) (r : ℤ) (n : ℕ) (ns : List ℕ) (ds : List ℕ)
    → Agrees last (n ∷ ns) ds
    → taylor_sum last r (n ∷ ns) ≡ power r n *ℤ nested_num (nat_abs r * nat_abs r) ds
taylor_is_nested last r n [] [] a = last_term_is (power r n) (unit ^ (last - n) * (factorial last / factorial n)) a
taylor_is_nested last r n [] (d ∷ ds) a = absurd a
taylor_is_nested last r n (m ∷ ns) [] a = absurd a
taylor_is_nested last r n (m ∷ ns) (d ∷ ds) a =
    let y = nat_abs r * nat_abs r in
    let h = taylor_is_nested last r m ns ds a.2 in
    let k : power r m ≡ power r n *ℤ pos y = ap (λ (j : ℕ). power r j) a.0 ∙ two_more r (power r n) in
    ap (λ (z : ℤ). term last r n -ℤ z) (h ∙ ap (λ (z : ℤ). z *ℤ nested_num y ds) k ∙ mul_assoc (power r n) (pos y) (nested_num y ds)) ∙
    ap (λ (w : ℕ). (power r n *ℤ pos w) -ℤ (power r n *ℤ (pos y *ℤ nested_num y ds))) a.1 ∙
    sym (distrib_less (power r n) (pos (d * unit ^ 2 * nested_den ds)) (pos y *ℤ nested_num y ds))

-- the four sums
agrees_15 : Agrees 15 odd_to_15 sine_15
agrees_15 = (refl, refl, (refl, refl, (refl, refl, (refl, refl, (refl, refl, (refl, refl, (refl, refl, refl)))))))

agrees_17 : Agrees 17 odd_to_17 sine_17
agrees_17 = (refl, refl, (refl, refl, (refl, refl, (refl, refl, (refl, refl, (refl, refl, (refl, refl, (refl, refl, refl))))))))

agrees_16 : Agrees 16 even_to_16 cosine_16
agrees_16 = (refl, refl, (refl, refl, (refl, refl, (refl, refl, (refl, refl, (refl, refl, (refl, refl, (refl, refl, refl))))))))

agrees_18 : Agrees 18 even_to_18 cosine_18
agrees_18 = (refl, refl, (refl, refl, (refl, refl, (refl, refl, (refl, refl, (refl, refl, (refl, refl, (refl, refl, (refl, refl, refl)))))))))

times_one_then : (r n : ℤ) → (r *ℤ pos 1) *ℤ n ≡ r *ℤ n
times_one_then r n = ap (λ (z : ℤ). z *ℤ n) (times_one r)

sine_sum_15 : (r : ℤ) → taylor_sum 15 r odd_to_15 ≡ r *ℤ nested_num (nat_abs r * nat_abs r) sine_15
sine_sum_15 r = taylor_is_nested 15 r 1 (3 ∷ 5 ∷ 7 ∷ 9 ∷ 11 ∷ 13 ∷ 15 ∷ []) sine_15 agrees_15 ∙ times_one_then r (nested_num (nat_abs r * nat_abs r) sine_15)

sine_sum_17 : (r : ℤ) → taylor_sum 17 r odd_to_17 ≡ r *ℤ nested_num (nat_abs r * nat_abs r) sine_17
sine_sum_17 r = taylor_is_nested 17 r 1 (3 ∷ 5 ∷ 7 ∷ 9 ∷ 11 ∷ 13 ∷ 15 ∷ 17 ∷ []) sine_17 agrees_17 ∙ times_one_then r (nested_num (nat_abs r * nat_abs r) sine_17)

cosine_sum_16 : (r : ℤ) → taylor_sum 16 r even_to_16 ≡ nested_num (nat_abs r * nat_abs r) cosine_16
cosine_sum_16 r = taylor_is_nested 16 r 0 (2 ∷ 4 ∷ 6 ∷ 8 ∷ 10 ∷ 12 ∷ 14 ∷ 16 ∷ []) cosine_16 agrees_16 ∙ one_times (nested_num (nat_abs r * nat_abs r) cosine_16)

cosine_sum_18 : (r : ℤ) → taylor_sum 18 r even_to_18 ≡ nested_num (nat_abs r * nat_abs r) cosine_18
cosine_sum_18 r = taylor_is_nested 18 r 0 (2 ∷ 4 ∷ 6 ∷ 8 ∷ 10 ∷ 12 ∷ 14 ∷ 16 ∷ 18 ∷ []) cosine_18 agrees_18 ∙ one_times (nested_num (nat_abs r * nat_abs r) cosine_18)

-- the sine's denominators have one unit less in the nested form
unit_left : (z : ℤ) (d : ℕ) → z *ℤ pos (unit * d) ≡ pos unit *ℤ (z *ℤ pos d)
unit_left z d = ap (λ (w : ℤ). z *ℤ w) (*ℤ_comm (pos unit) (pos d)) ∙ sym (mul_assoc z (pos d) (pos unit)) ∙ *ℤ_comm (z *ℤ pos d) (pos unit)

less_unit : (x y : ℤ) → (pos unit *ℤ x) ≤ℤ (pos unit *ℤ y) → x ≤ℤ y
less_unit x y h = omega (arith, ints)

more_unit : (x y : ℤ) → x ≤ℤ y → (pos unit *ℤ x) ≤ℤ (pos unit *ℤ y)
more_unit x y h = omega (arith, ints)

least_in : (t n s : ℤ) (d e : ℕ) → t ≡ n → e ≡ unit * d → AtLeast t e s → NestedAtLeast n d s
least_in t n s d e f g h = less_unit n ((s +ℤ pos 1) *ℤ pos d) (subst (λ (z : ℤ). (pos unit *ℤ n) ≤ℤ z) (ap (λ (m : ℕ). (s +ℤ pos 1) *ℤ pos m) g ∙ unit_left (s +ℤ pos 1) d) (subst (λ (z : ℤ). (pos unit *ℤ z) ≤ℤ ((s +ℤ pos 1) *ℤ pos e)) f h))

most_in : (t n s : ℤ) (d e : ℕ) → t ≡ n → e ≡ unit * d → AtMost t e s → NestedAtMost n d s
most_in t n s d e f g h = less_unit ((s -ℤ pos 1) *ℤ pos d) n (subst (λ (z : ℤ). z ≤ℤ (pos unit *ℤ n)) (ap (λ (m : ℕ). (s -ℤ pos 1) *ℤ pos m) g ∙ unit_left (s -ℤ pos 1) d) (subst (λ (z : ℤ). ((s -ℤ pos 1) *ℤ pos e) ≤ℤ (pos unit *ℤ z)) f h))

least_out : (t n s : ℤ) (d e : ℕ) → t ≡ n → e ≡ unit * d → NestedAtLeast n d s → AtLeast t e s
least_out t n s d e f g h = subst (λ (z : ℤ). (pos unit *ℤ z) ≤ℤ ((s +ℤ pos 1) *ℤ pos e)) (sym f) (subst (λ (z : ℤ). (pos unit *ℤ n) ≤ℤ z) (sym (ap (λ (m : ℕ). (s +ℤ pos 1) *ℤ pos m) g ∙ unit_left (s +ℤ pos 1) d)) (more_unit n ((s +ℤ pos 1) *ℤ pos d) h))

most_out : (t n s : ℤ) (d e : ℕ) → t ≡ n → e ≡ unit * d → NestedAtMost n d s → AtMost t e s
most_out t n s d e f g h = subst (λ (z : ℤ). ((s -ℤ pos 1) *ℤ pos e) ≤ℤ (pos unit *ℤ z)) (sym f) (subst (λ (z : ℤ). z ≤ℤ (pos unit *ℤ n)) (sym (ap (λ (m : ℕ). (s -ℤ pos 1) *ℤ pos m) g ∙ unit_left (s -ℤ pos 1) d)) (more_unit ((s -ℤ pos 1) *ℤ pos d) n h))

sine_both : (t n t' n' s : ℤ) (d e d' e' : ℕ) → t ≡ n → t' ≡ n' → d' ≡ unit * d → e' ≡ unit * e
    → BetweenSums t t' d' e' s → NestedBetween n n' d e s
sine_both t n t' n' s d e d' e' f g i j v = record {
  low = ⊎_elim (λ (h : AtLeast t d' s). inl (least_in t n s d d' f i h)) (λ (h : AtLeast t' e' s). inr (least_in t' n' s e e' g j h)) v.low;
  high = ⊎_elim (λ (h : AtMost t d' s). inl (most_in t n s d d' f i h)) (λ (h : AtMost t' e' s). inr (most_in t' n' s e e' g j h)) v.high;
}

sine_back : (t n t' n' s : ℤ) (d e d' e' : ℕ) → t ≡ n → t' ≡ n' → d' ≡ unit * d → e' ≡ unit * e
    → NestedBetween n n' d e s → BetweenSums t t' d' e' s
sine_back t n t' n' s d e d' e' f g i j v = record {
  low = ⊎_elim (λ (h : NestedAtLeast n d s). inl (least_out t n s d d' f i h)) (λ (h : NestedAtLeast n' e s). inr (least_out t' n' s e e' g j h)) v.low;
  high = ⊎_elim (λ (h : NestedAtMost n d s). inl (most_out t n s d d' f i h)) (λ (h : NestedAtMost n' e s). inr (most_out t' n' s e e' g j h)) v.high;
}

pub sine_in : (r s : ℤ) → SineAt r s → NestedSine r s
unfolding SineAt NestedSine
sine_in r s v = sine_both (taylor_sum 15 r odd_to_15) (r *ℤ nested_num (nat_abs r * nat_abs r) sine_15) (taylor_sum 17 r odd_to_17) (r *ℤ nested_num (nat_abs r * nat_abs r) sine_17) s (nested_den sine_15) (nested_den sine_17) (taylor_den 15) (taylor_den 17) (sine_sum_15 r) (sine_sum_17 r) refl refl v

pub sine_out : (r s : ℤ) → NestedSine r s → SineAt r s
unfolding SineAt NestedSine
sine_out r s v = sine_back (taylor_sum 15 r odd_to_15) (r *ℤ nested_num (nat_abs r * nat_abs r) sine_15) (taylor_sum 17 r odd_to_17) (r *ℤ nested_num (nat_abs r * nat_abs r) sine_17) s (nested_den sine_15) (nested_den sine_17) (taylor_den 15) (taylor_den 17) (sine_sum_15 r) (sine_sum_17 r) refl refl v

-- the cosine's sums and denominators are the same in both forms
cosine_low_in : (t n s : ℤ) (d : ℕ) → t ≡ n → AtLeast t d s → NestedAtLeast (pos unit *ℤ n) d s
cosine_low_in t n s d f h = subst (λ (z : ℤ). (pos unit *ℤ z) ≤ℤ ((s +ℤ pos 1) *ℤ pos d)) f h

cosine_high_in : (t n s : ℤ) (d : ℕ) → t ≡ n → AtMost t d s → NestedAtMost (pos unit *ℤ n) d s
cosine_high_in t n s d f h = subst (λ (z : ℤ). ((s -ℤ pos 1) *ℤ pos d) ≤ℤ (pos unit *ℤ z)) f h

cosine_both : (t n t' n' s : ℤ) (d e : ℕ) → t ≡ n → t' ≡ n' → BetweenSums t t' d e s
    → NestedBetween (pos unit *ℤ n) (pos unit *ℤ n') d e s
cosine_both t n t' n' s d e f g v = record {
  low = ⊎_elim (λ (h : AtLeast t d s). inl (cosine_low_in t n s d f h)) (λ (h : AtLeast t' e s). inr (cosine_low_in t' n' s e g h)) v.low;
  high = ⊎_elim (λ (h : AtMost t d s). inl (cosine_high_in t n s d f h)) (λ (h : AtMost t' e s). inr (cosine_high_in t' n' s e g h)) v.high;
}

cosine_back : (t n t' n' s : ℤ) (d e : ℕ) → t ≡ n → t' ≡ n'
    → NestedBetween (pos unit *ℤ n) (pos unit *ℤ n') d e s → BetweenSums t t' d e s
cosine_back t n t' n' s d e f g v = rw (f, g) (record { low = v.low; high = v.high })

pub cosine_in : (r s : ℤ) → CosineAt r s → NestedCosine r s
unfolding CosineAt NestedCosine
cosine_in r s v = cosine_both (taylor_sum 16 r even_to_16) (nested_num (nat_abs r * nat_abs r) cosine_16) (taylor_sum 18 r even_to_18) (nested_num (nat_abs r * nat_abs r) cosine_18) s (taylor_den 16) (taylor_den 18) (cosine_sum_16 r) (cosine_sum_18 r) v

pub cosine_out : (r s : ℤ) → NestedCosine r s → CosineAt r s
unfolding CosineAt NestedCosine
cosine_out r s v = cosine_back (taylor_sum 16 r even_to_16) (nested_num (nat_abs r * nat_abs r) cosine_16) (taylor_sum 18 r even_to_18) (nested_num (nat_abs r * nat_abs r) cosine_18) s (taylor_den 16) (taylor_den 18) (cosine_sum_16 r) (cosine_sum_18 r) v
