-- Each angle has a value of the sine and one of the cosine: the whole sums.
use Rattle.std.proofs.Common.{◌≡◌, ℕ, zero, suc, ◌+◌, ◌*◌, ◌/◌, ◌≤◌, ◌<◌, arith, sym, refl, subst, lit≤, inl}
use Rattle.std.specs.Prelude.{ℤ, pos, negsuc, neg_ℤ, ◌+ℤ◌, ◌-ℤ◌, ◌*ℤ◌}
use Rattle.std.specs.Int.{int_div_euclid}
use Rattle.std.proofs.lemmas.Int.{ints}
use Rattle.grid_model.specs.Sizes.{IsWithin}
use Rattle.grid_model.specs.Angles.{unit, quarter, quarter_turn, IsRest}
use Rattle.grid_model.specs.Taylor.{SineAt, CosineAt}
use Rattle.grid_model.specs.Sines.{by_quarter, modulo_4, Sine, Cosine}
use Rattle.grid_model.proofs.RoundingLemmas.{floor_is}
use Rattle.interval_trig.specs.NestedSums.{greatest_rest, plain_num, nested_den, sine_15, sine_17, cosine_16, cosine_18, NestedBetween, NestedSine, NestedCosine}
use Rattle.interval_trig.proofs.HornerSteps.{above_quotient, below_quotient, nested_is_plain}
use Rattle.interval_trig.proofs.PointValues.{at_most_of, square_small}
use Rattle.interval_trig.proofs.NestedSums.{sine_out, cosine_out}
use Rattle.interval_trig.proofs.Symmetry.{flip, same_amount}
use Rattle.interval_trig.proofs.Rests.{floor_is_rest, neg_back}
use Rattle.interval_trig.proofs.WholeSums.{sine_whole, cosine_whole}
use Rattle.interval_trig.proofs.QuarterLemmas.{rest_small}
use Rattle.interval_trig.proofs.SignedSums.{signed_sine, signed_cosine, whole_by}

-- a fraction rounded down is between the sums
between_sums : (a n den e : ℕ) (m m' : ℤ) → 0 < den → m ≡ pos n
    → NestedBetween (pos a *ℤ m) m' den e (pos (a * n / den))
between_sums a n den e m m' p f =
    let x : a * n ≤ (a * n / den + 1) * den = above_quotient (a * n) den p in
    let y : a * n / den * den ≤ a * n + den = let z = below_quotient (a * n) den in omega arith in
    rw f (record { low = inl (omega (arith, ints)); high = inl (at_most_of (a * n / den) den (a * n) y) })

sine_value : (a : ℕ) → a ≤ greatest_rest → SineAt (pos a) (pos (sine_whole a))
unfolding NestedSine sine_whole
sine_value a h = sine_out (pos a) _ (between_sums a (plain_num (a * a) sine_15) (nested_den sine_15) (nested_den sine_17) _ _ (lit≤ tt) (nested_is_plain (a * a) sine_15 (square_small a h) (search arith)))

cosine_value : (a : ℕ) → a ≤ greatest_rest → CosineAt (pos a) (pos (cosine_whole a))
unfolding NestedCosine cosine_whole
cosine_value a h = cosine_out (pos a) _ (between_sums unit (plain_num (a * a) cosine_16) (nested_den cosine_16) (nested_den cosine_18) _ _ (lit≤ tt) (nested_is_plain (a * a) cosine_16 (square_small a h) (search arith)))

signed_sine_value : (r : ℤ) → IsWithin greatest_rest r → SineAt r (signed_sine r)
signed_sine_value (pos a) w = sine_value a (omega (arith, ints))
signed_sine_value (negsuc a) w = flip (pos (suc a)) (pos (sine_whole (suc a))) (sine_value (suc a) (omega (arith, ints)))

signed_cosine_value : (r : ℤ) → IsWithin greatest_rest r → CosineAt r (signed_cosine r)
signed_cosine_value (pos a) w = cosine_value a (omega (arith, ints))
signed_cosine_value (negsuc a) w = same_amount (negsuc a) (pos (cosine_whole (suc a))) (cosine_value (suc a) (omega (arith, ints)))

-- the whole sum of the function that a quarter names is a value
whole_value : (n : ℕ) (r : ℤ) → IsWithin greatest_rest r → by_quarter n r (whole_by n r)
whole_value zero r w = signed_sine_value r w
whole_value (suc zero) r w = signed_cosine_value r w
whole_value (suc (suc zero)) r w = subst (λ (z : ℤ). SineAt r z) (sym (neg_back (signed_sine r) (neg_ℤ (signed_sine r)) refl)) (signed_sine_value r w)
whole_value (suc (suc (suc n))) r w = subst (λ (z : ℤ). CosineAt r z) (sym (neg_back (signed_cosine r) (neg_ℤ (signed_cosine r)) refl)) (signed_cosine_value r w)

-- what is left of x without its quarters
abbrev left : ℤ → ℤ
left x = (pos 10000 *ℤ x) -ℤ (quarter x *ℤ pos quarter_turn)

abbrev rest : ℤ → ℤ
rest x = int_div_euclid (left x) (pos 10000)

rest_is : (x : ℤ) → IsRest x (rest x)
rest_is x = floor_is_rest x (quarter x) (left x) (rest x) refl refl (floor_is (left x) (pos 10000) (record { lt = tt }))

pub sine_exists : (x : ℤ) → (s : ℤ) × Sine x s
unfolding Sine
sine_exists x = (whole_by (modulo_4 (quarter x)) (rest x), (rest x, rest_is x, whole_value (modulo_4 (quarter x)) (rest x) (rest_small x (rest x) (rest_is x))))

pub cosine_exists : (x : ℤ) → (s : ℤ) × Cosine x s
unfolding Cosine
cosine_exists x = (whole_by (modulo_4 (quarter x +ℤ pos 1)) (rest x), (rest x, rest_is x, whole_value (modulo_4 (quarter x +ℤ pos 1)) (rest x) (rest_small x (rest x) (rest_is x))))
