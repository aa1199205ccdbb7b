-- The whole sums at rests of either sign: values are near them, and they move no faster than the rest.
use Rattle.grid_model.proofs.ProductLemmas.{neg_within}
use Rattle.grid_model.proofs.IntervalLemmas.{neg_right, both_neg}
use Rattle.std.proofs.Common.{ℕ, zero, suc, ◌+◌, ◌≤◌, ◌<◌, arith, ⊎_elim}
use Rattle.std.specs.Prelude.{ℤ, pos, negsuc, neg_ℤ, ◌-ℤ◌, ◌+ℤ◌, ◌≤ℤ◌}
use Rattle.std.proofs.lemmas.Int.{ints, by_lt_z}
use Rattle.std.proofs.lemmas.Bool.{cases_lt}
use Rattle.grid_model.specs.Angles.{unit}
use Rattle.grid_model.specs.Intervals.{Close}
use Rattle.grid_model.specs.Sines.{by_quarter}
use Rattle.grid_model.specs.Sizes.{IsWithin}
use Rattle.grid_model.specs.Taylor.{SineAt, CosineAt}
use Rattle.interval_trig.specs.NestedSums.{greatest_rest}
use Rattle.interval_trig.proofs.Symmetry.{flip, cosine_even}
use Rattle.interval_trig.proofs.WholeSums.{sine_whole, cosine_whole, sine_rises, cosine_falls, sine_small, cosine_small}
use Rattle.interval_trig.proofs.SumGaps.{sine_near, cosine_near}

-- the whole sums at a rest of either sign
abbrev pub signed_sine : ℤ → ℤ
signed_sine (pos a) = pos (sine_whole a)
signed_sine (negsuc a) = neg_ℤ (pos (sine_whole (suc a)))

abbrev pub signed_cosine : ℤ → ℤ
signed_cosine (pos a) = pos (cosine_whole a)
signed_cosine (negsuc a) = pos (cosine_whole (suc a))

pub sine_value_near : (r s : ℤ) → IsWithin greatest_rest r → SineAt r s → Close 2 s (signed_sine r)
sine_value_near (pos a) s w v = sine_near a s (omega (arith, ints)) v
sine_value_near (negsuc a) s w v = neg_right 2 s (pos (sine_whole (suc a))) (sine_near (suc a) (neg_ℤ s) (omega (arith, ints)) (flip (negsuc a) s v))

pub cosine_value_near : (r s : ℤ) → IsWithin greatest_rest r → CosineAt r s
    → Close 2 s (signed_cosine r)
cosine_value_near (pos a) s w v = cosine_near a s (omega (arith, ints)) v
cosine_value_near (negsuc a) s w v = cosine_near (suc a) s (omega (arith, ints)) (cosine_even a s v)

-- the sine rises, and no faster than its rest
signed_sine_rises : (r q : ℤ) → r ≤ℤ q → IsWithin greatest_rest r → IsWithin greatest_rest q
    → (signed_sine r ≤ℤ signed_sine q) × (signed_sine q ≤ℤ (signed_sine r +ℤ (q -ℤ r)))
signed_sine_rises (pos a) (pos b) h v w = let k = sine_rises a b (omega (arith, ints)) (omega (arith, ints)) in (omega (arith, ints, k.0, k.1), omega (arith, ints, k.0, k.1))
signed_sine_rises (pos a) (negsuc b) h v w = absurd (omega (arith, ints))
signed_sine_rises (negsuc a) (pos b) h v w = let j = sine_small (suc a) (omega (arith, ints)) in let k = sine_small b (omega (arith, ints)) in (omega (arith, ints), omega (arith, ints, j, k))
signed_sine_rises (negsuc a) (negsuc b) h v w = let k = sine_rises (suc b) (suc a) (omega (arith, ints)) (omega (arith, ints)) in (omega (arith, ints, k.0, k.1), omega (arith, ints, k.0, k.1))

pub sine_close : (r q : ℤ) (d : ℕ) → Close d r q → IsWithin greatest_rest r
    → IsWithin greatest_rest q → Close d (signed_sine r) (signed_sine q)
sine_close r q d c v w = by_lt_z r q
    (λ h. let k = signed_sine_rises r q (omega (arith, ints)) v w in record { below = omega (arith, ints, k.0, k.1); above = omega (arith, ints, k.0, k.1) })
    (λ h. let k = signed_sine_rises q r h w v in record { below = omega (arith, ints, k.0, k.1); above = omega (arith, ints, k.0, k.1) })

cosine_apart : (a b d : ℕ) → a ≤ b + d → b ≤ a + d → a ≤ greatest_rest → b ≤ greatest_rest
    → Close d (pos (cosine_whole a)) (pos (cosine_whole b))
cosine_apart a b d h k v w = ⊎_elim
    (λ (l : a < b). let m = cosine_falls a b (omega arith) w in record { below = omega (arith, ints, m.0, m.1); above = omega (arith, ints, m.0, m.1) })
    (λ (l : b ≤ a). let m = cosine_falls b a l v in record { below = omega (arith, ints, m.0, m.1); above = omega (arith, ints, m.0, m.1) }) (cases_lt a b)

pub cosine_close : (r q : ℤ) (d : ℕ) → Close d r q → IsWithin greatest_rest r
    → IsWithin greatest_rest q → Close d (signed_cosine r) (signed_cosine q)
cosine_close (pos a) (pos b) d c v w = cosine_apart a b d (omega (arith, ints)) (omega (arith, ints)) (omega (arith, ints)) (omega (arith, ints))
cosine_close (pos a) (negsuc b) d c v w = cosine_apart a (suc b) d (omega (arith, ints)) (omega (arith, ints)) (omega (arith, ints)) (omega (arith, ints))
cosine_close (negsuc a) (pos b) d c v w = cosine_apart (suc a) b d (omega (arith, ints)) (omega (arith, ints)) (omega (arith, ints)) (omega (arith, ints))
cosine_close (negsuc a) (negsuc b) d c v w = cosine_apart (suc a) (suc b) d (omega (arith, ints)) (omega (arith, ints)) (omega (arith, ints)) (omega (arith, ints))

-- the whole sum of the function that a quarter names
abbrev pub whole_by : ℕ → ℤ → ℤ
whole_by zero r = signed_sine r
whole_by (suc zero) r = signed_cosine r
whole_by (suc (suc zero)) r = neg_ℤ (signed_sine r)
whole_by (suc (suc (suc n))) r = neg_ℤ (signed_cosine r)

pub value_near_whole : (n : ℕ) (r s : ℤ) → IsWithin greatest_rest r → by_quarter n r s
    → Close 2 s (whole_by n r)
value_near_whole zero r s w v = sine_value_near r s w v
value_near_whole (suc zero) r s w v = cosine_value_near r s w v
value_near_whole (suc (suc zero)) r s w v = neg_right 2 s (signed_sine r) (sine_value_near r (neg_ℤ s) w v)
value_near_whole (suc (suc (suc n))) r s w v = neg_right 2 s (signed_cosine r) (cosine_value_near r (neg_ℤ s) w v)

-- inside one quarter
pub inside : (n : ℕ) (r q : ℤ) (d : ℕ) → Close d r q → IsWithin greatest_rest r
    → IsWithin greatest_rest q → Close d (whole_by n r) (whole_by n q)
inside zero r q d c v w = sine_close r q d c v w
inside (suc zero) r q d c v w = cosine_close r q d c v w
inside (suc (suc zero)) r q d c v w = both_neg d (signed_sine r) (signed_sine q) (sine_close r q d c v w)
inside (suc (suc (suc n))) r q d c v w = both_neg d (signed_cosine r) (signed_cosine q) (cosine_close r q d c v w)

-- no sum is more than one in amount
signed_sine_small : (r : ℤ) → IsWithin greatest_rest r → IsWithin unit (signed_sine r)
signed_sine_small (pos a) w = let k = sine_small a (omega (arith, ints)) in record { low = omega (arith, ints, k); high = omega (arith, ints, k) }
signed_sine_small (negsuc a) w = let k = sine_small (suc a) (omega (arith, ints)) in record { low = omega (arith, ints, k); high = omega (arith, ints, k) }

signed_cosine_small : (r : ℤ) → IsWithin greatest_rest r → IsWithin unit (signed_cosine r)
signed_cosine_small (pos a) w = let k = cosine_small a (omega (arith, ints)) in record { low = omega (arith, ints, k); high = omega (arith, ints, k) }
signed_cosine_small (negsuc a) w = let k = cosine_small (suc a) (omega (arith, ints)) in record { low = omega (arith, ints, k); high = omega (arith, ints, k) }

pub whole_small : (n : ℕ) (r : ℤ) → IsWithin greatest_rest r → IsWithin unit (whole_by n r)
whole_small zero r w = signed_sine_small r w
whole_small (suc zero) r w = signed_cosine_small r w
whole_small (suc (suc zero)) r w = neg_within unit (signed_sine r) (signed_sine_small r w)
whole_small (suc (suc (suc n))) r w = neg_within unit (signed_cosine r) (signed_cosine_small r w)
