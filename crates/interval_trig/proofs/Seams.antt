-- The whole sums on both sides of a seam of two quarters.
use Rattle.grid_model.proofs.IntervalLemmas.{both_neg, neg_left}
use Rattle.std.proofs.Common.{ℕ, zero, suc, ◌+◌, ◌≤◌, arith}
use Rattle.std.specs.Prelude.{ℤ, pos, neg_ℤ, nat_abs, ◌-ℤ◌, ◌+ℤ◌}
use Rattle.std.proofs.lemmas.Int.{ints}
use Rattle.grid_model.specs.Intervals.{Close}
use Rattle.grid_model.specs.Sizes.{IsWithin}
use Rattle.interval_trig.specs.NestedSums.{greatest_rest}
use Rattle.interval_trig.proofs.WholeSums.{sine_whole, cosine_whole, seam, seam_below, seam_above}
use Rattle.interval_trig.proofs.QuarterLemmas.{next}
use Rattle.interval_trig.proofs.SignedSums.{signed_sine, signed_cosine, sine_close, cosine_close, whole_by}

-- across one seam, whose two sums are at most one apart
joined : (d e p q : ℕ) (a b : ℤ) → p ≤ q + 1 → q ≤ p + 1 → Close d a (pos p) → Close e b (pos q)
    → Close (d + e + 1) a b
joined d e p q a b h k v w = record { below = omega (arith, ints); above = omega (arith, ints) }

seam_within : IsWithin greatest_rest (pos seam)
seam_within = record { low = record { le = tt }; high = record { le = tt } }

less_seam_within : IsWithin greatest_rest (neg_ℤ (pos seam))
less_seam_within = record { low = record { le = tt }; high = record { le = tt } }

sine_to_cosine : (r q : ℤ) (d e : ℕ) → Close d r (pos seam) → Close e q (neg_ℤ (pos seam))
    → IsWithin greatest_rest r → IsWithin greatest_rest q
    → Close (d + e + 1) (signed_sine r) (signed_cosine q)
sine_to_cosine r q d e c f v w = joined d e (sine_whole seam) (cosine_whole seam) (signed_sine r) (signed_cosine q) seam_below seam_above (sine_close r (pos seam) d c v seam_within) (cosine_close q (neg_ℤ (pos seam)) e f w less_seam_within)

cosine_to_sine : (r q : ℤ) (d e : ℕ) → Close d r (pos seam) → Close e q (neg_ℤ (pos seam))
    → IsWithin greatest_rest r → IsWithin greatest_rest q
    → Close (d + e + 1) (signed_cosine r) (neg_ℤ (signed_sine q))
cosine_to_sine r q d e c f v w = joined d e (cosine_whole seam) (sine_whole seam) (signed_cosine r) (neg_ℤ (signed_sine q)) seam_above seam_below (cosine_close r (pos seam) d c v seam_within) (neg_left e (signed_sine q) (pos (sine_whole seam)) (sine_close q (neg_ℤ (pos seam)) e f w less_seam_within))

pub across : (n : ℕ) (r q : ℤ) (d e : ℕ) → Close d r (pos seam) → Close e q (neg_ℤ (pos seam))
    → IsWithin greatest_rest r → IsWithin greatest_rest q
    → Close (d + e + 1) (whole_by n r) (whole_by (next n) q)
across zero r q d e c f v w = sine_to_cosine r q d e c f v w
across (suc zero) r q d e c f v w = cosine_to_sine r q d e c f v w
across (suc (suc zero)) r q d e c f v w = both_neg (d + e + 1) (signed_sine r) (signed_cosine q) (sine_to_cosine r q d e c f v w)
across (suc (suc (suc n))) r q d e c f v w = neg_left (d + e + 1) (signed_cosine r) (signed_sine q) (cosine_to_sine r q d e c f v w)

pub to_seam : (r : ℤ) → Close (nat_abs (r -ℤ pos seam)) r (pos seam)
to_seam r = record { below = omega (arith, ints); above = omega (arith, ints) }

pub from_seam : (q : ℤ) → Close (nat_abs (q +ℤ pos seam)) q (neg_ℤ (pos seam))
from_seam q = record { below = omega (arith, ints); above = omega (arith, ints) }
