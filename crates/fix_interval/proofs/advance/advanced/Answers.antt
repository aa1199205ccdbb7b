use Rattle.std.proofs.Common.{◌+◌, ◌^◌, arith}
use Rattle.std.specs.Prelude.{ℤ, pos, ◌+ℤ◌, ◌-ℤ◌, ◌*ℤ◌, ◌≤ℤ◌}
use Rattle.std.proofs.lemmas.Int.{ints}
use Rattle.gnss_model.specs.EarthModel.{rate_scale}
use Rattle.grid_model.specs.Intervals.{Ends}
use Rattle.grid_model.specs.Products.{ProductsWithin, least_product, greatest_product}
use Rattle.grid_model.specs.Rounding.{IsTightRound}
use Rattle.grid_model.specs.Sizes.{IsWithin}
use Rattle.grid_model.proofs.EndsLemmas.{product_ends, sum_ends}
use Rattle.fix_interval.proofs.NearLemmas.{near_without, any_product_ends, between_sums}
use Rattle.fix_interval.proofs.advance.advanced.Goals as goal

small : (a b c d l h : ℤ) → ProductsWithin (10 ^ 38) a b c d → l ≤ℤ h
    → IsTightRound (least_product a b c d) (pos rate_scale) (greatest_product a b c d) (pos rate_scale) l h
    → Ends (10 ^ 20 + 2) (10 ^ 20 + 10 ^ 20 + 4) l h
small a b c d l h p o t = any_product_ends (10 ^ 20) (pos rate_scale) a b c d l h (record { lt = tt }) (10 ^ 38) (record { le = tt }) p o t

sum_within : (x y : ℤ) → IsWithin (10 ^ 37) x → IsWithin (10 ^ 20 + 2) y
    → IsWithin (10 ^ 38) (x +ℤ y)
sum_within x y p q = record { low = omega (arith, ints); high = omega (arith, ints) }

pub plus-requires-clause-low_size : goal.plus-requires-clause-low_size
plus-requires-clause-low_size c =
    let e = small c.args.rate.lo c.args.rate.hi c.args.time.lo c.args.time.hi c.times_over.result.lo c.times_over.result.hi c.requires.sizes c.times_over.result.ordered c.times_over.ensures.tight in
    sum_within c.args.value.lo c.times_over.result.lo c.requires.low_size e.low

pub plus-requires-clause-high_size : goal.plus-requires-clause-high_size
plus-requires-clause-high_size c =
    let e = small c.args.rate.lo c.args.rate.hi c.args.time.lo c.args.time.hi c.times_over.result.lo c.times_over.result.hi c.requires.sizes c.times_over.result.ordered c.times_over.ensures.tight in
    sum_within c.args.value.hi c.times_over.result.hi c.requires.high_size e.high

pub returns-clause-holds : goal.returns-clause-holds
returns-clause-holds c a b t v p q r n =
    between_sums c.args.value.lo c.args.value.hi c.times_over.result.lo c.times_over.result.hi c.plus.result.lo c.plus.result.hi a v p
    (c.times_over.ensures.holds b t (v -ℤ a) q r (near_without a (b *ℤ t) (pos rate_scale) v n)) c.plus.ensures.low c.plus.ensures.high

pub returns-clause-ends : goal.returns-clause-ends
returns-clause-ends c l u m v n w j k e f g x y =
    let z = product_ends m v n w j k c.args.rate.lo c.args.rate.hi c.args.time.lo c.args.time.hi (pos rate_scale) c.times_over.result.lo c.times_over.result.hi f g (record { lt = tt }) (omega (arith, ints)) (omega (arith, ints)) c.times_over.result.ordered c.times_over.ensures.tight in
    rw (c.plus.ensures.low, c.plus.ensures.high) (sum_ends l u (j + 2) (k + 4) c.args.value.lo c.args.value.hi c.times_over.result.lo c.times_over.result.hi e z)
