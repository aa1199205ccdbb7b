use Rattle.std.proofs.Common.{◌*◌, ◌^◌, arith, lit≤}
use Rattle.std.specs.Prelude.{pos, ◌-ℤ◌, ◌<ℤ◌}
use Rattle.std.proofs.lemmas.Int.{ints}
use Rattle.grid_model.specs.Angles.{unit}
use Rattle.grid_model.proofs.EndsLemmas.{quotient_ends}
use Rattle.fix_interval.proofs.ProductEnds.{amount_of}
use Rattle.broadcast_orbit.specs.OrbitSizes.{eccentricity_amount, value_amount, eccentric_value_width, ratio_amount, ratio_width, least_ratio}
use Rattle.broadcast_orbit.proofs.Chains.{difference_has, difference_held, one_within}
use Rattle.broadcast_orbit.proofs.ellipse.true_cosine.Goals as goal

pub returns-clause-holds : goal.returns-clause-holds
returns-clause-holds c d x r v p q s n = c.over.ensures.holds (d -ℤ x) r v (difference_held c.args.cos_e c.args.e c.minus.result d x c.minus.ensures.low c.minus.ensures.high p q) s n

pub returns-clause-amount : goal.returns-clause-amount
returns-clause-amount c =
    let p : pos 0 <ℤ c.args.ratio.lo = let l = c.requires.least in omega (arith, ints) in
    let d = difference_has value_amount (2 * value_amount) eccentricity_amount 1 c.args.cos_e c.args.e c.minus.result c.minus.ensures.low c.minus.ensures.high c.requires.cos_size c.requires.e_ends in
    amount_of _ _ _ _ (quotient_ends _ _ ratio_amount (2 * ratio_amount) 15000000000000018 (10 ^ 17) unit least_ratio (pos unit) _ _ _ _ _ _ d c.requires.ratio_size one_within p c.requires.least (lit≤ tt) (lit≤ tt) c.over.result.ordered c.over.ensures.tight)

pub returns-clause-narrow : goal.returns-clause-narrow
returns-clause-narrow c a b =
    let p : pos 0 <ℤ c.args.ratio.lo = let l = c.requires.least in omega (arith, ints) in
    let d = difference_has value_amount eccentric_value_width eccentricity_amount 1 c.args.cos_e c.args.e c.minus.result c.minus.ensures.low c.minus.ensures.high a c.requires.e_ends in
    quotient_ends _ _ ratio_amount ratio_width 15000000000000018 1075 unit least_ratio (pos unit) _ _ _ _ _ _ d b one_within p c.requires.least (lit≤ tt) (lit≤ tt) c.over.result.ordered c.over.ensures.tight
