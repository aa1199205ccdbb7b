use Rattle.std.proofs.Common.{◌*◌, arith, lit≤}
use Rattle.std.specs.Prelude.{pos, ◌-ℤ◌, ◌*ℤ◌}
use Rattle.std.proofs.lemmas.Int.{ints}
use Rattle.grid_model.specs.Angles.{unit}
use Rattle.fix_interval.proofs.ProductEnds.{amount_of, spread}
use Rattle.broadcast_orbit.specs.OrbitSizes.{eccentricity_amount, value_amount, eccentric_value_width}
use Rattle.broadcast_orbit.proofs.Chains.{less_ends, less_held, near_less}
use Rattle.broadcast_orbit.proofs.ellipse.ratio.Goals as goal

pub minus-requires-clause-low_size : goal.minus-requires-clause-low_size
minus-requires-clause-low_size c =
    let p = c.product.ensures.ends _ _ (spread eccentricity_amount 1 value_amount (2 * value_amount) 2000000000000002 unit _ _ c.requires.e_ends c.requires.cos_size (lit≤ tt) (lit≤ tt)) in
    record { low = omega (arith, ints); high = omega (arith, ints) }

pub minus-requires-clause-high_size : goal.minus-requires-clause-high_size
minus-requires-clause-high_size c =
    let p = c.product.ensures.ends _ _ (spread eccentricity_amount 1 value_amount (2 * value_amount) 2000000000000002 unit _ _ c.requires.e_ends c.requires.cos_size (lit≤ tt) (lit≤ tt)) in
    record { low = omega (arith, ints); high = omega (arith, ints) }

pub returns-clause-holds : goal.returns-clause-holds
returns-clause-holds c x d r p q n = less_held c.product.result c.minus.result r c.minus.ensures.low c.minus.ensures.high (c.product.ensures.holds x d (pos unit -ℤ r) p q (near_less (x *ℤ d) r n))

pub returns-clause-least : goal.returns-clause-least
returns-clause-least c =
    let p = c.product.ensures.ends _ _ (spread eccentricity_amount 1 value_amount (2 * value_amount) 2000000000000002 unit _ _ c.requires.e_ends c.requires.cos_size (lit≤ tt) (lit≤ tt)) in
    let e = c.minus.ensures.low in
    omega (arith, ints)

pub returns-clause-amount : goal.returns-clause-amount
returns-clause-amount c =
    let p = c.product.ensures.ends _ _ (spread eccentricity_amount 1 value_amount (2 * value_amount) 2000000000000002 unit _ _ c.requires.e_ends c.requires.cos_size (lit≤ tt) (lit≤ tt)) in
    amount_of _ _ _ _ (less_ends unit _ _ _ _ _ _ p c.minus.ensures.low c.minus.ensures.high)

pub returns-clause-narrow : goal.returns-clause-narrow
returns-clause-narrow c a =
    let p = c.product.ensures.ends _ _ (spread eccentricity_amount 1 value_amount eccentric_value_width 2000000000000002 96 _ _ c.requires.e_ends a (lit≤ tt) (lit≤ tt)) in
    less_ends unit _ _ _ _ _ _ p c.minus.ensures.low c.minus.ensures.high
