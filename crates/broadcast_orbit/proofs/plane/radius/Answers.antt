use Rattle.std.proofs.Common.{◌+◌, ◌*◌, arith, lit≤}
use Rattle.std.specs.Prelude.{pos, ◌*ℤ◌}
use Rattle.std.proofs.lemmas.Int.{ints}
use Rattle.grid_model.specs.Angles.{unit}
use Rattle.fix_interval.proofs.InsideLemmas.{held, inside_of, moved_inside}
use Rattle.fix_interval.proofs.ProductEnds.{amount_of, spread}
use Rattle.broadcast_orbit.specs.OrbitSizes.{axis_amount, axis_width, ratio_amount, ratio_width, radius_swing_amount, radius_swing_width}
use Rattle.broadcast_orbit.proofs.Chains.{sum_has}
use Rattle.broadcast_orbit.proofs.plane.radius.Goals as goal

pub plus-requires-clause-low_size : goal.plus-requires-clause-low_size
plus-requires-clause-low_size c =
    let p = c.product.ensures.ends _ _ (spread axis_amount axis_width ratio_amount (2 * ratio_amount) 52272000000003 (5 * unit) _ _ c.requires.axis_ends c.requires.ratio_size (lit≤ tt) (lit≤ tt)) in
    record { low = omega (arith, ints); high = omega (arith, ints) }

pub plus-requires-clause-high_size : goal.plus-requires-clause-high_size
plus-requires-clause-high_size c =
    let p = c.product.ensures.ends _ _ (spread axis_amount axis_width ratio_amount (2 * ratio_amount) 52272000000003 (5 * unit) _ _ c.requires.axis_ends c.requires.ratio_size (lit≤ tt) (lit≤ tt)) in
    record { low = omega (arith, ints); high = omega (arith, ints) }

pub returns-clause-holds : goal.returns-clause-holds
returns-clause-holds c a g dr r p q s n =
    let e = c.plus.ensures.low in
    let f = c.plus.ensures.high in
    rw (e, f) (held _ (pos unit) _ _ r (record { lt = tt }) (moved_inside (a *ℤ g) dr (pos unit) _ _ _ _ (record { lt = tt }) (inside_of (a *ℤ g) (pos unit) _ _ (record { lt = tt }) (λ v. c.product.ensures.holds a g v p q)) s) n)

pub returns-clause-amount : goal.returns-clause-amount
returns-clause-amount c =
    let p = c.product.ensures.ends _ _ (spread axis_amount axis_width ratio_amount (2 * ratio_amount) 52272000000003 (5 * unit) _ _ c.requires.axis_ends c.requires.ratio_size (lit≤ tt) (lit≤ tt)) in
    amount_of _ _ _ _ (sum_has 52272000000005 (5 * unit + 4) radius_swing_amount (2 * radius_swing_amount) c.product.result c.args.correction c.plus.result c.plus.ensures.low c.plus.ensures.high p c.requires.correction_size)

pub returns-clause-narrow : goal.returns-clause-narrow
returns-clause-narrow c a b =
    let p = c.product.ensures.ends _ _ (spread axis_amount axis_width ratio_amount ratio_width 52272000000003 7 _ _ c.requires.axis_ends a (lit≤ tt) (lit≤ tt)) in
    sum_has 52272000000005 11 radius_swing_amount radius_swing_width c.product.result c.args.correction c.plus.result c.plus.ensures.low c.plus.ensures.high p b
