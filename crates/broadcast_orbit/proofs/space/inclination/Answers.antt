use Rattle.std.proofs.Common.{◌*◌, ◌^◌, arith, lit≤}
use Rattle.std.specs.Prelude.{◌+ℤ◌}
use Rattle.std.proofs.lemmas.Int.{ints}
use Rattle.gnss_model.specs.RecordBounds.{angle_bound, rate_bound}
use Rattle.grid_model.proofs.SpreadLemmas.{products_fit}
use Rattle.fix_interval.proofs.ProductEnds.{amount_of}
use Rattle.broadcast_orbit.specs.OrbitSizes.{orbit_reach, after_width, angle_swing_amount, angle_swing_width}
use Rattle.broadcast_orbit.proofs.Chains.{field_ends, value_held, sum_has, sum_held}
use Rattle.broadcast_orbit.proofs.space.inclination.Goals as goal

pub advanced-requires-clause-high_size : goal.advanced-requires-clause-high_size
advanced-requires-clause-high_size c =
    let i = field_ends angle_bound c.args.el.now.i0 c.of_wide.result c.of_wide.ensures.low c.of_wide.ensures.high c.args.el.now.i0_within in
    let s = sum_has angle_bound 1 angle_swing_amount (2 * angle_swing_amount) c.of_wide.result c.args.correction c.plus-start.result c.plus-start.ensures.low c.plus-start.ensures.high i c.requires.correction_size in
    record { low = omega (arith, ints); high = omega (arith, ints) }

pub advanced-requires-clause-sizes : goal.advanced-requires-clause-sizes
advanced-requires-clause-sizes c = products_fit _ _ _ _ _ _ _ _ _ (lit≤ tt) (field_ends rate_bound c.args.el.now.idot c.of_wide-2.result c.of_wide-2.ensures.low c.of_wide-2.ensures.high c.args.el.now.idot_within) c.requires.after_size

pub returns-clause-holds : goal.returns-clause-holds
returns-clause-holds c i0 di idot t i p q r s n =
    let a = value_held c.args.el.now.i0 c.of_wide.result i0 c.of_wide.ensures.low c.of_wide.ensures.high p in
    let b = value_held c.args.el.now.idot c.of_wide-2.result idot c.of_wide-2.ensures.low c.of_wide-2.ensures.high r in
    c.advanced.ensures.holds (i0 +ℤ di) idot t i (sum_held c.of_wide.result c.args.correction c.plus-start.result i0 di c.plus-start.ensures.low c.plus-start.ensures.high a q) b s n

pub returns-clause-amount : goal.returns-clause-amount
returns-clause-amount c =
    let i = field_ends angle_bound c.args.el.now.i0 c.of_wide.result c.of_wide.ensures.low c.of_wide.ensures.high c.args.el.now.i0_within in
    let r = field_ends rate_bound c.args.el.now.idot c.of_wide-2.result c.of_wide-2.ensures.low c.of_wide-2.ensures.high c.args.el.now.idot_within in
    let s = sum_has angle_bound 1 angle_swing_amount (2 * angle_swing_amount) c.of_wide.result c.args.correction c.plus-start.result c.plus-start.ensures.low c.plus-start.ensures.high i c.requires.correction_size in
    amount_of _ _ _ _ (c.advanced.ensures.ends _ _ rate_bound 1 orbit_reach (2 * orbit_reach) 14501000000000 (10 ^ 20) s r c.requires.after_size (lit≤ tt) (lit≤ tt))

pub returns-clause-narrow : goal.returns-clause-narrow
returns-clause-narrow c a b =
    let i = field_ends angle_bound c.args.el.now.i0 c.of_wide.result c.of_wide.ensures.low c.of_wide.ensures.high c.args.el.now.i0_within in
    let r = field_ends rate_bound c.args.el.now.idot c.of_wide-2.result c.of_wide-2.ensures.low c.of_wide-2.ensures.high c.args.el.now.idot_within in
    let s = sum_has angle_bound 1 angle_swing_amount angle_swing_width c.of_wide.result c.args.correction c.plus-start.result c.plus-start.ensures.low c.plus-start.ensures.high i a in
    c.advanced.ensures.ends _ _ rate_bound 1 orbit_reach after_width 14501000000000 1 s r b (lit≤ tt) (lit≤ tt)
