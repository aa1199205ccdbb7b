use Rattle.std.proofs.Common.{◌*◌, ◌^◌, arith, lit≤}
use Rattle.std.specs.Prelude.{pos, ◌+ℤ◌, ◌-ℤ◌, ◌*ℤ◌}
use Rattle.std.proofs.lemmas.Int.{ints}
use Rattle.gnss_model.specs.EarthModel.{earth_rate, rate_scale}
use Rattle.gnss_model.specs.RecordBounds.{angle_bound, rate_bound, week}
use Rattle.grid_model.proofs.EndsLemmas.{product_ends}
use Rattle.grid_model.proofs.SpreadLemmas.{products_fit}
use Rattle.fix_interval.proofs.InsideLemmas.{held, inside_of, difference_inside}
use Rattle.fix_interval.proofs.ProductEnds.{amount_of}
use Rattle.broadcast_orbit.specs.OrbitSizes.{orbit_reach, after_width}
use Rattle.broadcast_orbit.proofs.Chains.{field_ends, range_ends, value_held, difference_has, less_number, less_number_held}
use Rattle.grid_model.proofs.PlainLemmas.{held_itself}
use Rattle.broadcast_orbit.proofs.space.node.Goals as goal
use Rattle.grid_model.proofs.IntervalLemmas.{one_number}

pub advanced-requires-clause-sizes : goal.advanced-requires-clause-sizes
advanced-requires-clause-sizes c =
    let d = field_ends rate_bound c.args.el.now.om_dot c.of_wide.result c.of_wide.ensures.low c.of_wide.ensures.high c.args.el.now.om_dot_within in
    products_fit _ _ _ _ _ _ _ _ _ (lit≤ tt) (less_number earth_rate rate_bound 1 _ _ c.minus-rate.result.lo c.minus-rate.result.hi d c.minus-rate.ensures.low c.minus-rate.ensures.high) c.requires

pub minus-requires-clause-low_size : goal.minus-requires-clause-low_size
minus-requires-clause-low_size c =
    let d = field_ends rate_bound c.args.el.now.om_dot c.of_wide.result c.of_wide.ensures.low c.of_wide.ensures.high c.args.el.now.om_dot_within in
    let r = less_number earth_rate rate_bound 1 _ _ c.minus-rate.result.lo c.minus-rate.result.hi d c.minus-rate.ensures.low c.minus-rate.ensures.high in
    let e = range_ends 0 week c.args.el.now.toe_week c.of_wide-2.result c.of_wide-2.ensures.low c.of_wide-2.ensures.high c.args.el.now.toe_within in
    let s = product_ends earth_rate 0 week 1 441027124072416000 1 _ _ _ _ (pos (10 ^ 18)) _ _ (one_number earth_rate) e (record { lt = tt }) (record { le = tt }) (record { le = tt }) c.times_over-start.result.ordered c.times_over-start.ensures.tight in
    let o = field_ends angle_bound c.args.el.now.om0 c.of_wide-3.result c.of_wide-3.ensures.low c.of_wide-3.ensures.high c.args.el.now.om0_within in
    let a = c.advanced.ensures.ends angle_bound 1 _ 1 orbit_reach (2 * orbit_reach) 10588797174229670 (10 ^ 20) o r c.requires (lit≤ tt) (lit≤ tt) in
    record { low = omega (arith, ints); high = omega (arith, ints) }

pub minus-requires-clause-high_size : goal.minus-requires-clause-high_size
minus-requires-clause-high_size c =
    let d = field_ends rate_bound c.args.el.now.om_dot c.of_wide.result c.of_wide.ensures.low c.of_wide.ensures.high c.args.el.now.om_dot_within in
    let r = less_number earth_rate rate_bound 1 _ _ c.minus-rate.result.lo c.minus-rate.result.hi d c.minus-rate.ensures.low c.minus-rate.ensures.high in
    let e = range_ends 0 week c.args.el.now.toe_week c.of_wide-2.result c.of_wide-2.ensures.low c.of_wide-2.ensures.high c.args.el.now.toe_within in
    let s = product_ends earth_rate 0 week 1 441027124072416000 1 _ _ _ _ (pos (10 ^ 18)) _ _ (one_number earth_rate) e (record { lt = tt }) (record { le = tt }) (record { le = tt }) c.times_over-start.result.ordered c.times_over-start.ensures.tight in
    let o = field_ends angle_bound c.args.el.now.om0 c.of_wide-3.result c.of_wide-3.ensures.low c.of_wide-3.ensures.high c.args.el.now.om0_within in
    let a = c.advanced.ensures.ends angle_bound 1 _ 1 orbit_reach (2 * orbit_reach) 10588797174229670 (10 ^ 20) o r c.requires (lit≤ tt) (lit≤ tt) in
    record { low = omega (arith, ints); high = omega (arith, ints) }

pub returns-clause-holds : goal.returns-clause-holds
returns-clause-holds c om0 om_dot toe t o p q r s n =
    let rate = less_number_held earth_rate _ _ c.minus-rate.result.lo c.minus-rate.result.hi om_dot c.minus-rate.ensures.low c.minus-rate.ensures.high (value_held c.args.el.now.om_dot c.of_wide.result om_dot c.of_wide.ensures.low c.of_wide.ensures.high q) in
    let toe_is = value_held c.args.el.now.toe_week c.of_wide-2.result toe c.of_wide-2.ensures.low c.of_wide-2.ensures.high r in
    let om0_is = value_held c.args.el.now.om0 c.of_wide-3.result om0 c.of_wide-3.ensures.low c.of_wide-3.ensures.high p in
    let moved = inside_of ((om0 *ℤ pos rate_scale) +ℤ ((om_dot -ℤ pos earth_rate) *ℤ t)) (pos rate_scale) c.advanced.result.lo c.advanced.result.hi (record { lt = tt }) (λ v. c.advanced.ensures.holds om0 (om_dot -ℤ pos earth_rate) t v om0_is rate s) in
    let start = inside_of (pos earth_rate *ℤ toe) (pos rate_scale) c.times_over-start.result.lo c.times_over-start.result.hi (record { lt = tt }) (λ v. c.times_over-start.ensures.holds (pos earth_rate) toe v (held_itself (pos earth_rate)) toe_is) in
    let e = c.minus.ensures.low in
    let f = c.minus.ensures.high in
    rw (e, f) (held _ (pos rate_scale) _ _ o (record { lt = tt }) (difference_inside _ _ (pos rate_scale) _ _ _ _ moved start) n)

pub returns-clause-amount : goal.returns-clause-amount
returns-clause-amount c =
    let d = field_ends rate_bound c.args.el.now.om_dot c.of_wide.result c.of_wide.ensures.low c.of_wide.ensures.high c.args.el.now.om_dot_within in
    let r = less_number earth_rate rate_bound 1 _ _ c.minus-rate.result.lo c.minus-rate.result.hi d c.minus-rate.ensures.low c.minus-rate.ensures.high in
    let e = range_ends 0 week c.args.el.now.toe_week c.of_wide-2.result c.of_wide-2.ensures.low c.of_wide-2.ensures.high c.args.el.now.toe_within in
    let s = product_ends earth_rate 0 week 1 441027124072416000 1 _ _ _ _ (pos (10 ^ 18)) _ _ (one_number earth_rate) e (record { lt = tt }) (record { le = tt }) (record { le = tt }) c.times_over-start.result.ordered c.times_over-start.ensures.tight in
    let o = field_ends angle_bound c.args.el.now.om0 c.of_wide-3.result c.of_wide-3.ensures.low c.of_wide-3.ensures.high c.args.el.now.om0_within in
    let a = c.advanced.ensures.ends angle_bound 1 _ 1 orbit_reach (2 * orbit_reach) 10588797174229670 (10 ^ 20) o r c.requires (lit≤ tt) (lit≤ tt) in
    amount_of _ _ _ _ (difference_has _ _ _ _ c.advanced.result c.times_over-start.result c.minus.result c.minus.ensures.low c.minus.ensures.high a s)

pub returns-clause-narrow : goal.returns-clause-narrow
returns-clause-narrow c h =
    let d = field_ends rate_bound c.args.el.now.om_dot c.of_wide.result c.of_wide.ensures.low c.of_wide.ensures.high c.args.el.now.om_dot_within in
    let r = less_number earth_rate rate_bound 1 _ _ c.minus-rate.result.lo c.minus-rate.result.hi d c.minus-rate.ensures.low c.minus-rate.ensures.high in
    let e = range_ends 0 week c.args.el.now.toe_week c.of_wide-2.result c.of_wide-2.ensures.low c.of_wide-2.ensures.high c.args.el.now.toe_within in
    let s = product_ends earth_rate 0 week 1 441027124072416000 1 _ _ _ _ (pos (10 ^ 18)) _ _ (one_number earth_rate) e (record { lt = tt }) (record { le = tt }) (record { le = tt }) c.times_over-start.result.ordered c.times_over-start.ensures.tight in
    let o = field_ends angle_bound c.args.el.now.om0 c.of_wide-3.result c.of_wide-3.ensures.low c.of_wide-3.ensures.high c.args.el.now.om0_within in
    let a = c.advanced.ensures.ends angle_bound 1 _ 1 orbit_reach after_width 10588797174229670 48 o r h (lit≤ tt) (lit≤ tt) in
    difference_has _ _ _ _ c.advanced.result c.times_over-start.result c.minus.result c.minus.ensures.low c.minus.ensures.high a s
