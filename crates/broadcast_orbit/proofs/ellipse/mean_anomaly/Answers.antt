use Rattle.std.proofs.Common.{lit≤, ◌^◌}
use Rattle.gnss_model.specs.RecordBounds.{angle_bound}
use Rattle.grid_model.proofs.SpreadLemmas.{products_fit}
use Rattle.fix_interval.proofs.ProductEnds.{amount_of}
use Rattle.broadcast_orbit.specs.OrbitSizes.{orbit_reach, motion_amount, motion_width, after_width}
use Rattle.broadcast_orbit.proofs.Chains.{field_ends}
use Rattle.broadcast_orbit.proofs.ellipse.mean_anomaly.Goals as goal

pub advanced-requires-clause-sizes : goal.advanced-requires-clause-sizes
advanced-requires-clause-sizes c = products_fit _ _ _ _ _ _ _ _ _ (lit≤ tt) c.requires.motion_ends c.requires.after_size

pub returns-clause-amount : goal.returns-clause-amount
returns-clause-amount c =
    let f = field_ends angle_bound c.args.el.now.m0 c.of_wide.result c.of_wide.ensures.low c.of_wide.ensures.high c.args.el.now.m0_within in
    amount_of _ _ _ _ (c.advanced.ensures.ends angle_bound 1 motion_amount motion_width orbit_reach 29002000000000000 29002000000000000 (10 ^ 20) f c.requires.motion_ends c.requires.after_size (lit≤ tt) (lit≤ tt))

pub returns-clause-narrow : goal.returns-clause-narrow
returns-clause-narrow c a =
    let f = field_ends angle_bound c.args.el.now.m0 c.of_wide.result c.of_wide.ensures.low c.of_wide.ensures.high c.args.el.now.m0_within in
    c.advanced.ensures.ends angle_bound 1 motion_amount motion_width orbit_reach after_width 29002000000000000 190 f c.requires.motion_ends a (lit≤ tt) (lit≤ tt)
