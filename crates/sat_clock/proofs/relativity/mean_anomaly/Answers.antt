use Rattle.std.proofs.Common.{◌+◌, ◌*◌, ◌/◌, arith, lit≤}
use Rattle.gnss_model.specs.EarthModel.{rate_scale}
use Rattle.gnss_model.specs.RecordBounds.{angle_bound}
use Rattle.grid_model.proofs.IntervalLemmas.{ends_of}
use Rattle.grid_model.proofs.SpreadLemmas.{products_fit}
use Rattle.grid_model.proofs.EndsLemmas.{wider_ends}
use Rattle.sat_clock.specs.ClockSizes.{motion_size, motion_width, after_size, width}
use Rattle.sat_clock.proofs.ClockLemmas.{field_ends, motion_ends}
use Rattle.sat_clock.proofs.relativity.mean_anomaly.Goals as goal

pub advanced-requires-clause-sizes : goal.advanced-requires-clause-sizes
advanced-requires-clause-sizes c =
    let n = c.motion_of.ensures in
    products_fit _ motion_size motion_width after_size _ _ _ _ _ (lit≤ tt) (motion_ends _ _ c.motion_of.result.ordered n.low n.high n.width) (ends_of after_size _ _ c.args.after.ordered c.requires.low_size c.requires.high_size)

pub returns-clause-ends : goal.returns-clause-ends
returns-clause-ends c =
    let w = width c.args.after.lo c.args.after.hi in
    let n = c.motion_of.ensures in
    wider_ends _ _ _ _ _ _ (lit≤ tt) (omega arith)
    (
    c.advanced.ensures.ends angle_bound 1 motion_size motion_width after_size w (motion_size * after_size / rate_scale + 1) (2 * w + 60)
    (rw (c.of_wide.ensures.low, c.of_wide.ensures.high) (field_ends _ _ c.args.el.now.m0_within)) (motion_ends _ _ c.motion_of.result.ordered n.low n.high n.width)
    (ends_of after_size _ _ c.args.after.ordered c.requires.low_size c.requires.high_size) (lit≤ tt) (omega arith)
    )
