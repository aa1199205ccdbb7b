use Rattle.std.proofs.Common.{◌+◌, ◌*◌, ◌/◌, arith, lit≤}
use Rattle.gnss_model.specs.EarthModel.{rate_scale}
use Rattle.gnss_model.specs.RecordBounds.{drift_bound, ageing_bound}
use Rattle.grid_model.proofs.IntervalLemmas.{ends_of}
use Rattle.grid_model.proofs.SpreadLemmas.{products_fit}
use Rattle.grid_model.proofs.EndsLemmas.{wider_ends}
use Rattle.sat_clock.specs.ClockSizes.{since_size, width}
use Rattle.sat_clock.proofs.ClockLemmas.{field_ends}
use Rattle.sat_clock.proofs.drift.drift.Goals as goal

pub advanced-requires-clause-sizes : goal.advanced-requires-clause-sizes
advanced-requires-clause-sizes c =
    products_fit _ ageing_bound 1 since_size _ _ _ _ _ (lit≤ tt) (rw (c.of_wide-2.ensures.low, c.of_wide-2.ensures.high) (field_ends _ _ c.args.el.now.af2_within)) (ends_of since_size _ _ c.args.since.ordered c.requires.low_size c.requires.high_size)

pub returns-clause-ends : goal.returns-clause-ends
returns-clause-ends c =
    let w = width c.args.since.lo c.args.since.hi in
    wider_ends _ _ _ _ _ _ (lit≤ tt) (omega arith)
    (
    c.advanced.ensures.ends drift_bound 1 ageing_bound 1 since_size w (ageing_bound * since_size / rate_scale + 1) (w + 1)
    (rw (c.of_wide.ensures.low, c.of_wide.ensures.high) (field_ends _ _ c.args.el.now.af1_within))
    (rw (c.of_wide-2.ensures.low, c.of_wide-2.ensures.high) (field_ends _ _ c.args.el.now.af2_within))
    (ends_of since_size _ _ c.args.since.ordered c.requires.low_size c.requires.high_size) (lit≤ tt) (omega arith)
    )
