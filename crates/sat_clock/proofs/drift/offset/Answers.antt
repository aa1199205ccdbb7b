use Rattle.std.proofs.Common.{◌+◌, ◌*◌, ◌/◌, arith, lit≤}
use Rattle.gnss_model.specs.EarthModel.{rate_scale}
use Rattle.gnss_model.specs.RecordBounds.{offset_bound}
use Rattle.grid_model.proofs.IntervalLemmas.{ends_of}
use Rattle.grid_model.proofs.SpreadLemmas.{products_fit}
use Rattle.grid_model.proofs.EndsLemmas.{wider_ends}
use Rattle.sat_clock.specs.ClockSizes.{drift_size, since_size, width}
use Rattle.sat_clock.proofs.ClockLemmas.{field_ends}
use Rattle.sat_clock.proofs.drift.offset.Goals as goal

pub advanced-requires-clause-sizes : goal.advanced-requires-clause-sizes
advanced-requires-clause-sizes c =
    products_fit _ drift_size _ since_size _ _ _ _ _ (lit≤ tt) c.drift.ensures.ends (ends_of since_size _ _ c.args.since.ordered c.requires.low_size c.requires.high_size)

pub returns-clause-ends : goal.returns-clause-ends
returns-clause-ends c =
    let w = width c.args.since.lo c.args.since.hi in
    wider_ends _ _ _ _ _ _ (lit≤ tt) (omega arith)
    (
    c.advanced.ensures.ends offset_bound 1 drift_size (w + 6) since_size w (drift_size * since_size / rate_scale + 1) (w + 2)
    (rw (c.of_wide.ensures.low, c.of_wide.ensures.high) (field_ends _ _ c.args.el.now.af0_within)) c.drift.ensures.ends
    (ends_of since_size _ _ c.args.since.ordered c.requires.low_size c.requires.high_size) (lit≤ tt) (omega arith)
    )
