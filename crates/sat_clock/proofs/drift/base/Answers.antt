use Rattle.std.proofs.Common.{◌≤◌, ◌+◌, arith, lit≤}
use Rattle.grid_model.proofs.EndsLemmas.{wider_ends}
use Rattle.sat_clock.specs.ClockSizes.{width}
use Rattle.sat_clock.proofs.ClockLemmas.{ends_width}
use Rattle.sat_clock.proofs.drift.base.Goals as goal

pub returns-clause-ends : goal.returns-clause-ends
returns-clause-ends c =
    let v : width c.since_clock.result.lo c.since_clock.result.hi ≤ width c.args.tsv.lo c.args.tsv.hi = ends_width _ _ _ _ c.since_clock.ensures.ends in
    let w : width c.offset.result.lo c.offset.result.hi ≤ width c.since_clock.result.lo c.since_clock.result.hi + 7 = ends_width _ _ _ _ c.offset.ensures.ends in
    wider_ends _ _ _ _ _ _ (lit≤ tt) (omega arith) c.less_group_delay.ensures.ends
