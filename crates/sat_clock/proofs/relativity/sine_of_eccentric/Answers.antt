use Rattle.grid_model.specs.Intervals.{Between}
use Rattle.sat_clock.proofs.ClockLemmas.{sine_ends}
use Rattle.sat_clock.proofs.relativity.sine_of_eccentric.Goals as goal

pub returns-clause-holds : goal.returns-clause-holds
returns-clause-holds c e m x s p q k t =
    let held : Between c.of_wide.result.lo c.of_wide.result.hi e = rw (c.of_wide.ensures.low, c.of_wide.ensures.high) p in
    c.sine.ensures.holds x s (c.eccentric.ensures.holds m e x q held k) t

pub returns-clause-ends : goal.returns-clause-ends
returns-clause-ends c =
    let narrow = c.args.el.now.e_within.narrow in
    let n = c.sine.ensures in
    sine_ends c.args.mean.lo c.args.mean.hi c.of_wide.result.lo c.of_wide.result.hi c.eccentric.result.lo c.eccentric.result.hi c.sine.result.lo c.sine.result.hi c.args.mean.ordered (rw (c.of_wide.ensures.low, c.of_wide.ensures.high) narrow) c.sine.result.ordered c.eccentric.ensures.width n.width n.low_size n.high_size
