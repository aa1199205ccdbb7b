use Rattle.std.proofs.Common.{◌+◌, ◌*◌, ◌/◌, ◌^◌, arith, lit≤}
use Rattle.std.specs.Prelude.{◌+ℤ◌, ◌-ℤ◌}
use Rattle.grid_model.proofs.IntervalLemmas.{ends_of}
use Rattle.grid_model.proofs.EndsLemmas.{wider_ends}
use Rattle.sat_clock.specs.ClockSizes.{ephemeris_reach, base_size, width}
use Rattle.sat_clock.proofs.ClockLemmas.{earlier_from}
use Rattle.sat_clock.proofs.times.after.Goals as goal

pub returns-clause-holds : goal.returns-clause-holds
returns-clause-holds c x toe b about p q r n =
    let zero = c.args.el.now.week_start +ℤ toe in
    c.earlier.ensures.holds (x -ℤ zero) b (about -ℤ zero) (c.since_ephemeris.ensures.holds x toe p q) r (earlier_from x b about zero n)

pub returns-clause-ends : goal.returns-clause-ends
returns-clause-ends c =
    let w = width c.args.base.lo c.args.base.hi in
    wider_ends _ _ _ _ _ _ (lit≤ tt) (omega arith)
    (c.earlier.ensures.ends ephemeris_reach _ base_size w (base_size * 1 / 10 ^ 4 + 1) (w / 10 ^ 4 + 1) c.since_ephemeris.ensures.ends (ends_of base_size c.args.base.lo c.args.base.hi c.args.base.ordered c.requires.low_size c.requires.high_size) (lit≤ tt) (omega arith))
