use Rattle.std.proofs.Common.{◌≤◌, ◌+◌, ◌*◌, arith, lit≤}
use Rattle.std.specs.Prelude.{◌+ℤ◌, ◌-ℤ◌}
use Rattle.grid_model.proofs.EndsLemmas.{wider_ends}
use Rattle.sat_clock.specs.ClockSizes.{width}
use Rattle.sat_clock.proofs.ClockLemmas.{ends_width}
use Rattle.sat_clock.proofs.relativity.relativistic.Goals as goal

pub returns-clause-holds : goal.returns-clause-holds
returns-clause-holds c f n x b about mean anomaly s v a m p q i j k t r =
    let after = c.after.ensures.holds x f.toe_week b about p a.toe_is q i in
    let moved = c.mean_anomaly-mean.ensures.holds n f.m0 (about -ℤ (c.args.el.now.week_start +ℤ f.toe_week)) mean m a.m0_is after j in
    c.relative.ensures.holds f.e f.root_a s v a.e_is a.root_a_is (c.sine_of_eccentric.ensures.holds f.e mean anomaly s a.e_is moved k t) r

pub returns-clause-ends : goal.returns-clause-ends
returns-clause-ends c =
    let x : width c.after.result.lo c.after.result.hi ≤ width c.args.tsv.lo c.args.tsv.hi + width c.args.base.lo c.args.base.hi + 6 = ends_width _ _ _ _ c.after.ensures.ends in
    let y : width c.mean_anomaly-mean.result.lo c.mean_anomaly-mean.result.hi ≤ 2 * width c.after.result.lo c.after.result.hi + 66 = ends_width _ _ _ _ c.mean_anomaly-mean.ensures.ends in
    let z : width c.sine_of_eccentric.result.lo c.sine_of_eccentric.result.hi ≤ 2 * width c.mean_anomaly-mean.result.lo c.mean_anomaly-mean.result.hi + 82 = ends_width _ _ _ _ c.sine_of_eccentric.ensures.ends in
    wider_ends _ _ _ _ _ _ (lit≤ tt) (omega arith) c.relative.ensures.ends
