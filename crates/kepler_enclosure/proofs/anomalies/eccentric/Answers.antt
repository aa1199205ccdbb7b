use Rattle.std.proofs.Common.{arith, ◌≤◌}
use Rattle.std.specs.Prelude.{◌-ℤ◌}
use Rattle.std.proofs.lemmas.Int.{ints}
use Rattle.kepler_enclosure.proofs.Narrowing.{narrower, final_width, settled_width}
use Rattle.kepler_enclosure.proofs.anomalies.eccentric.Goals as goal

pub loop-excess-preserved : goal.loop-excess-preserved
loop-excess-preserved c =
    let k = c.loop-excess.invariant in
    let o = c.args.m.ordered in
    let p = c.args.e.ordered in
    record {
      holds = λ a e x q r v. c.narrowed-next.ensures.holds a e x q r (k.holds a e x q r v) v;
      width = narrower (c.args.m.hi -ℤ c.args.m.lo) (c.args.e.hi -ℤ c.args.e.lo) (c.loop-excess.x.hi -ℤ c.loop-excess.x.lo) (c.narrowed-next.result.hi -ℤ c.narrowed-next.result.lo) c.loop-excess.excess (omega (arith, ints)) (omega (arith, ints)) c.narrowed-next.ensures.width k.width;
      low_size = c.narrowed-next.ensures.low_size;
      high_size = c.narrowed-next.ensures.high_size;
    }

pub returns-then-next-x-2-clause-width : goal.returns-then-next-x-2-clause-width
returns-then-next-x-2-clause-width c =
    let o = c.args.m.ordered in
    let p = c.args.e.ordered in
    settled_width (c.args.m.hi -ℤ c.args.m.lo) (c.args.e.hi -ℤ c.args.e.lo) c.loop-excess.x.lo c.loop-excess.x.hi c.narrowed-next.result.lo c.narrowed-next.result.hi (omega (arith, ints)) (omega (arith, ints)) (omega (arith, ints)) (omega (arith, ints)) c.narrowed-next.ensures.width

pub returns-clause-width : goal.returns-clause-width
returns-clause-width c =
    let t : c.loop-excess.excess ≤ 40 = c.loop-excess-test.false in
    final_width (c.args.m.hi -ℤ c.args.m.lo) (c.args.e.hi -ℤ c.args.e.lo) (c.loop-excess.x.hi -ℤ c.loop-excess.x.lo) c.loop-excess.excess t c.loop-excess.invariant.width
