use Rattle.std.proofs.Common.{arith, ◌≡◌}
use Rattle.std.specs.Prelude.{pos, ◌+ℤ◌, ◌-ℤ◌}
use Rattle.std.proofs.lemmas.Int.{ints}
use Rattle.grid_model.specs.Intervals.{Between}
use Rattle.kepler_enclosure.proofs.Narrowing.{narrow_holds, round_width, moved_low, moved_high}
use Rattle.kepler_enclosure.proofs.anomalies.narrowed.Goals as goal

pub returns-clause-holds : goal.returns-clause-holds
returns-clause-holds c a b y p q r v =
    let here : Between c.args.x.lo (c.args.x.hi +ℤ pos 1) y = record { from = omega (arith, ints); to = omega (arith, ints) } in
    let after : Between c.args.x.lo (c.args.x.hi +ℤ pos 1) (y +ℤ pos 1) = record { from = omega (arith, ints); to = omega (arith, ints) } in
    let k = narrow_holds c.args.m.lo c.args.m.hi a b y c.swing.result.lo c.swing.result.hi p v (λ w n. c.swing.ensures.holds b y v.here w q here v.sine_here n) (λ w n. c.swing.ensures.holds b (y +ℤ pos 1) v.after w q after v.sine_after n) in
    let e : c.moved.result.lo ≡ (c.args.m.lo -ℤ pos 1) +ℤ c.swing.result.lo = c.moved.ensures.low in
    let f : c.moved.result.hi ≡ c.args.m.hi +ℤ c.swing.result.hi = c.moved.ensures.high in
    rw (e, f) k

pub returns-clause-width : goal.returns-clause-width
returns-clause-width c =
    round_width c.args.m.lo c.args.m.hi c.args.e.lo c.args.e.hi c.args.x.lo c.args.x.hi c.swing.result.lo c.swing.result.hi c.moved.result.lo c.moved.result.hi c.swing.ensures.width c.moved.ensures.low c.moved.ensures.high

pub returns-clause-low_size : goal.returns-clause-low_size
returns-clause-low_size c = moved_low c.args.m.lo c.swing.result.lo c.moved.result.lo c.requires.m_low c.swing.ensures.low_size c.moved.ensures.low

pub returns-clause-high_size : goal.returns-clause-high_size
returns-clause-high_size c = moved_high c.args.m.hi c.swing.result.hi c.moved.result.hi c.requires.m_high c.swing.ensures.high_size c.moved.ensures.high
