use Rattle.std.proofs.Common.{arith, rules, FitsSigned}
use Rattle.std.specs.Prelude.{◌-ℤ◌, nat_abs}
use Rattle.std.specs.Int.{w128}
use Rattle.std.proofs.lemmas.Int.{ints, to_z-of_z}
use Rattle.grid_model.specs.Sines.{Sine}
use Rattle.interval_trig.proofs.Smoothness.{sine_smooth, sine_value_small, to_middle, within_reach, small_half}
use Rattle.interval_trig.proofs.sines.sine.Goals as goal

pub returns-clause-holds : goal.returns-clause-holds
returns-clause-holds c v s p a =
    let f : FitsSigned w128 c.middle-m.result = search rules in
    let g : FitsSigned w128 c.sine_point.result = search rules in
    let h : FitsSigned w128 c.args.x.hi = search rules in
    let to = c.middle-m.ensures.to in
    let i : FitsSigned w128 (c.args.x.hi -ℤ c.middle-m.result) = let z = c.requires.high_size in let z' = c.requires.low_size in omega (arith, ints) in
    let t : Sine c.middle-m.result c.sine_point.result = simp to_z-of_z at c.sine_point.ensures.value in
    let e = simp to_z-of_z at c.around.ensures.holds s (sine_value_small v s a) in
    e (λ b. within_reach c.sine_point.result s c.middle-m.result c.args.x.hi to
    (sine_smooth c.middle-m.result v c.sine_point.result s (nat_abs (c.args.x.hi -ℤ c.middle-m.result)) (to_middle c.args.x.lo c.middle-m.result c.args.x.hi v c.middle-m.ensures.from c.middle-m.ensures.lower_half p) (small_half c.middle-m.result c.args.x.hi to b) t a))
