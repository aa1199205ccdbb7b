use Rattle.std.proofs.Common.{FitsSigned, arith}
use Rattle.std.specs.Int.{w64, w128}
use Rattle.std.proofs.lemmas.Int.{to_z-of_z}
use Rattle.code_simulation.specs.Residuals.{um_of}
use Rattle.code_simulation.proofs.ResidualExists.{residual_exists}
use Rattle.code_simulation.proofs.EndLemmas.{first_low, last_high}
use Rattle.code_simulation.proofs.ResidualLemmas.{near_next}
use Rattle.code_simulation.proofs.halving.code_for.Goals as goal

pub loop-high-init : goal.loop-high-init
loop-high-init c =
    let tag : FitsSigned w128 c.args.tag = c.ranges.tag in let goal : FitsSigned w64 c.args.goal = c.ranges.goal in
    record {
      order = omega arith;
      to = omega arith;
      below = λ v k. simp to_z-of_z (first_low v c.args.goal c.requires.goal (c.over_codes-first.ensures.most v k));
      above = λ v k. simp to_z-of_z (last_high v c.args.goal c.requires.goal (c.over_codes-last.ensures.least c.requires.point v k));
    }

pub loop-high-preserved-then-is_low : goal.loop-high-preserved-then-is_low
loop-high-preserved-then-is_low c =
    let i = c.loop-high.invariant in
    record { order = omega (arith, i.order, c.loop-high-test.true); to = i.to; below = c.is_low.ensures.low c.if-is_low.true; above = i.above }

pub loop-high-preserved : goal.loop-high-preserved
loop-high-preserved c =
    let i = c.loop-high.invariant in
    record { order = omega (arith, i.order, c.loop-high-test.true); to = omega (arith, i.order, i.to, c.loop-high-test.true); below = i.below; above = c.is_low.ensures.high c.if-is_low.false }

pub returns-clause-low : goal.returns-clause-low
returns-clause-low c = λ v k.
    let tag : FitsSigned w128 c.args.tag = c.ranges.tag in let goal : FitsSigned w64 c.args.goal = c.ranges.goal in
    let i = c.loop-high.invariant in
    let next = residual_exists c.args.el.now c.args.tag c.args.at.now (um_of c.loop-high.high) in
    near_next _ _ v next.0 c.args.goal (c.over_codes-both.ensures.low v (simp to_z-of_z k)) (c.over_codes-both.ensures.high next.0 (simp to_z-of_z next.1)) c.over_codes-both.ensures.two
    (simp to_z-of_z at (i.above next.0 (simp to_z-of_z next.1)))

pub returns-clause-high : goal.returns-clause-high
returns-clause-high c = λ v k.
    let tag : FitsSigned w128 c.args.tag = c.ranges.tag in let goal : FitsSigned w64 c.args.goal = c.ranges.goal in
    simp to_z-of_z at (c.loop-high.invariant.below v (simp to_z-of_z k))
