use Rattle.std.proofs.Common.{FitsSigned, lit≤, arith}
use Rattle.std.specs.Int.{w128}
use Rattle.std.proofs.lemmas.Int.{to_z-of_z}
use Rattle.grid_model.proofs.EndsLemmas.{wider_ends}
use Rattle.code_simulation.specs.SearchSizes.{code_amount, code_width}
use Rattle.code_simulation.specs.Residuals.{um_of}
use Rattle.code_simulation.proofs.ResidualLemmas.{code_ends, low_held, high_held}
use Rattle.code_simulation.proofs.halving.over_codes.Goals as goal

pub residual-requires-clause-code_ends : goal.residual-requires-clause-code_ends
residual-requires-clause-code_ends c =
    let k = c.codes-code.ensures in
    wider_ends code_amount code_amount 1000 code_width _ _ (lit≤ tt) (lit≤ tt)
    (code_ends c.args.low c.args.high 1 _ _ k.low k.high c.requires.order c.requires.close c.requires.to (lit≤ tt))

pub returns-clause-low : goal.returns-clause-low
returns-clause-low c = λ v k.
    let tag : FitsSigned w128 c.args.tag = c.ranges.tag in
    c.residual.ensures.holds (um_of c.args.low) v (low_held _ _ _ c.codes-code.ensures.low c.codes-code.result.ordered) (simp to_z-of_z k)

pub returns-clause-high : goal.returns-clause-high
returns-clause-high c = λ v k.
    let tag : FitsSigned w128 c.args.tag = c.ranges.tag in
    c.residual.ensures.holds (um_of c.args.high) v (high_held _ _ _ c.codes-code.ensures.high c.codes-code.result.ordered) (simp to_z-of_z k)

pub returns-clause-one : goal.returns-clause-one
returns-clause-one c = λ same.
    let k = c.codes-code.ensures in
    c.residual.ensures.width 0 (code_ends c.args.low c.args.high 0 _ _ k.low k.high c.requires.order (omega (arith, same)) c.requires.to (lit≤ tt))

pub returns-clause-two : goal.returns-clause-two
returns-clause-two c =
    let k = c.codes-code.ensures in
    c.residual.ensures.width 1000 (code_ends c.args.low c.args.high 1 _ _ k.low k.high c.requires.order c.requires.close c.requires.to (lit≤ tt))

pub returns-clause-most : goal.returns-clause-most
returns-clause-most c = λ v k.
    let tag : FitsSigned w128 c.args.tag = c.ranges.tag in
    c.residual.ensures.most (um_of c.args.low) v (low_held _ _ _ c.codes-code.ensures.low c.codes-code.result.ordered) (simp to_z-of_z k)

pub returns-clause-least : goal.returns-clause-least
returns-clause-least c = λ near v k.
    let tag : FitsSigned w128 c.args.tag = c.ranges.tag in
    c.residual.ensures.least near (um_of c.args.high) v (high_held _ _ _ c.codes-code.ensures.high c.codes-code.result.ordered) (simp to_z-of_z k)
