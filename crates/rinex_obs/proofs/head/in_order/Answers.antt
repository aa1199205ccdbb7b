use Rattle.std.proofs.Common.{refl, inl, inr, arith, to_z-of_z, FitsSigned, rules}
use Rattle.std.proofs.lemmas.Int.{ints}
use mir.Syntax.{w128}
use Rattle.rinex_obs.proofs.head.in_order.Goals as goal

pub returns-in_default-clause-order : goal.returns-in_default-clause-order
returns-in_default-clause-order c =
    let fits : FitsSigned w128 c.args.tag = search rules in
    rw c.in_default.is (simp to_z-of_z refl)

pub returns-then-tag-before-clause-order : goal.returns-then-tag-before-clause-order
returns-then-tag-before-clause-order c =
    let fits : FitsSigned w128 c.args.tag = search rules in
    rw c.in-Some.is (inr ((λ later. absurd (omega (arith, ints, later, c.if-tag-before.true))), refl))

pub returns-clause-order : goal.returns-clause-order
returns-clause-order c =
    let fits : FitsSigned w128 c.args.tag = search rules in
    rw c.in-Some.is (inl (omega (arith, ints, c.if-tag-before.false), simp to_z-of_z refl))
