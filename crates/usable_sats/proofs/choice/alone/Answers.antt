use Rattle.std.proofs.Common.{rules, refl, FitsSigned}
use Rattle.std.specs.Int.{w128}
use Rattle.std.proofs.lemmas.Int.{to_z-of_z}
use Rattle.usable_sats.proofs.choice.alone.Goals as goal

pub returns-in_default : goal.returns-in_default
returns-in_default c = (c.if-not-one.false, c.in_default.ensures.none)

pub returns-in-Ok : goal.returns-in-Ok
returns-in-Ok c =
    let fits : FitsSigned w128 c.in-Some.age = search rules in
    (simp to_z-of_z c.in-Some.ensures.recent, c.in-Ok.ensures.inside.0 refl, c.in-Ok.ensures.elements)

pub returns-in-Err : goal.returns-in-Err
returns-in-Err c =
    let fits : FitsSigned w128 c.in-Some.age = search rules in
    (simp to_z-of_z c.in-Some.ensures.recent, (c.in-Err.ensures.outside c.in-Err.field).0 refl)
