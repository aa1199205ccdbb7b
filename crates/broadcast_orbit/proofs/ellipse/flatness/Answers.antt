use Rattle.std.proofs.Common.{FitsSigned, rules, ◌≡◌}
use Rattle.std.specs.Prelude.{pos}
use Rattle.std.specs.Int.{w128}
use Rattle.std.proofs.lemmas.Int.{to_z-of_z}
use Rattle.broadcast_orbit.proofs.Flatness.{root_held, root_ends}
use Rattle.broadcast_orbit.proofs.ellipse.flatness.Goals as goal

pub invariant_of-result : goal.invariant_of-result
invariant_of-result c =
    let f : FitsSigned w128 c.args.e.lo = search rules in
    let g : FitsSigned w128 c.args.e.hi = search rules in
    let h : FitsSigned w128 c.from.result = search rules in
    let i : FitsSigned w128 c.from-2.result = search rules in
    let j = simp to_z-of_z at c.amount.ensures in
    let k = simp to_z-of_z at c.amount-2.ensures in
    let e : c.from.result ≡ pos c.flatness_of.result = c.from.ensures in
    let d : c.from-2.result ≡ pos c.flatness_of-2.result = c.from-2.ensures in
    let o = (root_ends c.args.e.lo c.args.e.hi c.amount-2.result c.amount.result c.flatness_of.result c.flatness_of-2.result k j c.requires.e_ends.order c.requires.e_ends.width c.requires.e_ends.high.high c.flatness_of.ensures c.flatness_of-2.ensures).order in
    record { ordered = simp to_z-of_z (rw (e, d) o) }

pub returns-clause-holds : goal.returns-clause-holds
returns-clause-holds c x w p y z =
    let f : FitsSigned w128 c.args.e.lo = search rules in
    let g : FitsSigned w128 c.args.e.hi = search rules in
    let h : FitsSigned w128 c.from.result = search rules in
    let i : FitsSigned w128 c.from-2.result = search rules in
    let j = simp to_z-of_z at c.amount.ensures in
    let k = simp to_z-of_z at c.amount-2.ensures in
    let e : c.from.result ≡ pos c.flatness_of.result = c.from.ensures in
    let d : c.from-2.result ≡ pos c.flatness_of-2.result = c.from-2.ensures in
    simp to_z-of_z (rw (e, d) (root_held c.args.e.lo c.args.e.hi x c.amount-2.result c.amount.result c.flatness_of.result c.flatness_of-2.result w k j c.requires.e_low c.requires.e_ends.high.high p c.flatness_of.ensures c.flatness_of-2.ensures y z))

pub returns-clause-ends : goal.returns-clause-ends
returns-clause-ends c =
    let f : FitsSigned w128 c.args.e.lo = search rules in
    let g : FitsSigned w128 c.args.e.hi = search rules in
    let h : FitsSigned w128 c.from.result = search rules in
    let i : FitsSigned w128 c.from-2.result = search rules in
    let j = simp to_z-of_z at c.amount.ensures in
    let k = simp to_z-of_z at c.amount-2.ensures in
    let e : c.from.result ≡ pos c.flatness_of.result = c.from.ensures in
    let d : c.from-2.result ≡ pos c.flatness_of-2.result = c.from-2.ensures in
    simp to_z-of_z (rw (e, d) (root_ends c.args.e.lo c.args.e.hi c.amount-2.result c.amount.result c.flatness_of.result c.flatness_of-2.result k j c.requires.e_ends.order c.requires.e_ends.width c.requires.e_ends.high.high c.flatness_of.ensures c.flatness_of-2.ensures))
