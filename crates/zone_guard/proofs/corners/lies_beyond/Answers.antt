use Rattle.std.proofs.Common.{FitsSigned, arith, rules, refl, subst}
use Rattle.std.specs.Prelude.{ℤ, ◌≤ℤ◌, ◌<ℤ◌}
use Rattle.std.specs.Int.{w128}
use Rattle.std.proofs.lemmas.Int.{ints, to_z-of_z}
use Rattle.zone_guard.specs.Planes.{plane_value}
use Rattle.zone_guard.proofs.CornerLemmas.{beyond, not_beyond, wide_direction}
use Rattle.zone_guard.proofs.corners.lies_beyond.Goals as goal

pub least-requires : goal.least-requires
least-requires c = wide_direction c.args.side.now.along.vector c.args.side.now.along.within

pub returns-then-least-side : goal.returns-then-least-side
returns-then-least-side c =
    let f : FitsSigned w128 c.least.result = search rules in
    let g : FitsSigned w128 c.args.side.now.most = search rules in
    let t = simp to_z-of_z at c.if-least-side.true in
    (λ h. absurd cc, λ all. absurd (not_beyond (plane_value c.args.side.now) c.args.part.now (subst (λ (v : ℤ). v ≤ℤ c.args.side.now.most) c.least.ensures (omega (arith, ints, t))) all))

pub returns : goal.returns
returns c =
    let f : FitsSigned w128 c.least.result = search rules in
    let g : FitsSigned w128 c.args.side.now.most = search rules in
    let t = simp to_z-of_z at c.if-least-side.false in
    (λ h. beyond (plane_value c.args.side.now) c.args.part.now (subst (λ (v : ℤ). c.args.side.now.most <ℤ v) c.least.ensures (omega (arith, ints, t))), λ all. refl)
