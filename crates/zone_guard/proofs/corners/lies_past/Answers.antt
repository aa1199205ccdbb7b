use Rattle.std.proofs.Common.{FitsSigned, arith, rules, refl, subst}
use Rattle.std.specs.Prelude.{ℤ, ◌≤ℤ◌, ◌<ℤ◌}
use Rattle.std.specs.Int.{w128}
use Rattle.std.proofs.lemmas.Int.{ints, to_z-of_z}
use Rattle.zone_guard.specs.Planes.{any_plane}
use Rattle.zone_guard.proofs.CornerLemmas.{beyond, not_beyond}
use Rattle.zone_guard.proofs.corners.lies_past.Goals as goal

pub returns-then-least-plane : goal.returns-then-least-plane
returns-then-least-plane c =
    let f : FitsSigned w128 c.least.result = search rules in
    let g : FitsSigned w128 c.args.plane.now.most = search rules in
    let t = simp to_z-of_z at c.if-least-plane.true in
    (λ h. absurd cc, λ all. absurd (not_beyond (any_plane c.args.plane.now) c.args.part.now (subst (λ (v : ℤ). v ≤ℤ c.args.plane.now.most) c.least.ensures (omega (arith, ints, t))) all))

pub returns : goal.returns
returns c =
    let f : FitsSigned w128 c.least.result = search rules in
    let g : FitsSigned w128 c.args.plane.now.most = search rules in
    let t = simp to_z-of_z at c.if-least-plane.false in
    (λ h. beyond (any_plane c.args.plane.now) c.args.part.now (subst (λ (v : ℤ). c.args.plane.now.most <ℤ v) c.least.ensures (omega (arith, ints, t))), λ all. refl)
