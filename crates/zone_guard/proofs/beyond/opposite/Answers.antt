use Rattle.std.proofs.Common.{◌≡◌, rules, FitsSigned, w64}
use Rattle.std.specs.Prelude.{neg_ℤ}
use Rattle.std.proofs.lemmas.Int.{to_z-of_z}
use Rattle.zone_guard.proofs.BeyondLemmas.{most_turned, plane_same, wide}
use Rattle.zone_guard.proofs.CornerLemmas.{uncast_factor}
use Rattle.zone_guard.proofs.beyond.opposite.Goals as goal

pub returns : goal.returns
returns c =
    let s = c.args.side.now in
    let fx : FitsSigned w64 s.along.vector.x = search rules in
    let fy : FitsSigned w64 s.along.vector.y = search rules in
    let fz : FitsSigned w64 s.along.vector.z = search rules in
    let x : c.negative.result ≡ neg_ℤ s.along.vector.x = simp to_z-of_z at c.negative.ensures.value in
    let y : c.negative-2.result ≡ neg_ℤ s.along.vector.y = simp to_z-of_z at c.negative-2.ensures.value in
    let z : c.negative-3.result ≡ neg_ℤ s.along.vector.z = simp to_z-of_z at c.negative-3.ensures.value in
    plane_same _ _ _ _ _ _ _ _
    (rw (uncast_factor c.negative.result (wide _ c.negative.ensures.bound)) x)
    (rw (uncast_factor c.negative-2.result (wide _ c.negative-2.ensures.bound)) y)
    (rw (uncast_factor c.negative-3.result (wide _ c.negative-3.ensures.bound)) z)
    (most_turned s.most s.limit)
