use Rattle.std.proofs.Common.{◌≡◌}
use Rattle.std.specs.Prelude.{pos, negsuc, neg_ℤ}
use Rattle.grid_model.proofs.PlainLemmas.{uncast_end}
use Rattle.zone_guard.specs.Answers.{plane_on}
use Rattle.zone_guard.specs.Planes.{plane_value}
use Rattle.zone_guard.proofs.BeyondLemmas.{six_same}
use Rattle.zone_guard.proofs.faces.faces.Goals as goal

pub returns : goal.returns
returns c =
    let z = c.args.zone.now in
    let a : plane_value c.face.result ≡ plane_on (pos 1) (pos 0) (pos 0) z.hi.x = rw (uncast_end z.hi.x z.hi_within.0) at c.face.ensures in
    let b : plane_value c.face-2.result ≡ plane_on (negsuc 0) (pos 0) (pos 0) (neg_ℤ z.lo.x) =
    rw (uncast_end c.turned.result c.turned.ensures.bound, c.turned.ensures.value, uncast_end z.lo.x z.lo_within.0) at c.face-2.ensures in
    let d : plane_value c.face-3.result ≡ plane_on (pos 0) (pos 1) (pos 0) z.hi.y = rw (uncast_end z.hi.y z.hi_within.1) at c.face-3.ensures in
    let e : plane_value c.face-4.result ≡ plane_on (pos 0) (negsuc 0) (pos 0) (neg_ℤ z.lo.y) =
    rw (uncast_end c.turned-2.result c.turned-2.ensures.bound, c.turned-2.ensures.value, uncast_end z.lo.y z.lo_within.1) at c.face-4.ensures in
    let f : plane_value c.face-5.result ≡ plane_on (pos 0) (pos 0) (pos 1) z.hi.z = rw (uncast_end z.hi.z z.hi_within.2) at c.face-5.ensures in
    let g : plane_value c.face-6.result ≡ plane_on (pos 0) (pos 0) (negsuc 0) (neg_ℤ z.lo.z) =
    rw (uncast_end c.turned-3.result c.turned-3.ensures.bound, c.turned-3.ensures.value, uncast_end z.lo.z z.lo_within.2) at c.face-6.ensures in
    six_same _ _ _ _ _ _ _ _ _ _ _ _ a b d e f g
