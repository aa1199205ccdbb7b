use Rattle.std.proofs.Common.{◌≡◌, rules, FitsSigned, w64}
use Rattle.std.specs.Prelude.{pos, nat_abs}
use Rattle.std.specs.Int.{w128}
use Rattle.std.proofs.lemmas.Int.{to_z-of_z}
use Rattle.zone_guard.specs.Beyond.{both_times}
use Rattle.zone_guard.proofs.BeyondLemmas.{plane_same}
use Rattle.zone_guard.proofs.beyond.sum_by.Goals as goal

pub returns : goal.returns
returns c =
    let s = c.args.side.now in
    let h = c.args.bound.now in
    let fa : FitsSigned w64 c.args.a = c.ranges.a in
    let fb : FitsSigned w64 c.args.b = c.ranges.b in
    let sx : FitsSigned w64 s.along.vector.x = search rules in
    let sy : FitsSigned w64 s.along.vector.y = search rules in
    let sz : FitsSigned w64 s.along.vector.z = search rules in
    let sm : FitsSigned w128 s.most = search rules in
    let hx : FitsSigned w64 h.along.vector.x = search rules in
    let hy : FitsSigned w64 h.along.vector.y = search rules in
    let hz : FitsSigned w64 h.along.vector.z = search rules in
    let hm : FitsSigned w128 h.most = search rules in
    let fn : FitsSigned w64 c.amount-n.result = search rules in
    let fk : FitsSigned w64 c.amount-k.result = search rules in
    let fx : FitsSigned w64 c.both_times.result = search rules in
    let fy : FitsSigned w64 c.both_times-2.result = search rules in
    let fz : FitsSigned w64 c.both_times-3.result = search rules in
    let fm : FitsSigned w128 c.both_limits.result = search rules in
    let n : c.amount-n.result ≡ pos (nat_abs c.args.b) = simp to_z-of_z at c.amount-n.ensures.value in
    let k : c.amount-k.result ≡ pos (nat_abs c.args.a) = simp to_z-of_z at c.amount-k.ensures.value in
    let x : c.both_times.result ≡ both_times (nat_abs c.args.b) s.along.vector.x (nat_abs c.args.a) h.along.vector.x = rw (n, k) at (simp to_z-of_z at c.both_times.ensures.value) in
    let y : c.both_times-2.result ≡ both_times (nat_abs c.args.b) s.along.vector.y (nat_abs c.args.a) h.along.vector.y = rw (n, k) at (simp to_z-of_z at c.both_times-2.ensures.value) in
    let z : c.both_times-3.result ≡ both_times (nat_abs c.args.b) s.along.vector.z (nat_abs c.args.a) h.along.vector.z = rw (n, k) at (simp to_z-of_z at c.both_times-3.ensures.value) in
    let m : c.both_limits.result ≡ both_times (nat_abs c.args.b) s.most (nat_abs c.args.a) h.most = rw (n, k) at (simp to_z-of_z at c.both_limits.ensures) in
    simp to_z-of_z (plane_same _ _ _ _ _ _ _ _ x y z m)
