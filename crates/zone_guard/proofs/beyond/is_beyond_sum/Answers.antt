use Rattle.std.proofs.Common.{subst, sym, FitsSigned, w64}
use Rattle.std.proofs.lemmas.Int.{to_z-of_z}
use Rattle.grid_model.specs.Boxes.{grid_box}
use Rattle.zone_guard.specs.Beyond.{sum_of}
use Rattle.zone_guard.specs.Planes.{LiesBeyond, PlaneValue, any_plane, plane_value}
use Rattle.std.specs.Prelude.{◌≡◌, nat_abs}
use Rattle.zone_guard.proofs.beyond.is_beyond_sum.Goals as goal

pub returns : goal.returns
returns c =
    let fa : FitsSigned w64 c.args.a = c.ranges.a in
    let fb : FitsSigned w64 c.args.b = c.ranges.b in
    let part = grid_box c.args.part.now in
    let same : any_plane c.sum_by.result ≡ sum_of (nat_abs c.args.b) (plane_value c.args.side.now) (nat_abs c.args.a) (plane_value c.args.bound.now) = simp to_z-of_z at c.sum_by.ensures in (
      λ h. subst (λ (s : PlaneValue). LiesBeyond part s) same (c.lies_past.ensures.0 h),
      λ all. c.lies_past.ensures.1 (subst (λ (s : PlaneValue). LiesBeyond part s) (sym same) all),
    )
