use Rattle.std.proofs.Common.{subst, sym}
use Rattle.std.specs.Prelude.{ℤ}
use Rattle.grid_model.proofs.IntervalLemmas.{low_member}
use Rattle.fix_interval.specs.Factors.{Holds}
use Rattle.broadcast_orbit.proofs.ChainExists.{orbit_exists}
use Rattle.broadcast_orbit.proofs.ChainDistance.{near_distance, near_sizes}
use Rattle.broadcast_orbit.proofs.places.place.Goals as goal

pub returns-clause-holds : goal.returns-clause-holds
returns-clause-holds c n time x y z q p o =
    let a = subst (λ (u : ℤ). Holds c.after-after.result u) (sym o.after_is) (c.after-after.ensures.holds time o.f.toe_week p o.fields.toe_is) in
    let e = c.on_ellipse-ellipse.ensures.holds o.f n o.after o.ratio o.cos_v o.sin_v o.fields q a o.anomaly in
    let l = c.corrected-latitude.ensures.holds o.f o.cos_v o.sin_v o.cos_u o.sin_u o.dr o.di o.fields e.1 o.latitude in
    let g = c.in_plane-point.ensures.holds o.f o.ratio o.dr o.cos_u o.sin_u o.radius o.plane_x o.plane_y o.fields e.0 l.1 l.0 o.in_plane in
    c.earth_fixed.ensures.holds o.f o.after o.di o.plane_x o.plane_y x y z o.fields a l.2 g.0 g.1 o.earth_fixed

pub returns-clause-distance : goal.returns-clause-distance
returns-clause-distance c h x y z p q r =
    let a = c.after-after.ensures.narrow h in
    let e = c.on_ellipse-ellipse.ensures.narrow a in
    let l = c.corrected-latitude.ensures.narrow e.1 in
    let g = c.in_plane-point.ensures.narrow e.0 l.1 l.0 in
    let w = c.earth_fixed.ensures.narrow a l.2 g.0 g.1 in
    let o = orbit_exists c.args.el.now c.args.motion.lo c.args.t.lo in
    let k = returns-clause-holds c c.args.motion.lo c.args.t.lo o.0 o.1 o.2 (low_member _ _ c.args.motion.ordered) (low_member _ _ c.args.t.ordered) o.3 in
    near_distance c.args.el.now c.args.motion.lo c.args.t.lo o.0 o.1 o.2 x y z _ _ _ _ _ _ o.3 w.0 w.1 w.2 k.0 k.1 k.2 p q r

pub returns-clause-sizes : goal.returns-clause-sizes
returns-clause-sizes c h =
    let a = c.after-after.ensures.narrow h in
    let e = c.on_ellipse-ellipse.ensures.narrow a in
    let l = c.corrected-latitude.ensures.narrow e.1 in
    let g = c.in_plane-point.ensures.narrow e.0 l.1 l.0 in
    let w = c.earth_fixed.ensures.narrow a l.2 g.0 g.1 in
    let o = orbit_exists c.args.el.now c.args.motion.lo c.args.t.lo in
    let k = returns-clause-holds c c.args.motion.lo c.args.t.lo o.0 o.1 o.2 (low_member _ _ c.args.motion.ordered) (low_member _ _ c.args.t.ordered) o.3 in
    near_sizes c.args.el.now c.args.motion.lo c.args.t.lo o.0 o.1 o.2 _ _ _ _ _ _ o.3 w.0 w.1 w.2 k.0 k.1 k.2
