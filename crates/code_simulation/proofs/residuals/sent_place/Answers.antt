use Rattle.std.proofs.Common.{lit≤}
use Rattle.broadcast_orbit.proofs.OrbitEnds.{orbit_ends}
use Rattle.earth_rotation.specs.TurnSizes.{near_reach, narrow_width}
use Rattle.code_simulation.proofs.residuals.sent_place.Goals as goal

pub returns-clause-holds : goal.returns-clause-holds
returns-clause-holds c n time x y z motion at orbit =
    let h = c.place.ensures.holds n time x y z (c.mean_motion.ensures.holds n motion) at orbit in
    record { x_held = h.0; y_held = h.1; z_held = h.2 }

pub returns-clause-ends : goal.returns-clause-ends
returns-clause-ends c =
    let w = c.requires.width in
    let e = c.place.ensures in
    orbit_ends near_reach narrow_width (lit≤ tt) (lit≤ tt) c.place.result (e.distance w) (e.x_width w) (e.y_width w) (e.z_width w)

pub returns-clause-distance : goal.returns-clause-distance
returns-clause-distance c x y z h = c.place.ensures.distance c.requires.width x y z h.x_held h.y_held h.z_held
