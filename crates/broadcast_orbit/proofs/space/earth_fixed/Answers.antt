use Rattle.broadcast_orbit.specs.OrbitSizes.{inclination_amount, inclination_width, node_amount, node_width}
use Rattle.broadcast_orbit.proofs.space.earth_fixed.Goals as goal

pub returns-clause-holds : goal.returns-clause-holds
returns-clause-holds c f t di p q x y z F T D P Q e =
    let i = c.inclination.ensures.holds f.i0 di f.idot t e.inclination F.i0_is D F.idot_is T e.inclination_is in
    let tilt = c.direction_of-tilt.ensures.holds e.inclination e.cos_i e.sin_i i e.cos_i_is e.sin_i_is in
    let n = c.node.ensures.holds f.om0 f.om_dot f.toe_week t e.node F.om0_is F.om_dot_is F.toe_is T e.node_is in
    let m = c.direction_of.ensures.holds e.node e.cos_node e.sin_node n e.cos_node_is e.sin_node_is in
    (c.turned_out.ensures.x_holds p q e.cos_i e.sin_i e.cos_node e.sin_node x P Q tilt m e.x_is, c.turned_out.ensures.y_holds p q e.cos_i e.sin_i e.cos_node e.sin_node y P Q tilt m e.y_is, c.turned_out.ensures.z_holds q e.cos_i e.sin_i z Q tilt e.z_is)

pub returns-clause-narrow : goal.returns-clause-narrow
returns-clause-narrow c a b p q =
    c.turned_out.ensures.narrow p q (c.direction_of-tilt.ensures.ends inclination_amount inclination_width (c.inclination.ensures.narrow b a)) (c.direction_of.ensures.ends node_amount node_width (c.node.ensures.narrow a))
