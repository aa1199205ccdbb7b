use Rattle.broadcast_orbit.proofs.latitude.corrected.Goals as goal

pub returns-clause-holds : goal.returns-clause-holds
returns-clause-holds c f cv sv cu su dr di F V l =
    let phi = c.latitude_before-phi.ensures.holds f.omega cv sv l.cos_omega l.sin_omega l.cos_phi l.sin_phi F.omega_is V l.cos_omega_is l.sin_omega_is l.cos_phi_is l.sin_phi_is in
    let twice = c.doubled.ensures.holds l.cos_phi l.sin_phi l.cos_twice l.sin_twice phi l.cos_twice_is l.sin_twice_is in
    let s = c.swings-swings.ensures.holds f l.cos_twice l.sin_twice l.du dr di F twice l.swings in
    (c.latitude_after.ensures.holds l.cos_phi l.sin_phi l.du l.cos_du l.sin_du cu su phi s.0 l.cos_du_is l.sin_du_is l.cos_u_is l.sin_u_is, s.1, s.2)
