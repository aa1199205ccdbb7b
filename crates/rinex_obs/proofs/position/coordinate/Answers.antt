use Rattle.std.proofs.Common.{to_z-of_z, FitsSigned, rules}
use mir.Syntax.{w64, w128}
use Rattle.rinex_obs.proofs.position.coordinate.Goals as goal

pub returns-clause-um : goal.returns-clause-um
returns-clause-um c =
    let wide : FitsSigned w128 c.in_ok-held.held.lo = search rules in
    let fits : FitsSigned w64 c.in_ok-held.held.lo = search rules in
    simp to_z-of_z (record { within = c.in_ok-held.ensures.lies.0 (cc); floor = c.in_ok-held.ensures.floor })
