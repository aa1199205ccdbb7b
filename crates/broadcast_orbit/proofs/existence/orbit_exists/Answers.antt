use Rattle.broadcast_orbit.proofs.ChainExists.{orbit_exists}
use Rattle.broadcast_orbit.proofs.existence.orbit_exists.Goals as goal

pub returns : goal.returns
returns c el n t = orbit_exists el n t
