use Rattle.earth_rotation.proofs.TurnExists.{turn_exists}
use Rattle.earth_rotation.proofs.existence.turn_exists.Goals as goal

pub returns : goal.returns
returns c p x y z = turn_exists p x y z
