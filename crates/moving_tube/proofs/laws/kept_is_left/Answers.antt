use Rattle.moving_tube.proofs.EndingLemmas.{kept_left}
use Rattle.moving_tube.proofs.laws.kept_is_left.Goals as goal

pub returns : goal.returns
returns c = kept_left
