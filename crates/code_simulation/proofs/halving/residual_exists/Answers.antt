use Rattle.code_simulation.proofs.ResidualExists.{residual_exists}
use Rattle.code_simulation.proofs.halving.residual_exists.Goals as goal

pub returns : goal.returns
returns c = residual_exists
