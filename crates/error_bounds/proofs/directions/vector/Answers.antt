use Rattle.toml.specs.View.{view}
use Rattle.error_bounds.proofs.DirectionLemmas.{no_vector}
use Rattle.error_bounds.proofs.directions.vector.Goals as goal

pub returns-in-Err : goal.returns-in-Err
returns-in-Err c = no_vector (view c.args.value.now) c.in-Err.field-0 c.in-Err.ensures
