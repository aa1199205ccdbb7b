use Rattle.log_writer.proofs.AlongLemmas.{wrote_none}
use Rattle.log_writer.proofs.bounds.put_axes.Goals as goal

pub returns-then-length-le-LONG-clause-written : goal.returns-then-length-le-LONG-clause-written
returns-then-length-le-LONG-clause-written g c = wrote_none _ _ _ _ _ _ _
