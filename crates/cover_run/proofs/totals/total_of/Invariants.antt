use Rattle.paving_log.specs.Values.{log_value}
use Rattle.cover_run.proofs.TotalLemmas.{IsSummed}
use Rattle.cover_run.specs.Making.{counted_in}
use Rattle.cover_run.proofs.totals.total_of.Given as goal

abbrev pub invariant-loop-epoch : goal.invariant-loop-epoch
invariant-loop-epoch l = IsSummed (counted_in l.kind) (log_value l.log) l.epoch-index l.total
