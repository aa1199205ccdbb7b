use Rattle.paving_log.specs.Values.{log_value}
use Rattle.paving_log_check.proofs.BlockLemmas.{IsUnderway}
use Rattle.paving_log_check.proofs.logs.judge.Given as goal

abbrev pub invariant-loop-epoch : goal.invariant-loop-epoch
invariant-loop-epoch l = IsUnderway (log_value l.log) l.before l.epoch-index l.boxes
