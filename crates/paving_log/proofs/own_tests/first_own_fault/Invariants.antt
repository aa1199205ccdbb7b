use Rattle.paving_log.specs.Values.{log_value}
use Rattle.paving_log.proofs.OwnLemmas.{IsTestedTo}
use Rattle.paving_log.proofs.own_tests.first_own_fault.Given as goal

abbrev pub invariant-loop-epoch : goal.invariant-loop-epoch
invariant-loop-epoch l = IsTestedTo (log_value l.log) l.before l.epoch-index
