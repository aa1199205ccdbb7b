use Rattle.std.proofs.Common.{drop}
use Rattle.paving_log.specs.Values.{log_value}
use Rattle.paving_log_check.proofs.OnWayLemmas.{IsOnWay}
use Rattle.paving_log_check.proofs.files.check_with.Given as goal

abbrev pub invariant-loop-k : goal.invariant-loop-k
invariant-loop-k g l = IsOnWay (g.S.RowSource.meaning l.source) l.rules (g.W.Walk.searches l.walk) (log_value l.log)
    l.before l.next l.boxes (g.W.Walk.searches l.left) (drop l.k (log_value l.log).blocks) × g.W.Walk.ready l.left
