use Rattle.std.proofs.Common.{◌≤◌, List, ◌++◌, map, take}
use Rattle.sat_model.specs.Fold.{ShownStep}
use Rattle.box_contraction.specs.Adding.{step_value}
use Rattle.paving.specs.Taken.{TookAll}
use Rattle.paving.specs.Counting.{IsCountOf}
use Rattle.paving.proofs.put_turn.put_steps.Given as goal

abbrev pub invariant-loop-shown : goal.invariant-loop-shown
invariant-loop-shown g l = record {
  taken : TookAll g.L.Steps.took l.fn.log (map step_value (take l.shown-index l.steps)) l.log;
  counts : (before : List ShownStep) → IsCountOf l.fn.counts before → IsCountOf l.counts (before ++ map step_value (take l.shown-index l.steps));
  faults : g.L.Steps.faults l.fn.log ≤ g.L.Steps.faults l.log;
}
