use Rattle.std.proofs.Common.{◌≡◌, take, drop}
use Rattle.step_lines.specs.Steps.{steps_left}
use Rattle.paving_log_check.specs.Steps.{stage_of, StepsPass, stage_behind}
use Rattle.paving_log_check.proofs.events.take_steps.Given as goal

abbrev pub invariant-loop-i : goal.invariant-loop-i
invariant-loop-i l = record {
  pass : StepsPass l.rules (stage_of l.fn.live l.fn.test) (take l.i (steps_left l.fn.ahead));
  stage : stage_of l.live l.test ≡ stage_behind (stage_of l.fn.live l.fn.test) (take l.i (steps_left l.fn.ahead));
  left : steps_left l.ahead ≡ drop l.i (steps_left l.fn.ahead);
}
