use Rattle.std.proofs.Common.{◌≡◌, ◌+◌, length, drop}
use Rattle.grid_model.specs.Boxes.{grid_box}
use Rattle.step_lines.specs.Steps.{steps_of, steps_left}
use Rattle.paving_log.specs.Values.{body_value}
use Rattle.paving_log_check.specs.Steps.{stage_of}
use Rattle.paving_log_check.proofs.WayLemmas.{IsOnTheWay}
use Rattle.paving_log_check.proofs.events.events_fault.Given as goal

abbrev pub invariant-loop-renewal : goal.invariant-loop-renewal
invariant-loop-renewal l = record {
  way : IsOnTheWay l.given.delays (grid_box l.given.root.now) l.given.firsts.now l.given.bases.now l.rules l.body.done (body_value l.body).events l.line
      l.next l.taken l.renewal-index (stage_of l.live l.test) (steps_left l.ahead) (drop l.renewal-index l.body.renewals.items);
  all : l.taken + length (steps_left l.ahead) ≡ length (steps_of l.body.steps);
}
