use Rattle.std.proofs.Common.{arith, ap, List, count_by}
use Rattle.sat_model.specs.declared.steps.Step.{Step}
use Rattle.std.proofs.lemmas.List.Sums.{count_by-le-length}
use Rattle.grid_model.specs.Boxes.{grid_box}
use Rattle.sat_model.specs.StepKinds.{is_kept_step}
use Rattle.sat_model.specs.BoxTests.{test_in}
use Rattle.sat_model.specs.Logs.{first_rows, lines_of_body}
use Rattle.sat_model.specs.Renewals.{AnyLine}
use Rattle.sat_model.specs.Stages.{first_stage}
use Rattle.sat_model.proofs.KeptLemmas.{kept_of_steps}
use Rattle.step_lines.specs.Steps.{steps_of}
use Rattle.paving_log.specs.Values.{body_value, body_option, block_of}
use Rattle.paving_log.proofs.EventLemmas.{steps_in_events, steps_le_lines, lines_of_events}
use Rattle.paving_log_check.proofs.blocks.kept_boxes.Goals as goal

pub returns-in-Some-clause-value : goal.returns-in-Some-clause-value
returns-in-Some-clause-value c rules h =
    let body = c.in-Some.body in
    let value = body_value body in
    let block = block_of c.args.epoch.now in
    let passes = rw c.in-Some.is at h in
    let kept = kept_of_steps AnyLine (first_rows block value) rules body.done 0 (first_stage (test_in rules block) (grid_box body.root)) value.events passes.events in
    rw c.in-Some.is (omega (arith, c.kept.ensures, kept, ap (λ (steps : List Step). count_by is_kept_step steps) (steps_in_events 0 (steps_of body.steps) body.renewals.items)))

pub returns-in-Some-clause-bound : goal.returns-in-Some-clause-bound
returns-in-Some-clause-bound c =
    let body = c.in-Some.body in
    omega (
      arith,
      c.kept.ensures,
      count_by-le-length is_kept_step (steps_of body.steps),
      steps_le_lines (steps_of body.steps) body.renewals.items,
      lines_of_events (body_value body).events,
      ap (λ o. lines_of_body (body_option o)) c.in-Some.is,
    )
