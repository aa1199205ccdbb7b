use Rattle.std.proofs.Common.{List, subst}
use Rattle.grid_model.specs.Boxes.{grid_box}
use Rattle.sat_model.specs.declared.steps.Step.{Step}
use Rattle.sat_model.specs.Fold.{first_boxes}
use Rattle.subpaving.specs.Folding.{StepsFold}
use Rattle.step_lines.specs.Steps.{steps_of}
use Rattle.paving_log.proofs.EventLemmas.{steps_in_events}
use Rattle.paving_log.proofs.cover.cover_boxes.Goals as goal

pub boxes_kept-requires : goal.boxes_kept-requires
boxes_kept-requires c =
    let body = c.in-Some.body in
    subst (λ (steps : List Step). StepsFold (first_boxes (grid_box body.root)) steps) (steps_in_events 0 (steps_of body.steps) body.renewals.items) (rw c.in-Some.is at c.requires)

pub returns-in_ok-boxes_kept-in-Some : goal.returns-in_ok-boxes_kept-in-Some
returns-in_ok-boxes_kept-in-Some c =
    let body = c.in-Some.body in
    rw (c.in-Some.is, steps_in_events 0 (steps_of body.steps) body.renewals.items) c.in_ok-boxes_kept-in-Some.ensures
