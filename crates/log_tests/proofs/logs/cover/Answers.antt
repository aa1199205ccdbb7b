use Rattle.step_lines.specs.Steps.{steps_of}
use Rattle.paving_log.proofs.EventLemmas.{steps_in_events}
use Rattle.log_tests.proofs.logs.cover.Goals as goal

-- its events are steps alone
pub cover_boxes-requires : goal.cover_boxes-requires
cover_boxes-requires c =
    let told = rw c.in-Some.is at c.in_ok-steps.ensures.told in
    rw (steps_in_events 0 (steps_of c.in-Some.steps) c.new-2.result.items, told) c.requires
