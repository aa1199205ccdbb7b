use Rattle.step_lines.specs.Steps.{steps_of}
use Rattle.paving_log.proofs.EventLemmas.{steps_in_events}
use Rattle.tube_tests.proofs.tubes.kept.Goals as goal

-- its events are steps alone
pub cover_hull-requires : goal.cover_hull-requires
cover_hull-requires c =
    let told = rw c.in-Some.is at c.in_ok-steps.ensures.told in
    rw (steps_in_events 0 (steps_of c.in-Some.steps) c.new-2.result.items, told) c.requires
