use Rattle.std.proofs.Common.{◌≡◌, List, ap, arith, length, map, refl}
use Rattle.step_lines.specs.Steps.{steps_of}
use Rattle.paving_log.specs.Renewing.{events_from}
use Rattle.paving_log.specs.Values.{bound_value}
use Rattle.paving_log.specs.declared.log.Bound.{Bound}
use Rattle.sat_model.proofs.EventLemmas.{lines_of_made}
use Rattle.sat_model.specs.Bounds.{lines_of_bounds}
use Rattle.sat_model.specs.Events.{lines_of_all}
use Rattle.paving_tests.proofs.judging.judged.Goals as goal

-- its events are steps alone, and it has no bounds
pub judge-requires : goal.judge-requires
judge-requires c =
    let told = rw c.in-Some.is at c.in_ok-steps.ensures.told in
    let steps = steps_of c.in-Some.steps in
    let lines : lines_of_all (events_from 0 steps c.new.result.items) ≡ length steps =
    rw c.new.ensures.items (lines_of_made steps) in
    let many = ap length told in
    let none = ap (λ (bounds : List Bound). lines_of_bounds (map bound_value bounds)) c.new-2.ensures.items in
    record {
      numbered = rw (c.in_ok-push-2.ensures.items, c.new-epochs.ensures.items) (
        refl,
        omega (
          arith,
          lines,
          many,
          none,
          c.loop-row.invariant,
          c.loop-row.auto.row-index-end,
          c.requires.0,
          c.requires.1,
        ),
      );
    }
