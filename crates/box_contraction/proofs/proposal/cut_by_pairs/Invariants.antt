use Rattle.std.proofs.Common.{◌≡◌, ◌+◌, ◌*◌, ◌≤◌, map, length}
use Rattle.grid_model.specs.Boxes.{grid_box}
use Rattle.relaxed_meet.specs.TestValues.{test_value}
use Rattle.box_contraction.specs.Adding.{step_value}
use Rattle.box_contraction.proofs.SomeUnderway.{SomeUnderway}
use Rattle.box_contraction.proofs.proposal.cut_by_pairs.Given as goal

abbrev pub invariant-loop-round : goal.invariant-loop-round
invariant-loop-round l = record {
  underway : SomeUnderway (test_value l.fn.test) l.id l.round (grid_box l.fn.part) (map step_value l.fn.steps.items) (grid_box l.part) (map step_value l.steps.items);
  few : length l.steps.items ≤ length l.fn.steps.items + 6 * l.round;
  same : test_value l.test ≡ test_value l.fn.test;
}
