use Rattle.std.proofs.Common.{◌≡◌, ◌+◌, ◌-◌, ◌≤◌, map, length}
use Rattle.grid_model.specs.Boxes.{grid_box}
use Rattle.relaxed_meet.specs.TestValues.{test_value}
use Rattle.box_contraction.specs.Adding.{step_value}
use Rattle.box_contraction.proofs.RoundsUnderway.{RoundsUnderway}
use Rattle.box_contraction.proofs.rounds.cut_rounds.Given as goal

abbrev pub invariant-rounds : goal.invariant-rounds
invariant-rounds l = record {
  underway : RoundsUnderway (test_value l.fn.test) l.id (grid_box l.fn.part) (map step_value l.fn.steps.items) (grid_box l.part) (map step_value l.steps.items);
  few : length l.steps.items ≤ length l.fn.steps.items + 1008;
  same : test_value l.test ≡ test_value l.fn.test;
}

abbrev pub decreases-rounds : goal.decreases-rounds
decreases-rounds l = (length l.fn.steps.items + 1008) - length l.steps.items
