use Rattle.std.proofs.Common.{◌≡◌, ◌++◌, map}
use Rattle.grid_model.specs.Boxes.{grid_box}
use Rattle.sat_model.specs.Fold.{pieces, pieces_from}
use Rattle.subpaving.specs.Folding.{StepsFold}
use Rattle.subpaving.specs.LiveValues.{live_value}
use Rattle.step_lines.specs.Steps.{steps_of, steps_left}
use Rattle.paving_log.specs.CoverBoxes.{kept_parts}
use Rattle.paving_log.proofs.cover.boxes_kept.Given as goal

-- the boxes kept so far, and those that the steps left keep, are all
abbrev pub invariant-loop-step : goal.invariant-loop-step
invariant-loop-step l = record {
  folds : StepsFold (live_value l.live) (steps_left l.step-iterator);
  kept : map grid_box l.boxes.items ++ kept_parts (pieces_from (live_value l.live) (steps_left l.step-iterator))
      ≡ kept_parts (pieces (grid_box l.fn.root) (steps_of l.fn.steps));
}
