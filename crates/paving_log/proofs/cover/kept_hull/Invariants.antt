use Rattle.std.proofs.Common.{◌≡◌}
use Rattle.grid_model.specs.Boxes.{grid_box}
use Rattle.sat_model.specs.Fold.{pieces, pieces_from}
use Rattle.sat_model.specs.KeptHulls.{hull_behind, kept_hull}
use Rattle.subpaving.specs.Folding.{StepsFold}
use Rattle.subpaving.specs.LiveValues.{box_option, live_value}
use Rattle.step_lines.specs.Steps.{steps_of, steps_left}
use Rattle.paving_log.proofs.cover.kept_hull.Given as goal

-- the hull so far, with the boxes that the steps left keep, is that of all
abbrev pub invariant-loop-step : goal.invariant-loop-step
invariant-loop-step l = record {
  folds : StepsFold (live_value l.live) (steps_left l.step-iterator);
  kept : hull_behind (box_option l.hull) (pieces_from (live_value l.live) (steps_left l.step-iterator))
      ≡ kept_hull (pieces (grid_box l.fn.root) (steps_of l.fn.steps));
}
