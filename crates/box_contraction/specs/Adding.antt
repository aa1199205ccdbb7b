-- Cuts that are added to a list of steps.
use Rattle.std.specs.Prelude.{◌≡◌, List, ◌++◌}
use Rattle.grid_model.specs.Boxes.{GridBox, grid_box}
use Rattle.sat_model.specs.Fold.{ShownStep}
use Rattle.box_contraction.specs.declared.box_step.BoxStep.{BoxStep}

abbrev pub step_value : BoxStep → ShownStep
step_value s = record { step = s.step; part = grid_box s.part }

-- cuts that leave a part of a box came behind the steps before
pub record AddsCuts (Are : List ShownStep → GridBox → Type 0) (before : List ShownStep)
    (left : GridBox) (now : List ShownStep) : Type 0 where
  pub cuts : List ShownStep
  pub are : Are cuts left
  pub added : now ≡ before ++ cuts
