-- The steps that can be taken from live boxes on.
use Rattle.std.specs.Prelude.{ℕ, ◌<ℤ◌, List, [], ◌∷◌}
use Rattle.sat_model.specs.declared.steps.Step.{Step}
use Rattle.sat_model.specs.declared.steps.Step.TheVariants.{Cut, Split, Outside, Inside, Edge}
use Rattle.grid_model.specs.Boxes.{GridBox, side_at}
use Rattle.sat_model.specs.Fold.{Subpaving, IsLive, IsProperCut, boxes_after}

-- a live box has the number
abbrev pub HasLive : Subpaving → ℕ → Type 0
HasLive boxes id = (part : GridBox) × IsLive boxes id part

-- the side on the axis has two grid points or more
abbrev pub IsDivisible : ℕ → GridBox → Type 0
IsDivisible axis part = (side_at axis part).lo <ℤ (side_at axis part).hi

-- the step speaks of a live box; a cut takes something off it and leaves something, and a split has
-- two grid points or more to divide
abbrev pub StepFolds : Subpaving → Step → Type 0
StepFolds boxes (Cut id face bound) =
    (part : GridBox) × IsLive boxes id part × IsProperCut face bound part
StepFolds boxes (Split id axis) = (part : GridBox) × IsLive boxes id part × IsDivisible axis part
StepFolds boxes (Outside id) = HasLive boxes id
StepFolds boxes (Inside id clock lo hi) = HasLive boxes id
StepFolds boxes (Edge id lo hi) = HasLive boxes id

-- each step does where it comes
abbrev pub StepsFold : Subpaving → List Step → Type 0
StepsFold boxes [] = Unit {0}
StepsFold boxes (step ∷ steps) = StepFolds boxes step × StepsFold (boxes_after boxes step) steps
