-- Steps that pass the tests of a log can be taken.
use Rattle.std.proofs.Common.{ℕ, suc, arith, List, [], ◌∷◌}
use Rattle.std.proofs.lemmas.Int.{ints}
use Rattle.sat_model.specs.declared.rules.Rules.{Rules}
use Rattle.sat_model.specs.declared.steps.Step.{Step}
use Rattle.sat_model.specs.declared.steps.Step.TheVariants.{Cut, Split, Outside, Inside, Edge}
use Rattle.grid_model.specs.Boxes.{GridBox}
use Rattle.sat_model.specs.Events.{Event, Made, Renewed, RowsOver, steps_in}
use Rattle.sat_model.specs.Renewals.{LineFact}
use Rattle.sat_model.specs.Stages.{Stage, after}
use Rattle.sat_model.specs.Verdicts.{IsLong, StepPasses, EventsPass}
use Rattle.subpaving.specs.Folding.{IsDivisible, StepFolds, StepsFold}

long_divisible : (rules : Rules) (axis : ℕ) (part : GridBox) → IsLong rules axis part
    → IsDivisible axis part
long_divisible rules axis part long = omega (arith, ints, long, rules.wide)

pub step_folds : (rules : Rules) (stage : Stage) (step : Step) → StepPasses rules stage step
    → StepFolds stage.boxes step
step_folds rules stage (Cut id face bound) (part, is, (proper, empty)) = (part, is, proper)
step_folds rules stage (Split id axis) (part, is, long, left) = (part, is, long_divisible rules axis part long)
step_folds rules stage (Outside id) (part, is, empty) = (part, is)
step_folds rules stage (Inside id clock lo hi) (part, is, inner, hull) = (part, is)
step_folds rules stage (Edge id lo hi) (part, is, hull) = (part, is)

-- a renewal changes no box
pub steps_fold : (Meets : LineFact) (first : RowsOver) (rules : Rules) (done j : ℕ) (stage : Stage) (events : List Event)
    → EventsPass Meets first rules done j stage events → StepsFold stage.boxes (steps_in events)
steps_fold Meets first rules done j stage [] h = tt
steps_fold Meets first rules done j stage (Made step ∷ events) h =
    (step_folds rules stage step h.0, steps_fold Meets first rules done j (after stage (Made step)) events h.1)
steps_fold Meets first rules done j stage (Renewed new ∷ events) h =
    steps_fold Meets first rules done (suc j) (after stage (Renewed new)) events h.1
