-- Each in or edge step that passes keeps one box.
use Rattle.std.proofs.Common.{◌≡◌, ℕ, suc, arith, List, [], ◌∷◌, cond, count_by, refl, true}
use Rattle.std.proofs.lemmas.List.Sums.{sum_by-cons, sum_by-append}
use Rattle.sat_model.specs.declared.rules.Rules.{Rules}
use Rattle.sat_model.specs.declared.steps.Step.{Step}
use Rattle.sat_model.specs.declared.steps.Step.TheVariants.{Cut, Split, Outside, Inside, Edge}
use Rattle.sat_model.specs.Cover.{is_kept, KeepsClock}
use Rattle.sat_model.specs.Fold.{boxes_after, taken_by, pieces_from}
use Rattle.sat_model.specs.Events.{Event, Made, Renewed, RowsOver, steps_in}
use Rattle.sat_model.specs.Renewals.{LineFact}
use Rattle.sat_model.specs.Stages.{Stage, after}
use Rattle.sat_model.specs.StepKinds.{is_kept_step}
use Rattle.sat_model.specs.Verdicts.{StepPasses, EventsPass}
use Rattle.std.specs.Prelude.{ℤ}

kept_taken : (rules : Rules) (stage : Stage) (step : Step) → StepPasses rules stage step
    → count_by is_kept (taken_by stage.boxes step) ≡ cond (is_kept_step step) 1 0
kept_taken rules stage (Cut id face bound) (part, is, cuts) = rw is refl
kept_taken rules stage (Split id axis) h = refl
kept_taken rules stage (Outside id) (part, is, empty) = rw is refl
kept_taken rules stage (Inside id clock lo hi) (part, is, inner, hull) = rw is refl
kept_taken rules stage (Edge id lo hi) (part, is, hull) = rw is refl

-- so the steps alone tell how many boxes are kept
module _ (Meets : LineFact) (first : RowsOver) (rules : Rules) (done : ℕ) where
  pub kept_of_steps : (j : ℕ) (stage : Stage) (events : List Event)
      → EventsPass Meets first rules done j stage events
      → count_by is_kept (pieces_from stage.boxes (steps_in events)) ≡ count_by is_kept_step (steps_in events)
  kept_of_steps j stage [] h = refl
  kept_of_steps j stage (Made step ∷ events) h =
      omega (
        arith,
        sum_by-append (λ piece. cond (is_kept piece) 1 0) (taken_by stage.boxes step) (pieces_from (boxes_after stage.boxes step) (steps_in events)),
        sum_by-cons (λ s. cond (is_kept_step s) 1 0) step (steps_in events),
        kept_taken rules stage step h.0,
        kept_of_steps j (after stage (Made step)) events h.1,
      )
  kept_of_steps j stage (Renewed new ∷ events) h = kept_of_steps (suc j) (after stage (Renewed new)) events h.1

-- a step that keeps an offset keeps a box
pub kept_step : (step : Step) (b : ℤ) → KeepsClock step b → is_kept_step step ≡ true
kept_step (Cut id face bound) b h = absurd h
kept_step (Split id axis) b h = absurd h
kept_step (Outside id) b h = absurd h
kept_step (Inside id clock lo hi) b h = refl
kept_step (Edge id lo hi) b h = refl
