-- Steps tested one after another.
use Rattle.std.proofs.Common.{◌≡◌, ℕ, zero, suc, ◌<◌, ◌≤◌, arith, List, [], ◌∷◌, ◌++◌, length, take, drop, refl, ap}
use Rattle.sat_model.specs.declared.rules.Rules.{Rules}
use Rattle.sat_model.specs.declared.steps.Step.{Step}
use Rattle.sat_model.specs.Events.{Made}
use Rattle.sat_model.specs.Stages.{Stage, after}
use Rattle.sat_model.specs.Verdicts.{StepPasses, StepFails}
use Rattle.paving_log_check.specs.Steps.{StepsPass, StepsFail, stage_behind}

-- ---- one step more

pub passes_more : (rules : Rules) (stage : Stage) (steps : List Step) (step : Step)
    → StepsPass rules stage steps → StepPasses rules (stage_behind stage steps) step
    → StepsPass rules stage (steps ++ step ∷ [])
passes_more rules stage [] step h k = (k, tt)
passes_more rules stage (first ∷ steps) step h k = (h.0, passes_more rules (after stage (Made first)) steps step h.1 k)

pub stage_more : (stage : Stage) (steps : List Step) (step : Step)
    → stage_behind stage (steps ++ step ∷ []) ≡ after (stage_behind stage steps) (Made step)
stage_more stage [] step = refl
stage_more stage (first ∷ steps) step = stage_more (after stage (Made first)) steps step

pub fails_next : (rules : Rules) (stage : Stage) (steps more : List Step) (step : Step) (number : ℕ)
    → StepsPass rules stage steps
    → StepFails rules (stage_behind stage steps) step number
    → StepsFail rules stage (steps ++ step ∷ more) (length steps) number
fails_next rules stage [] more step number h f = f
fails_next rules stage (first ∷ steps) more step number h f = (h.0, fails_next rules (after stage (Made first)) steps more step number h.1 f)

-- steps keep the test
pub test_behind : (stage : Stage) (steps : List Step) → (stage_behind stage steps).test ≡ stage.test
test_behind stage [] = refl
test_behind stage (step ∷ steps) = test_behind (after stage (Made step)) steps

-- ---- the next of some steps

pub record IsNext (xs : List Step) (i : ℕ) (step : Step) (more : List Step) : Type 0 where
  pub taken : take (suc i) xs ≡ take i xs ++ step ∷ []
  pub left : drop (suc i) xs ≡ more
  pub less : i < length xs
  pub many : length (take i xs) ≡ i

pub is_next : (xs : List Step) (i : ℕ) (step : Step) (more : List Step) → drop i xs ≡ step ∷ more
    → IsNext xs i step more
is_next [] zero step more e = absurd cc
is_next [] (suc i) step more e = absurd cc
is_next (x ∷ xs) zero step more e = record { taken = cc; left = cc; less = omega arith; many = refl }
is_next (x ∷ xs) (suc i) step more e =
    let at = is_next xs i step more e in
    record { taken = ap (λ l. x ∷ l) at.taken; left = at.left; less = omega (arith, at.less); many = ap suc at.many }

pub some_taken : (xs : List Step) (i most : ℕ) (step : Step) (more : List Step)
    → drop i xs ≡ step ∷ more → i < most
    → (rest : List Step) × (take most xs ≡ take i xs ++ step ∷ rest)
some_taken [] zero most step more e less = absurd cc
some_taken [] (suc i) most step more e less = absurd cc
some_taken (x ∷ xs) i zero step more e less = absurd (omega arith)
some_taken (x ∷ xs) zero (suc most) step more e less = (take most xs, cc)
some_taken (x ∷ xs) (suc i) (suc most) step more e less = let (rest, is) = some_taken xs i most step more e (omega arith) in (rest, ap (λ l. x ∷ l) is)

-- none is left, so all were taken
pub none_left : (xs : List Step) (i most : ℕ) → drop i xs ≡ [] → i ≤ most
    → (take most xs ≡ take i xs) × (drop most xs ≡ [])
none_left [] zero zero e le = (refl, refl)
none_left [] zero (suc most) e le = (refl, refl)
none_left [] (suc i) zero e le = (refl, refl)
none_left [] (suc i) (suc most) e le = (refl, refl)
none_left (x ∷ xs) zero most e le = absurd cc
none_left (x ∷ xs) (suc i) zero e le = absurd (omega arith)
none_left (x ∷ xs) (suc i) (suc most) e le = let (same, none) = none_left xs i most e (omega arith) in (ap (λ l. x ∷ l) same, none)
