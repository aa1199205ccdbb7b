-- Lists of events: steps alone, and lists behind one another.
use Rattle.std.proofs.Common.{◌≡◌, ◌+◌, arith, List, [], ◌∷◌, ◌++◌, length, ap, refl}
use Rattle.sat_model.specs.declared.steps.Step.{Step}
use Rattle.sat_model.specs.Events.{Event, Made, Renewed, steps_in, renewals_in, made_all, lines_of_all}

-- ---- steps without renewals

pub steps_of_made : (steps : List Step) → steps_in (made_all steps) ≡ steps
steps_of_made [] = refl
steps_of_made (step ∷ steps) = ap (λ more. step ∷ more) (steps_of_made steps)

pub none_renewed : (steps : List Step) → renewals_in (made_all steps) ≡ []
none_renewed [] = refl
none_renewed (step ∷ steps) = none_renewed steps

pub lines_of_made : (steps : List Step) → lines_of_all (made_all steps) ≡ length steps
lines_of_made [] = refl
lines_of_made (step ∷ steps) = omega (arith, lines_of_made steps)

pub made_behind : (first more : List Step)
    → made_all (first ++ more) ≡ made_all first ++ made_all more
made_behind [] more = refl
made_behind (step ∷ first) more = ap (λ events. Made step ∷ events) (made_behind first more)

-- ---- one list behind another

pub steps_behind : (first more : List Event)
    → steps_in (first ++ more) ≡ steps_in first ++ steps_in more
steps_behind [] more = refl
steps_behind (Made step ∷ first) more = ap (λ steps. step ∷ steps) (steps_behind first more)
steps_behind (Renewed new ∷ first) more = steps_behind first more

pub renewals_behind : (first more : List Event)
    → renewals_in (first ++ more) ≡ renewals_in first ++ renewals_in more
renewals_behind [] more = refl
renewals_behind (Made step ∷ first) more = renewals_behind first more
renewals_behind (Renewed new ∷ first) more = ap (λ renewals. new ∷ renewals) (renewals_behind first more)

pub lines_behind : (first more : List Event)
    → lines_of_all (first ++ more) ≡ lines_of_all first + lines_of_all more
lines_behind [] more = omega arith
lines_behind (event ∷ first) more = omega (arith, lines_behind first more)
