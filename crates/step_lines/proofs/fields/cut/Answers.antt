use Rattle.std.proofs.Common.{◌≡◌, ℕ, ℤ, pos, neg_ℤ, List, [], ◌∷◌, ◌++◌}
use Rattle.std.specs.Fmt.{signed_decimal}
use Rattle.sat_model.specs.declared.steps.Step.{Step}
use Rattle.sat_model.specs.declared.steps.Step.TheVariants.{Cut}
use Rattle.step_lines.specs.declared.names.StepName.TheVariants as names
use Rattle.log_tokens.specs.Words.{words_left}
use Rattle.log_tokens.specs.Fields.{count_words, number_words, IsFromTo, IsCountFromTo}
use Rattle.step_lines.specs.Lines.{step_words, step_name, StepFits}
use Rattle.step_lines.proofs.fields.cut.Goals as goal

-- where no face follows the number, no cut has these words
no_face : (line rest : List (List ℕ)) (id : ℕ)
    → ((n : ℕ) (after : List (List ℕ)) → IsCountFromTo 0 5 n → rest ≡ count_words n ++ after → ⊥)
    → line ≡ count_words id ++ rest → (step : Step) → StepFits step → step_name step ≡ names.Cut
    → line ≡ step_words step → ⊥
no_face line rest id none e (Cut i face bound) fits name f = none face (signed_decimal bound ∷ []) fits.1 cc
no_face line rest id none e _ fits name f = cc

-- and where no bound follows the face
no_bound : (line mid rest : List (List ℕ)) (id face : ℕ)
    → ((n : ℤ) (after : List (List ℕ)) → IsFromTo (neg_ℤ (pos 10000000000000)) (pos 10000000000000) n → rest ≡ number_words n ++ after → ⊥)
    → line ≡ count_words id ++ mid → mid ≡ count_words face ++ rest → (step : Step) → StepFits step
    → step_name step ≡ names.Cut → line ≡ step_words step → ⊥
no_bound line mid rest id face none e d (Cut i side bound) fits name f = none bound [] (fits.2.low, fits.2.high) cc
no_bound line mid rest id face none e d _ fits name f = cc

pub returns-in_err-face : goal.returns-in_err-face
returns-in_err-face c = rw c.from_residual-in_err-face.ensures (λ step fits line.
    no_face _ (words_left c.in_ok-id.rest) c.in_ok-id.id (λ n after. c.in_err-face.ensures n after) c.in_ok-id.ensures.1 step fits.0 fits.1 line)

pub returns-in_err-bound : goal.returns-in_err-bound
returns-in_err-bound c = rw c.from_residual-in_err-bound.ensures (λ step fits line.
    no_bound _ (words_left c.in_ok-id.rest) (words_left c.in_ok-face.rest) c.in_ok-id.id c.in_ok-face.face (λ n after. c.in_err-bound.ensures n after)
    c.in_ok-id.ensures.1 c.in_ok-face.ensures.1 step fits.0 fits.1 line)
