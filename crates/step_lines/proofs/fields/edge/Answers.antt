use Rattle.std.proofs.Common.{◌≡◌, ℕ, List, [], ◌++◌}
use Rattle.grid_model.specs.declared.spans.Span.{Span}
use Rattle.sat_model.specs.declared.steps.Step.{Step}
use Rattle.sat_model.specs.declared.steps.Step.TheVariants.{Edge}
use Rattle.step_lines.specs.declared.names.StepName.TheVariants as names
use Rattle.log_tokens.specs.Words.{words_left}
use Rattle.log_tokens.specs.Fields.{count_words, span_words, IsSpanWithin}
use Rattle.step_lines.specs.Lines.{step_words, step_name, StepFits}
use Rattle.step_lines.proofs.fields.edge.Goals as goal

-- where no span follows the number, no edge has these words
no_edge : (line rest : List (List ℕ)) (id : ℕ)
    → ((span : Span) (after : List (List ℕ)) → IsSpanWithin 200000000000000 span → rest ≡ span_words span ++ after → ⊥)
    → line ≡ count_words id ++ rest
    → (step : Step) → StepFits step → step_name step ≡ names.Edge → line ≡ step_words step → ⊥
no_edge line rest id none e (Edge i lo hi) fits name f = none (record { lo = lo; hi = hi; ordered = fits.3 }) [] (fits.1, fits.2) cc
no_edge line rest id none e _ fits name f = cc

pub returns-in_err-clock : goal.returns-in_err-clock
returns-in_err-clock c = rw c.from_residual-in_err-clock.ensures (λ step fits line.
    no_edge _ (words_left c.in_ok-id.rest) c.in_ok-id.id (λ span after. c.in_err-clock.ensures span after) c.in_ok-id.ensures.1 step fits.0 fits.1 line)
