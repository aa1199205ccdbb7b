use Rattle.std.proofs.Common.{◌≡◌, ℕ, ℤ, pos, neg_ℤ, List, [], ◌∷◌, ◌++◌}
use Rattle.std.specs.Fmt.{signed_decimal}
use Rattle.grid_model.specs.declared.spans.Span.{Span}
use Rattle.sat_model.specs.declared.steps.Step.{Step}
use Rattle.sat_model.specs.declared.steps.Step.TheVariants.{Inside}
use Rattle.step_lines.specs.declared.names.StepName.TheVariants as names
use Rattle.log_tokens.specs.Words.{words_left}
use Rattle.log_tokens.specs.Fields.{count_words, number_words, IsFromTo, span_words, IsSpanWithin}
use Rattle.step_lines.specs.Lines.{step_words, step_name, StepFits}
use Rattle.step_lines.proofs.fields.inside.Goals as goal

-- where no clock follows the number, no step of this name has these words
no_clock : (line rest : List (List ℕ)) (id : ℕ)
    → ((n : ℤ) (after : List (List ℕ)) → IsFromTo (neg_ℤ (pos 200000000000000)) (pos 200000000000000) n → rest ≡ number_words n ++ after → ⊥)
    → line ≡ count_words id ++ rest → (step : Step) → StepFits step → step_name step ≡ names.In
    → line ≡ step_words step → ⊥
no_clock line rest id none e (Inside i clock lo hi) fits name f = none clock (signed_decimal lo ∷ signed_decimal hi ∷ []) (fits.1.low, fits.1.high) cc
no_clock line rest id none e _ fits name f = cc

-- and where no span follows the clock
no_clocks : (line mid rest : List (List ℕ)) (id : ℕ) (n : ℤ)
    → ((span : Span) (after : List (List ℕ)) → IsSpanWithin 200000000000000 span → rest ≡ span_words span ++ after → ⊥)
    → line ≡ count_words id ++ mid → mid ≡ number_words n ++ rest → (step : Step) → StepFits step
    → step_name step ≡ names.In → line ≡ step_words step → ⊥
no_clocks line mid rest id n none e d (Inside i clock lo hi) fits name f = none (record { lo = lo; hi = hi; ordered = fits.4 }) [] (fits.2, fits.3) cc
no_clocks line mid rest id n none e d _ fits name f = cc

pub returns-in_err-clock : goal.returns-in_err-clock
returns-in_err-clock c = rw c.from_residual-in_err-clock.ensures (λ step fits line.
    no_clock _ (words_left c.in_ok-id.rest) c.in_ok-id.id (λ n after. c.in_err-clock.ensures n after) c.in_ok-id.ensures.1 step fits.0 fits.1 line)

pub returns-in_err-clocks : goal.returns-in_err-clocks
returns-in_err-clocks c = rw c.from_residual-in_err-clocks.ensures (λ step fits line.
    no_clocks _ (words_left c.in_ok-id.rest) (words_left c.in_ok-clock.rest) c.in_ok-id.id c.in_ok-clock.clock (λ span after. c.in_err-clocks.ensures span after)
    c.in_ok-id.ensures.1 c.in_ok-clock.ensures.1 step fits.0 fits.1 line)
