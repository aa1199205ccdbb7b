use Rattle.std.proofs.Common.{◌≡◌, ℕ, zero, suc, List, [], ◌∷◌, ◌++◌, arith}
use Rattle.std.specs.Fmt.{decimal}
use Rattle.log_tokens.specs.Words.{words_left}
use Rattle.log_tokens.specs.Fields.{count_words, optional_words, IsCountFromTo}
use Rattle.log_tokens.proofs.fields.field_skip.Goals as goal

-- where no count follows the number, no skip with a field has these words
no_field : (line rest : List (List ℕ)) (test : ℕ)
    → ((n : ℕ) (after : List (List ℕ)) → IsCountFromTo 1 20 n → rest ≡ count_words n ++ after → ⊥)
    → line ≡ count_words test ++ rest
    → (number field : ℕ) → IsCountFromTo 1 20 field → line ≡ decimal number ∷ optional_words field
    → ⊥
no_field line rest test none e number zero fits f = omega (arith, fits.0)
no_field line rest test none e number (suc n) fits f = none (suc n) [] fits cc

pub returns-in_err-field : goal.returns-in_err-field
returns-in_err-field c = rw c.from_residual-in_err-field.ensures (λ skip fits line.
    no_field _ (words_left c.in_ok-number.rest) c.in_ok-number.number (λ n after. c.in_err-field.ensures n after) c.in_ok-number.ensures.1 skip.number skip.field fits.1 line)
