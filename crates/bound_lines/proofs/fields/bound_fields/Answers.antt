use Rattle.std.proofs.Common.{[], ◌∷◌, refl}
use Rattle.std.specs.Fmt.{decimal}
use Rattle.log_tokens.proofs.WordLemmas.{same_rest}
use Rattle.bound_lines.specs.BoundLines.{half_space_words}
use Rattle.bound_lines.proofs.fields.bound_fields.Goals as goal

pub returns-in_err-half : goal.returns-in_err-half
returns-in_err-half c = rw c.from_residual.ensures (λ b fits line.
    c.in_err-half.ensures b.half (decimal b.sums ∷ []) tt line)

pub returns-in_err-sums : goal.returns-in_err-sums
returns-in_err-sums c = rw c.from_residual-in_err-sums.ensures (λ b fits line.
    let behind = same_rest _ (half_space_words c.in_ok-half.half) (half_space_words b.half) _ (decimal b.sums ∷ []) refl c.in_ok-half.ensures.1 line in
    c.in_err-sums.ensures b.sums [] (b.some_sums, b.few_sums) behind)
