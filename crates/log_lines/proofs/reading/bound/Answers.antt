use Rattle.log_lines.proofs.ValueLemmas.{no_bound}
use Rattle.log_tokens.specs.Words.{words_left}
use Rattle.log_lines.proofs.reading.bound.Goals as goal

pub returns-in_err-head : goal.returns-in_err-head
returns-in_err-head c = rw c.from_residual.ensures (λ l fits told.
    no_bound (words_left c.args.rest) l fits.0 fits.1 told (λ h is. c.in_err-head.ensures h tt is))
