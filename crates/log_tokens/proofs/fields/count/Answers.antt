use Rattle.std.proofs.Common.{pos, arith}
use Rattle.std.proofs.lemmas.Int.{ints}
use Rattle.log_tokens.proofs.fields.count.Goals as goal

pub returns-in_err-number : goal.returns-in_err-number
returns-in_err-number c = rw c.from_residual.ensures (λ n after fits line.
    c.in_err-number.ensures (pos n) after (omega (arith, ints, fits.0, fits.1), omega (arith, ints, fits.0, fits.1)) line)
