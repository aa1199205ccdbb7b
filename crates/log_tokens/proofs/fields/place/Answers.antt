use Rattle.std.specs.Fmt.{signed_decimal}
use Rattle.std.proofs.Common.{◌∷◌}
use Rattle.log_tokens.proofs.fields.place.Goals as goal

pub returns-in_err-y : goal.returns-in_err-y
returns-in_err-y c = rw c.from_residual-in_err-y.ensures (λ p after fits line.
    c.in_err-y.ensures p.y (signed_decimal p.z ∷ after) (fits.1.low, fits.1.high) (cc (line, c.in_ok-x.ensures.1)))

pub returns-in_err-z : goal.returns-in_err-z
returns-in_err-z c = rw c.from_residual-in_err-z.ensures (λ p after fits line.
    c.in_err-z.ensures p.z after (fits.2.low, fits.2.high) (cc (line, c.in_ok-x.ensures.1, c.in_ok-y.ensures.1)))
