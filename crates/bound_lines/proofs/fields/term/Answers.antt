use Rattle.std.proofs.Common.{◌∷◌, arith}
use Rattle.std.specs.Fmt.{signed_decimal}
use Rattle.bound_lines.proofs.fields.term.Goals as goal

pub returns-in_err-place : goal.returns-in_err-place
returns-in_err-place c = rw c.from_residual.ensures (λ t after fits line.
    c.in_err-place.ensures t.place (signed_decimal t.multiplier ∷ after) (omega arith, omega (arith, t.place_low)) line)

pub returns-in_err-multiplier : goal.returns-in_err-multiplier
returns-in_err-multiplier c = rw c.from_residual-in_err-multiplier.ensures (λ t after fits line.
    c.in_err-multiplier.ensures t.multiplier after (t.multiplier_within.low, t.multiplier_within.high) (cc (line, c.in_ok-place.ensures.1)))
