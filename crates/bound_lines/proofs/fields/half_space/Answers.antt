use Rattle.std.proofs.Common.{◌∷◌}
use Rattle.std.specs.Fmt.{signed_decimal}
use Rattle.bound_lines.proofs.fields.half_space.Goals as goal

pub returns-in_err-x : goal.returns-in_err-x
returns-in_err-x c = rw c.from_residual.ensures (λ h after fits line.
    c.in_err-x.ensures h.x (signed_decimal h.y ∷ signed_decimal h.z ∷ signed_decimal h.most ∷ after) (h.x_within.low, h.x_within.high) line)

pub returns-in_err-y : goal.returns-in_err-y
returns-in_err-y c = rw c.from_residual-in_err-y.ensures (λ h after fits line.
    c.in_err-y.ensures h.y (signed_decimal h.z ∷ signed_decimal h.most ∷ after) (h.y_within.low, h.y_within.high) (cc (line, c.in_ok-x.ensures.1)))

pub returns-in_err-z : goal.returns-in_err-z
returns-in_err-z c = rw c.from_residual-in_err-z.ensures (λ h after fits line.
    c.in_err-z.ensures h.z (signed_decimal h.most ∷ after) (h.z_within.low, h.z_within.high) (cc (line, c.in_ok-x.ensures.1, c.in_ok-y.ensures.1)))

pub returns-in_err-most : goal.returns-in_err-most
returns-in_err-most c = rw c.from_residual-in_err-most.ensures (λ h after fits line.
    c.in_err-most.ensures h.most after (h.most_within.low, h.most_within.high) (cc (line, c.in_ok-x.ensures.1, c.in_ok-y.ensures.1, c.in_ok-z.ensures.1)))
