use Rattle.std.specs.Fmt.{signed_decimal}
use Rattle.std.proofs.Common.{◌∷◌, [], arith}
use Rattle.log_lines.proofs.header.limits.Goals as goal

pub returns-in_err-bisections : goal.returns-in_err-bisections
returns-in_err-bisections c = rw c.from_residual-in_err-bisections.ensures (λ r fits line.
    c.in_err-bisections.ensures r.bisections (signed_decimal r.width ∷ []) (omega arith, r.few_bisections) (cc (line, c.in_ok-outliers.ensures.1)))

pub returns-in_err-width : goal.returns-in_err-width
returns-in_err-width c = rw c.from_residual-in_err-width.ensures (λ r fits line.
    c.in_err-width.ensures r.width [] (r.wide, r.narrow) (cc (line, c.in_ok-outliers.ensures.1, c.in_ok-bisections.ensures.1)))
