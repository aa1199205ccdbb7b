use Rattle.std.proofs.Common.{[]}
use Rattle.log_lines.proofs.header.header.Goals as goal

pub returns-in_err-n : goal.returns-in_err-n
returns-in_err-n c = rw c.from_residual-in_err-n.ensures (λ h fits line.
    c.in_err-n.ensures h.n [] fits.n (cc (line, c.in_ok-index.ensures.1, c.in_ok-ps.ensures.1)))
