use Rattle.std.proofs.Common.{◌≡◌, arith}
use Rattle.std.proofs.lemmas.Int.{ints}
use Rattle.log_tokens.proofs.NumberLemmas.{one_number}
use Rattle.log_tokens.proofs.fields.span.Goals as goal

pub returns-in_err-hi : goal.returns-in_err-hi
returns-in_err-hi c = rw c.from_residual-in_err-hi.ensures (λ s after fits line.
    c.in_err-hi.ensures s.hi after (fits.1.low, fits.1.high) (cc (line, c.in_ok-lo.ensures.1)))

pub returns-else-lo-hi : goal.returns-else-lo-hi
returns-else-lo-hi c = λ s after fits line.
    let first = c.in_ok-lo.ensures in
    let second = c.in_ok-hi.ensures in
    let lo : s.lo ≡ c.in_ok-lo.lo = one_number c.args.bound s.lo c.in_ok-lo.lo c.requires fits.0 (record { low = first.0.0; high = first.0.1 }) (cc (line, first.1)) in
    let hi : s.hi ≡ c.in_ok-hi.hi = one_number c.args.bound s.hi c.in_ok-hi.hi c.requires fits.1 (record { low = second.0.0; high = second.0.1 }) (cc (line, first.1, second.1)) in
    omega (arith, ints, c.if-lo-hi.false, s.ordered)
