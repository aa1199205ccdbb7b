use Rattle.std.proofs.Common.{arith}
use Rattle.rinex_text.proofs.FieldLemmas.{same_count}
use Rattle.rinex_text.proofs.counts.satellite_number.Goals as goal

pub returns-in_err-number-clause-none : goal.returns-in_err-number-clause-none
returns-in_err-number-clause-none c = rw c.from_residual.ensures (λ v is. c.in_err-number.ensures.none v is.count)

pub returns-then-number-eq0-clause-none : goal.returns-then-number-eq0-clause-none
returns-then-number-eq0-clause-none c = λ v is.
    let same = same_count _ _ _ is.count c.in_ok-number.ensures.number in
    absurd (omega (arith, same, is.from, c.if-number-eq0.true))
