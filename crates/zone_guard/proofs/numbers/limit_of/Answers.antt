use Rattle.std.proofs.Common.{◌≡◌, get_or, sym, ◌∙◌, arith}
use Rattle.zone_guard.proofs.AmountLemmas.{behind_minus}
use Rattle.zone_guard.proofs.numbers.limit_of.Goals as goal
use Rattle.log_tokens.proofs.DigitLemmas.{one_amount}

pub returns-in_err-amount-clause-none : goal.returns-in_err-amount-clause-none
returns-in_err-amount-clause-none c = rw c.from_residual.ensures (λ n within e.
    let minus : get_or c.args.word.now 0 0 ≡ 45 = omega arith in
    let is = behind_minus c.args.word.now n minus within e in
    c.in_err-amount.ensures.none is.amount is.within is.spelled)

pub returns-then-amount-eq0-clause-none : goal.returns-then-amount-eq0-clause-none
returns-then-amount-eq0-clause-none c = λ n within e.
    let minus : get_or c.args.word.now 0 0 ≡ 45 = omega arith in
    let is = behind_minus c.args.word.now n minus within e in
    let same = one_amount is.amount c.in_ok-amount.amount (omega (arith, is.within)) (omega (arith, c.if-amount-eq0.true)) (sym is.spelled ∙ c.in_ok-amount.ensures.found.0) in
    omega (arith, same, is.some, c.if-amount-eq0.true)
