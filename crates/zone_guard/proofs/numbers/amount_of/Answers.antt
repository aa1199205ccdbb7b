use Rattle.std.proofs.Common.{◌≡◌, ◌∙◌, arith, Ok, sym, ap}
use Rattle.std.specs.Fmt.{decimal}
use Rattle.std.specs.Str.{IsAscii}
use Rattle.std.proofs.lemmas.Fmt.{parse-decimal_wide, IsAscii-decimal_wide}
use Rattle.std.proofs.lemmas.Str.{IsUtf8-from_ascii}
use Rattle.log_tokens.proofs.TextLemmas.{same_pointwise}
use Rattle.zone_guard.proofs.numbers.amount_of.Goals as goal
use Rattle.zone_guard.proofs.numbers.amount_of.Goals.{else-amount-le-GREATEST-via-then-amount-le-GREATEST+else-eq, else-amount-le-GREATEST-via-else-amount-le-GREATEST}

pub returns-in-Err-clause-none : goal.returns-in-Err-clause-none
returns-in-Err-clause-none c = λ n within spelled.
    let ascii : IsAscii (decimal n) = IsAscii-decimal_wide n (omega (arith, within)) in
    c.in-Err.ensures.cases.0 (IsUtf8-from_ascii _ (rw spelled ascii))

pub returns-in-Err-parse-clause-none : goal.returns-in-Err-parse-clause-none
returns-in-Err-parse-clause-none c = λ n within spelled.
    let parsed : c.parse.result ≡ Ok n = parse-decimal_wide 128 n c.in-Ok.text.now c.parse.result (omega (arith, within)) (omega (arith, within)) (c.in-Ok.ensures.cases.0 ∙ spelled) c.parse.ensures.value.0 in
    let failed = c.in-Err-parse.is in
    cc

pub returns-else-amount-le-GREATEST-clause-none : goal.returns-else-amount-le-GREATEST-clause-none
returns-else-amount-le-GREATEST-clause-none c = λ n within spelled.
    let parsed : c.parse.result ≡ Ok n = parse-decimal_wide 128 n c.in-Ok.text.now c.parse.result (omega (arith, within)) (omega (arith, within)) (c.in-Ok.ensures.cases.0 ∙ spelled) c.parse.ensures.value.0 in
    let found = c.in-Ok-parse.is in
    let same : c.in-Ok-parse.amount ≡ n = cc in
    elim c.else-amount-le-GREATEST.branch [
      | else-amount-le-GREATEST-via-then-amount-le-GREATEST+else-eq w ↦
          let again : c.as_bytes-spelled.result.now ≡ c.args.digits.now = c.as_bytes-spelled.ensures.value ∙ c.format.ensures.text ∙ ap decimal same ∙ sym spelled in
          let alike = same_pointwise _ _ again in
          let apart = w.if-eq.false in
          let is = w.eq.ensures in
          cc
      | else-amount-le-GREATEST-via-else-amount-le-GREATEST w ↦ omega (arith, within, w.if-amount-le-GREATEST.false)
    ]
