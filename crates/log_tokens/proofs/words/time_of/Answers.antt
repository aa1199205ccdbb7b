use Rattle.std.proofs.Common.{◌≡◌, ◌∙◌, arith, Ok, sym, ap}
use Rattle.std.specs.Fmt.{signed_decimal, decimal}
use Rattle.std.specs.Str.{IsAscii}
use Rattle.std.proofs.lemmas.Fmt.{parse-decimal_wide, IsAscii-decimal_wide}
use Rattle.std.proofs.lemmas.Str.{IsUtf8-from_ascii}
use Rattle.log_tokens.proofs.TextLemmas.{same_pointwise}
use Rattle.log_tokens.proofs.TimeLemmas.{time_count}
use Rattle.log_tokens.proofs.words.time_of.Goals as goal
use Rattle.log_tokens.proofs.words.time_of.Goals.{else-ps-le-TIME_END-via-then-ps-le-TIME_END+else-eq, else-ps-le-TIME_END-via-else-ps-le-TIME_END}

pub returns-in-Err-clause-none : goal.returns-in-Err-clause-none
returns-in-Err-clause-none c = λ ps time e.
    let n = time_count ps time in
    let spelled : c.args.word.now ≡ decimal n.count = e ∙ ap signed_decimal n.is in
    let ascii : IsAscii (decimal n.count) = IsAscii-decimal_wide n.count (omega (arith, n.within)) in
    c.in-Err.ensures.cases.0 (IsUtf8-from_ascii _ (rw spelled ascii))

pub returns-in-Err-parse-clause-none : goal.returns-in-Err-parse-clause-none
returns-in-Err-parse-clause-none c = λ ps time e.
    let n = time_count ps time in
    let spelled : c.args.word.now ≡ decimal n.count = e ∙ ap signed_decimal n.is in
    let parsed : c.parse.result ≡ Ok n.count = parse-decimal_wide 128 n.count c.in-Ok.text.now c.parse.result (omega (arith, n.within)) (omega (arith, n.within)) (c.in-Ok.ensures.cases.0 ∙ spelled) c.parse.ensures.value.0 in
    let failed = c.in-Err-parse.is in
    cc

pub returns-else-ps-le-TIME_END-clause-none : goal.returns-else-ps-le-TIME_END-clause-none
returns-else-ps-le-TIME_END-clause-none c = λ ps time e.
    let n = time_count ps time in
    let spelled : c.args.word.now ≡ decimal n.count = e ∙ ap signed_decimal n.is in
    let parsed : c.parse.result ≡ Ok n.count = parse-decimal_wide 128 n.count c.in-Ok.text.now c.parse.result (omega (arith, n.within)) (omega (arith, n.within)) (c.in-Ok.ensures.cases.0 ∙ spelled) c.parse.ensures.value.0 in
    let found = c.in-Ok-parse.is in
    let same : c.in-Ok-parse.ps ≡ n.count = cc in
    elim c.else-ps-le-TIME_END.branch [
      | else-ps-le-TIME_END-via-then-ps-le-TIME_END+else-eq w ↦
          let again : c.as_bytes-spelled.result.now ≡ c.args.word.now = c.as_bytes-spelled.ensures.value ∙ c.format.ensures.text ∙ ap decimal same ∙ sym spelled in
          let alike = same_pointwise _ _ again in
          let apart = w.if-eq.false in
          let is = w.eq.ensures in
          cc
      | else-ps-le-TIME_END-via-else-ps-le-TIME_END w ↦ omega (arith, n.within, w.if-ps-le-TIME_END.false)
    ]
