use Rattle.std.proofs.Common.{length, ◌∙◌, ap, refl, arith}
use Rattle.std.proofs.lemmas.Str.{IsCharBoundary-from_ascii}
use Rattle.decimal_digits.proofs.DigitLemmas.{length_digits}
use Rattle.epoch_report.proofs.DigitLemmas.{behind_one}
use Rattle.epoch_report.proofs.lengths.push_six_digits.Goals as goal

pub range_from-requires : goal.range_from-requires
range_from-requires g c =
    let text = c.format-behind_one.ensures.text ∙ behind_one 6 c.args.number c.requires.few (omega arith) in
    λ some. IsCharBoundary-from_ascii c.format-behind_one.result.now 1 c.format-behind_one.ensures.ascii (omega (arith, ap length text, length_digits 6 c.args.number))

pub push_str-requires : goal.push_str-requires
push_str-requires g c =
    let text = c.format-behind_one.ensures.text ∙ behind_one 6 c.args.number c.requires.few (omega arith) in
    (omega arith, omega (arith, ap length text, length_digits 6 c.args.number, c.range_from.ensures.len, c.requires.room))

pub returns-clause-pushed : goal.returns-clause-pushed
returns-clause-pushed g c =
    let text = c.format-behind_one.ensures.text ∙ behind_one 6 c.args.number c.requires.few (omega arith) in
    rw (c.push_str.ensures.bytes, c.range_from.ensures.value, text) refl

pub returns-clause-length : goal.returns-clause-length
returns-clause-length g c =
    let text = c.format-behind_one.ensures.text ∙ behind_one 6 c.args.number c.requires.few (omega arith) in
    omega (arith, ap length text, length_digits 6 c.args.number, c.range_from.ensures.len, c.push_str.ensures.len)
