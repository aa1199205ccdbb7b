use Rattle.std.proofs.Common.{◌≡◌, arith, to_z, of_z}
use Rattle.std.specs.Int.{w128}
use Rattle.std.proofs.lemmas.Int.{ints}
use Rattle.epoch_report.proofs.SignLemmas.{seconds_behind}
use Rattle.epoch_report.proofs.lengths.push_seconds.Goals as goal

pub returns-clause-pushed : goal.returns-clause-pushed
returns-clause-pushed c =
    let same : to_z w128 (of_z w128 c.args.ps) ≡ c.args.ps = omega (arith, ints) in
    let amount = rw same at c.unsigned_abs-amount.ensures.value in
    let sign = rw same at c.sign.ensures.spelled in
    rw (c.push_six_digits-2.ensures.pushed, c.push_six_digits.ensures.pushed, c.push_str-4.ensures.bytes, c.push_str-3.ensures.bytes, c.push_str-2.ensures.bytes, c.push_str.ensures.bytes, sign, c.format.ensures.text, amount)
    (seconds_behind c.args.line.now.bytes c.args.ps)
