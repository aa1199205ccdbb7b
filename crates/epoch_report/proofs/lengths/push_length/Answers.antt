use Rattle.std.proofs.Common.{◌≡◌, ◌/◌, arith, ap, length, to_z, of_z}
use Rattle.std.specs.Int.{w64}
use Rattle.std.proofs.lemmas.Int.{ints}
use Rattle.std.proofs.lemmas.Fmt.{length-decimal-le}
use Rattle.epoch_report.proofs.SignLemmas.{metres_behind}
use Rattle.epoch_report.proofs.lengths.push_length.Goals as goal

pub push_six_digits-requires : goal.push_six_digits-requires
push_six_digits-requires g c =
    let whole = length-decimal-le 13 (c.unsigned_abs-amount.result / 1000000) (omega arith) (omega arith) (omega arith) in
    (omega arith, omega (arith, whole, ap length c.format.ensures.text, c.sign.ensures.length, c.push_str.ensures.len, c.push_str-2.ensures.len, c.push_str-3.ensures.len, c.requires))

pub returns-clause-pushed : goal.returns-clause-pushed
returns-clause-pushed g c =
    let same : to_z w64 (of_z w64 c.args.um) ≡ c.args.um = omega (arith, ints) in
    let amount = rw same at c.unsigned_abs-amount.ensures.value in
    let sign = rw same at c.sign.ensures.spelled in
    rw (c.push_six_digits.ensures.pushed, c.push_str-3.ensures.bytes, c.push_str-2.ensures.bytes, c.push_str.ensures.bytes, sign, c.format.ensures.text, amount)
    (metres_behind c.args.text.now.bytes c.args.um)

pub returns-clause-length : goal.returns-clause-length
returns-clause-length g c =
    let whole = length-decimal-le 13 (c.unsigned_abs-amount.result / 1000000) (omega arith) (omega arith) (omega arith) in
    omega (
      arith,
      whole,
      ap length c.format.ensures.text,
      c.sign.ensures.length,
      c.push_str.ensures.len,
      c.push_str-2.ensures.len,
      c.push_str-3.ensures.len,
      c.push_six_digits.ensures.length,
    )
