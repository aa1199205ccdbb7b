use Rattle.std.proofs.Common.{arith}
use Rattle.exact_decimal.proofs.UsualNumbers.{are_twelve}
use Rattle.exact_decimal.proofs.usual.twelve_digits.Goals as goal

pub returns : goal.returns
returns c =
    let read = c.read_digits-end.ensures in
    let is = are_twelve c.args.text.now c.args.before c.read_digits-end.result.0 c.read_digits-end.result.1 c.requires.long c.requires.few
    (omega (arith, read.end)) (omega (arith, read.within, c.requires.long, c.if-end-lt12.false)) (rw c.from.ensures at read.value) in
    record { digits = is.digits; value = is.value; bound = is.bound }
