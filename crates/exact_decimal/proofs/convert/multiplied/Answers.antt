use Rattle.std.proofs.Common.{arith}
use Rattle.exact_decimal.proofs.Units.{passes_high}
use Rattle.exact_decimal.proofs.convert.multiplied.Goals as goal

pub returns-then-power-gt19 : goal.returns-then-power-gt19
returns-then-power-gt19 c = passes_high c.args.amount c.args.power c.args.bound (omega (arith, c.if-amount-eq0.false)) c.if-power-gt19.true c.requires.bound
