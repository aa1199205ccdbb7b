use Rattle.exact_decimal.proofs.Units.{power_some, within_high, rounds_up, rounds_none}
use Rattle.exact_decimal.proofs.convert.divided.Goals as goal

pub returns-then-amount-gt0 : goal.returns-then-amount-gt0
returns-then-amount-gt0 c =
    let high = within_high c.args.amount c.args.power c.args.bound c.requires.amount c.if-power-ge19.true c.requires.bound in
    (high.1, rounds_up _ _ c.if-amount-gt0.true high.0)

pub returns-else-amount-gt0 : goal.returns-else-amount-gt0
returns-else-amount-gt0 c =
    let high = within_high c.args.amount c.args.power c.args.bound c.requires.amount c.if-power-ge19.true c.requires.bound in
    (high.1, rounds_none _ _ c.if-amount-gt0.false (power_some _))

pub quotient-requires-clause-positive : goal.quotient-requires-clause-positive
quotient-requires-clause-positive c = rw c.ten_to-divisor.ensures (power_some c.args.power)
