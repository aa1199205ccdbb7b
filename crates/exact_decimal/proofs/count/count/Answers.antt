use Rattle.exact_decimal.proofs.Digits.{ten_power}
use Rattle.exact_decimal.proofs.count.count.Goals as goal

pub number_after-requires-clause-room : goal.number_after-requires-clause-room
number_after-requires-clause-room c = ten_power _
