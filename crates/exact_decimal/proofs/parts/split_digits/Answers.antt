use Rattle.exact_decimal.proofs.Runs.{front_passes}
use Rattle.std.specs.Char.{is_ascii_digit}
use Rattle.exact_decimal.proofs.parts.split_digits.Goals as goal

pub returns-clause-are_digits : goal.returns-clause-are_digits
returns-clause-are_digits c = front_passes is_ascii_digit c.args.text.now _ _ c.digits_in_front.ensures.count c.split_at.ensures.front
