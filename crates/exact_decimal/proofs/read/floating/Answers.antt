use Rattle.std.proofs.Common.{sym}
use Rattle.exact_decimal.proofs.Answers.{floating_answer}
use Rattle.exact_decimal.proofs.read.floating.Goals as goal

pub returns-in-Some : goal.returns-in-Some
returns-in-Some c = sym ((floating_answer c.args.field.now c.in-Some.number.digits c.in-Some.number.ten).1 c.in-Some.ensures)
