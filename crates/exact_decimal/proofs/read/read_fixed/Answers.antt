use Rattle.exact_decimal.proofs.Answers.{fixed_answer, fixed_blank}
use Rattle.exact_decimal.proofs.read.read_fixed.Goals as goal

pub returns-clause-blank : goal.returns-clause-blank
returns-clause-blank c = rw c.fixed.ensures (fixed_blank c.args.field.now)

pub returns-clause-number : goal.returns-clause-number
returns-clause-number c = λ digits ten. rw c.fixed.ensures (fixed_answer c.args.field.now digits ten)
