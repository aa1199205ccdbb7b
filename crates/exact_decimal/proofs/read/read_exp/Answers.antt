use Rattle.exact_decimal.proofs.Answers.{floating_answer, floating_blank}
use Rattle.exact_decimal.proofs.read.read_exp.Goals as goal

pub returns-clause-blank : goal.returns-clause-blank
returns-clause-blank c = rw c.floating.ensures (floating_blank c.args.field.now)

pub returns-clause-number : goal.returns-clause-number
returns-clause-number c = λ digits ten. rw c.floating.ensures (floating_answer c.args.field.now digits ten)
