use Rattle.exact_decimal.proofs.Counts.{count_answer, count_bound}
use Rattle.exact_decimal.proofs.count.read_count.Goals as goal

pub returns-clause-number : goal.returns-clause-number
returns-clause-number c = λ n. rw c.count.ensures (count_answer c.args.field.now n)

pub returns-clause-bound : goal.returns-clause-bound
returns-clause-bound c = count_bound c.args.field.now c.count.result c.count.ensures
