use Rattle.std.proofs.Common.{arith}
use Rattle.step_lines.proofs.LineLemmas.{read_first}
use Rattle.step_lines.proofs.first_line.first_line.Goals as goal

pub returns-clause-found : goal.returns-clause-found
returns-clause-found c =
    let lf = c.in_ok-end.ensures in
    read_first c.args.text.now c.in_ok-end.end c.step_at-step.result (λ k lt. lf.0.before k (omega arith) lt) lf.0.high lf.1 c.step_at-step.ensures
