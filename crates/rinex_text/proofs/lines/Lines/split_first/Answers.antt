use Rattle.std.proofs.Common.{◌+◌, sym, arith}
use Rattle.rinex_text.proofs.LineLemmas.{ended_line, line_found, only_line}
use Rattle.rinex_text.proofs.lines.Lines.split_first.Goals as goal
use Rattle.grid_model.proofs.ListLemmas.{all_dropped}

pub returns-in-Some-clause-line : goal.returns-in-Some-clause-line
returns-in-Some-clause-line c =
    let text = c.args.self.rest.now in
    let lf = c.in-Some.ensures in
    let first = ended_line text c.in-Some.end (λ k lt. lf.0.before k (omega arith) lt) lf.0.high lf.1 in
    line_found text c.without_cr.result.now _ c.in-Some.end first c.without_cr.ensures (all_dropped text (c.in-Some.end + 1))

pub returns-in-None-clause-line : goal.returns-in-None-clause-line
returns-in-None-clause-line c = only_line c.args.self.rest.now (sym c.if-is_empty.ensures) (λ k lt. c.in-None.ensures k (omega arith) lt)
