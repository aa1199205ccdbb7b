use Rattle.std.proofs.Common.{arith, sym, ◌∙◌}
use Rattle.std.proofs.lemmas.Bool.{false≢true}
use Rattle.paving_log_check.proofs.SatLineLemmas.{line_decided_again}
use Rattle.paving_log_check.proofs.sat_lines.line_fault.Goals as goal

pub returns : goal.returns
returns c = line_decided_again c.args.delays c.args.sats.now c.args.lines.now c.args.k c.index-sats-k.result c.index-sats-k-2.result c.index-lines-k.result c.index-lines-k-2.result
    c.row_fault.result c.args.line c.requires.is_line c.index-sats-k.is c.index-sats-k-2.is (omega (arith, c.if-lines-k.false)) c.index-lines-k.is c.index-lines-k-2.is
    (c.is_same_line.ensures.0 c.if-not-is_same_line.false) (λ r. false≢true (sym c.if-repeats.false ∙ c.requires.repeats.1 r)) c.row_fault.ensures
