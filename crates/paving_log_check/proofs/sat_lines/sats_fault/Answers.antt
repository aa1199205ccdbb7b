use Rattle.std.proofs.Common.{below_more}
use Rattle.paving_log_check.proofs.SatLineLemmas.{repeats_here}
use Rattle.paving_log_check.proofs.sat_lines.sats_fault.Goals as goal

pub line_fault-requires-clause-repeats : goal.line_fault-requires-clause-repeats
line_fault-requires-clause-repeats c =
    repeats_here c.first_repeat-first.result c.loop-k.k c.is_at-repeats.result c.first_repeat-first.ensures c.loop-k.invariant c.is_at-repeats.ensures

pub loop-k-preserved : goal.loop-k-preserved
loop-k-preserved c = below_more _ _ c.loop-k.invariant c.in_default.ensures
