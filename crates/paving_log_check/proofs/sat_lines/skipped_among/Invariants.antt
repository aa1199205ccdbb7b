use Rattle.std.proofs.Common.{◌≡◌, ◌++◌, drop}
use Rattle.paving_log_check.specs.Lines.{skipped_in}
use Rattle.paving_log_check.proofs.sat_lines.skipped_among.Given as goal

abbrev pub invariant-loop-line : goal.invariant-loop-line
invariant-loop-line l = l.skipped.items ++ skipped_in (drop l.line-index l.lines) ≡ skipped_in l.lines
