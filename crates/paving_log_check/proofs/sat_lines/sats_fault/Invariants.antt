use Rattle.std.proofs.Common.{ℕ, ◌<◌}
use Rattle.paving_log_check.specs.Lines.{LinePasses}
use Rattle.paving_log_check.proofs.sat_lines.sats_fault.Given as goal

abbrev pub invariant-loop-k : goal.invariant-loop-k
invariant-loop-k l = (j : ℕ) → j < l.k → LinePasses l.delays l.sats l.lines j
