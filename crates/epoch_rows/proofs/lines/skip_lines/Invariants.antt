use Rattle.std.proofs.Common.{◌≡◌, ◌++◌, drop}
use Rattle.epoch_rows.specs.Grown.{skips_of}
use Rattle.epoch_rows.proofs.lines.skip_lines.Given as goal

abbrev pub invariant-loop-line : goal.invariant-loop-line
invariant-loop-line l = l.sats.items ++ skips_of (drop l.line-index l.lines) ≡ skips_of l.lines
