use Rattle.std.proofs.Common.{◌≡◌, ◌+◌, drop, map}
use Rattle.sat_model.specs.Bounds.{lines_of_bounds}
use Rattle.paving_log.specs.Values.{bound_value}
use Rattle.paving_log_check.proofs.counts.bound_lines.Given as goal

abbrev pub invariant-loop-bound : goal.invariant-loop-bound
invariant-loop-bound l = l.lines + lines_of_bounds (map bound_value (drop l.bound-index l.bounds)) ≡ lines_of_bounds (map bound_value l.bounds)
