use Rattle.std.proofs.Common.{◌-◌, ◌<◌, ◌≤◌}
use Rattle.std.specs.Prelude.{pos, ◌+ℤ◌}
use Rattle.code_simulation.specs.Residuals.{ResidualsAtMost, ResidualsAtLeast}
use Rattle.code_simulation.proofs.halving.code_for.Given as goal

abbrev pub invariant-loop-high : goal.invariant-loop-high
invariant-loop-high l = record {
  order : l.low < l.high;
  to : l.high ≤ 100000000000;
  below : ResidualsAtMost l.fn.el l.fn.tag l.fn.at l.low (l.fn.goal +ℤ pos 3507);
  above : ResidualsAtLeast l.fn.el l.fn.tag l.fn.at l.high l.fn.goal;
}

abbrev pub decreases-loop-high : goal.decreases-loop-high
decreases-loop-high l = l.high - l.low
