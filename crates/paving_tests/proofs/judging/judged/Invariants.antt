use Rattle.std.proofs.Common.{◌≡◌, length}
use Rattle.paving_tests.proofs.judging.judged.Given as goal

abbrev pub invariant-loop-row : goal.invariant-loop-row
invariant-loop-row l = length l.sats.items ≡ l.row-index
