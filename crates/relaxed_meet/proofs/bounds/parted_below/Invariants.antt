use Rattle.std.proofs.Common.{◌≤◌, ◌+◌, length}
use Rattle.relaxed_meet.specs.Kept.{IsFalling}
use Rattle.relaxed_meet.proofs.bounds.parted_below.Given as goal

abbrev pub invariant-loop-row : goal.invariant-loop-row
invariant-loop-row l = record {
  falling : IsFalling l.highs.items;
  room : length l.highs.items ≤ l.q + 1;
}
