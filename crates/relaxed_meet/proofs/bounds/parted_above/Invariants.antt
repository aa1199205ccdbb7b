use Rattle.std.proofs.Common.{◌≤◌, ◌+◌, length}
use Rattle.relaxed_meet.specs.Kept.{IsFalling}
use Rattle.relaxed_meet.proofs.bounds.parted_above.Given as goal

abbrev pub invariant-loop-row : goal.invariant-loop-row
invariant-loop-row l = record {
  falling : IsFalling l.lows.items;
  room : length l.lows.items ≤ l.q + 1;
}
