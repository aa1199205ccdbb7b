use Rattle.std.proofs.Common.{◌≡◌, length}
use Rattle.bound_directions.proofs.horizon.Horizon.half.Given as goal

abbrev pub invariant-loop-k : goal.invariant-loop-k
invariant-loop-k l = length l.half.items ≡ l.k
