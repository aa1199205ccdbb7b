use Rattle.std.proofs.Common.{◌≡◌, ◌+◌, length}
use Rattle.bound_directions.proofs.horizon.with_opposites.Given as goal

abbrev pub invariant-loop-direction : goal.invariant-loop-direction
invariant-loop-direction l = length l.both.items ≡ length l.directions + l.direction-index
