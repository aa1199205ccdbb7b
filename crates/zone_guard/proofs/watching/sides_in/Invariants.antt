use Rattle.std.proofs.Common.{◌-◌, length}
use Rattle.zone_guard.proofs.WatchLemmas.{AreSidesTo}
use Rattle.zone_guard.proofs.watching.sides_in.Given as goal

abbrev pub invariant-sides : goal.invariant-sides
invariant-sides l = AreSidesTo l.text l.first l.count l.sides.items l.number l.left

abbrev pub decreases-sides : goal.decreases-sides
decreases-sides l = l.count - length l.sides.items
