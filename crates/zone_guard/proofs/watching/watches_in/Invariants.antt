use Rattle.std.proofs.Common.{◌+◌, ◌≤◌, length}
use Rattle.zone_guard.proofs.WatchLemmas.{IsListedTo}
use Rattle.zone_guard.proofs.watching.watches_in.Given as goal

abbrev pub invariant-watches : goal.invariant-watches
invariant-watches l = record {
  read : IsListedTo l.text l.watches.items l.number l.left;
  room : l.number + length l.left ≤ 4000000002;
}

abbrev pub decreases-watches : goal.decreases-watches
decreases-watches l = length l.left
