use Rattle.std.proofs.Common.{◌≤◌, length}
use Rattle.subpaving.proofs.GroupLemmas.{AreWithin}
use Rattle.subpaving.proofs.live.Live.hull_within.Given as goal

abbrev pub invariant-places : goal.invariant-places
invariant-places l = (l.to ≤ length l.self.boxes.items)
    × AreWithin l.whole l.hull l.self.boxes.items l.from l.place
