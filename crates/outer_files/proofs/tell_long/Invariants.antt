use Rattle.std.proofs.Common.{◌≡◌}
use Rattle.outer_io.specs.Slots.{at}
use Rattle.outer_io.specs.declared.shelf.Phase.TheVariants.{Writing}
use Rattle.outer_io.specs.declared.slots.Slot.TheVariants.{Log}
use Rattle.outer_files.proofs.tell_long.Given as goal

abbrev pub invariant-lines : goal.invariant-lines
invariant-lines g l = at (g.H.Shelf.state l.shelf).openings.phases Log ≡ Writing
