use Rattle.std.proofs.Common.{ℕ, List, Option, is_some, true, length, ◌-◌, ◌≡◌, ◌≤◌, take}
use Rattle.outer_io.specs.Told.{AppendedBy}
use Rattle.outer_io.proofs.writing.write_shelf.Given as goal

abbrev pub invariant-loop-done : goal.invariant-loop-done
invariant-loop-done g l = record {
  within : l.done ≤ length l.bytes;
  appended : AppendedBy (g.H.Shelf.state l.fn.shelf) (g.H.Shelf.state l.shelf) l.slot (take l.done l.bytes);
  later : (g.H.Shelf.state l.fn.shelf).write_faults ≤ (g.H.Shelf.state l.shelf).write_faults;
  other : (g.H.Shelf.state l.shelf).read_faults ≡ (g.H.Shelf.state l.fn.shelf).read_faults;
  reliable : (log : Option (List ℕ)) → g.H.Shelf.reliable l.shelf log
      → g.H.Shelf.reliable l.fn.shelf log × (is_some log ≡ true → (g.H.Shelf.state l.shelf).write_faults ≡ (g.H.Shelf.state l.fn.shelf).write_faults);
  openings : (g.H.Shelf.state l.shelf).openings ≡ (g.H.Shelf.state l.fn.shelf).openings;
}

abbrev pub decreases-loop-done : goal.decreases-loop-done
decreases-loop-done g l = length l.bytes - l.done
