use Rattle.std.proofs.Common.{ℕ, List, Option, ◌-◌, ◌+◌, ◌≡◌, ◌≤◌, vec_len}
use Rattle.std.specs.Io.KnownBytes.{Consumes}
use Rattle.outer_io.specs.Told.{MovedBy, left_of}
use Rattle.outer_io.proofs.reading.read_all.Given as goal

abbrev pub invariant-reading : goal.invariant-reading
invariant-reading g l = record {
  within : vec_len l.all ≤ l.limit;
  bytes : Consumes (left_of l.slot (g.H.Shelf.state l.fn.shelf)) (left_of l.slot (g.H.Shelf.state l.shelf)) l.all.items;
  moved : MovedBy (g.H.Shelf.state l.fn.shelf) (g.H.Shelf.state l.shelf) l.slot (vec_len l.all);
  later : (g.H.Shelf.state l.fn.shelf).read_faults ≤ (g.H.Shelf.state l.shelf).read_faults;
  other : (g.H.Shelf.state l.shelf).write_faults ≡ (g.H.Shelf.state l.fn.shelf).write_faults;
  reliable : (log : Option (List ℕ)) → g.H.Shelf.reliable l.shelf log
      → g.H.Shelf.reliable l.fn.shelf log × ((g.H.Shelf.state l.shelf).read_faults ≡ (g.H.Shelf.state l.fn.shelf).read_faults);
  openings : (g.H.Shelf.state l.shelf).openings ≡ (g.H.Shelf.state l.fn.shelf).openings;
}

abbrev pub decreases-reading : goal.decreases-reading
decreases-reading g l = l.limit + 1 - vec_len l.all
