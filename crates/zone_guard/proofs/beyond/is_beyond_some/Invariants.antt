use Rattle.grid_model.specs.Boxes.{grid_box}
use Rattle.zone_guard.specs.Beyond.{IsBeyondWith}
use Rattle.zone_guard.specs.Planes.{plane_value}
use Rattle.zone_guard.proofs.EachLemmas.{OneFrom}
use Rattle.zone_guard.proofs.beyond.is_beyond_some.Given as goal

abbrev pub invariant-loop-bound : goal.invariant-loop-bound
invariant-loop-bound l = OneFrom plane_value (IsBeyondWith (grid_box l.part) (plane_value l.side)) l.bounds l.bound-index
