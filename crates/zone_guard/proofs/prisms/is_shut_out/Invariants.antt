use Rattle.grid_model.specs.Boxes.{grid_box}
use Rattle.zone_guard.specs.Beyond.{IsBeyond}
use Rattle.zone_guard.specs.Planes.{plane_value, plane_values}
use Rattle.zone_guard.proofs.EachLemmas.{OneFrom}
use Rattle.zone_guard.proofs.prisms.is_shut_out.Given as goal

abbrev pub invariant-loop-side : goal.invariant-loop-side
invariant-loop-side l = OneFrom plane_value (IsBeyond (plane_values l.bounds) (grid_box l.part)) l.sides l.side-index
