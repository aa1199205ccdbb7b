use Rattle.grid_model.specs.Boxes.{grid_box}
use Rattle.zone_guard.specs.Beyond.{IsBeyond, opposite}
use Rattle.zone_guard.specs.Planes.{plane_value, plane_values}
use Rattle.zone_guard.proofs.EachLemmas.{EachFrom}
use Rattle.zone_guard.proofs.prisms.is_enclosed.Given as goal

abbrev pub invariant-loop-side : goal.invariant-loop-side
invariant-loop-side l = EachFrom plane_value (λ s. IsBeyond (plane_values l.bounds) (grid_box l.part) (opposite s)) l.sides l.side-index
