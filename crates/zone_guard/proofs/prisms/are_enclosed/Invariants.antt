use Rattle.grid_model.specs.Boxes.{grid_box}
use Rattle.zone_guard.specs.Planes.{plane_values}
use Rattle.zone_guard.specs.PrismAnswers.{IsEnclosed}
use Rattle.zone_guard.proofs.EachLemmas.{EachFrom}
use Rattle.zone_guard.proofs.prisms.are_enclosed.Given as goal

abbrev pub invariant-loop-part : goal.invariant-loop-part
invariant-loop-part l = EachFrom grid_box (IsEnclosed (plane_values l.bounds) (plane_values l.sides)) l.boxes l.part-index
