use Rattle.grid_model.specs.Boxes.{grid_box}
use Rattle.zone_guard.specs.Answers.{IsOutOf}
use Rattle.zone_guard.specs.Planes.{plane_values}
use Rattle.zone_guard.proofs.EachLemmas.{EachFrom}
use Rattle.zone_guard.proofs.answers.are_apart.Given as goal

abbrev pub invariant-loop-part : goal.invariant-loop-part
invariant-loop-part l = EachFrom grid_box (IsOutOf (plane_values l.bounds) (grid_box l.zone)) l.boxes l.part-index
