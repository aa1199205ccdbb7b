use Rattle.grid_model.specs.Boxes.{grid_box}
use Rattle.zone_guard.specs.GroupAnswers.{LiesInOne}
use Rattle.zone_guard.specs.Planes.{plane_values}
use Rattle.zone_guard.specs.WatchValues.{group_pieces}
use Rattle.zone_guard.proofs.EachLemmas.{EachFrom}
use Rattle.zone_guard.proofs.groups.lie_in_one.Given as goal

abbrev pub invariant-loop-part : goal.invariant-loop-part
invariant-loop-part l = EachFrom grid_box (LiesInOne (plane_values l.bounds) (group_pieces l.group)) l.boxes l.part-index
