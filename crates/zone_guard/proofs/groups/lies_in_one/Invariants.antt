use Rattle.grid_model.specs.Boxes.{grid_box}
use Rattle.zone_guard.specs.Planes.{plane_values}
use Rattle.zone_guard.specs.PrismAnswers.{IsEnclosed}
use Rattle.zone_guard.proofs.GroupLemmas.{OnePiece}
use Rattle.zone_guard.proofs.groups.lies_in_one.Given as goal

abbrev pub invariant-loop-place : goal.invariant-loop-place
invariant-loop-place l = OnePiece (λ sides. IsEnclosed (plane_values l.bounds) sides (grid_box l.part)) l.group l.place
