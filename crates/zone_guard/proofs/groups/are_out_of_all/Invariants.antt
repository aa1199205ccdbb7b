use Rattle.std.proofs.Common.{map}
use Rattle.grid_model.specs.Boxes.{grid_box}
use Rattle.zone_guard.specs.Planes.{plane_values}
use Rattle.zone_guard.specs.PrismAnswers.{AreShutOut}
use Rattle.zone_guard.proofs.GroupLemmas.{EachPiece}
use Rattle.zone_guard.proofs.groups.are_out_of_all.Given as goal

abbrev pub invariant-loop-place : goal.invariant-loop-place
invariant-loop-place l = EachPiece (λ sides. AreShutOut (plane_values l.bounds) sides (map grid_box l.boxes)) l.group l.place
