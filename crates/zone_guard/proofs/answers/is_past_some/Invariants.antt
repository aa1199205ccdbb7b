use Rattle.grid_model.specs.Boxes.{grid_box}
use Rattle.zone_guard.specs.Planes.{LiesBeyond, plane_value}
use Rattle.zone_guard.proofs.EachLemmas.{OneFrom}
use Rattle.zone_guard.proofs.answers.is_past_some.Given as goal

abbrev pub invariant-loop-bound : goal.invariant-loop-bound
invariant-loop-bound l = OneFrom plane_value (LiesBeyond (grid_box l.part)) l.bounds l.bound-index
