use Rattle.std.proofs.Common.{map, take}
use Rattle.grid_model.specs.Boxes.{grid_box}
use Rattle.zone_guard.specs.Reaches.{IsReach}
use Rattle.zone_guard.proofs.reaches.reach_along.Given as goal

abbrev pub invariant-loop-part : goal.invariant-loop-part
invariant-loop-part l = IsReach l.along.vector (map grid_box (take l.part-index l.boxes)) l.found
