use Rattle.std.proofs.Common.{◌≡◌, map, take}
use Rattle.paving_log.specs.Values.{bound_value}
use Rattle.zone_guard.specs.Bounds.{bound_planes}
use Rattle.zone_guard.specs.Planes.{plane_values}
use Rattle.zone_guard.proofs.bounds.half_spaces_of.Given as goal

abbrev pub invariant-loop-bound : goal.invariant-loop-bound
invariant-loop-bound l = plane_values l.found.items ≡ bound_planes (map bound_value (take l.bound-index l.bounds))
