use Rattle.std.proofs.Common.{map, take}
use Rattle.grid_model.specs.Boxes.{grid_box}
use Rattle.zone_guard.specs.EpochsFound.{AreFindings}
use Rattle.zone_guard.specs.Planes.{plane_values}
use Rattle.zone_guard.specs.WatchValues.{watch_values}
use Rattle.zone_guard.proofs.epochs.findings_in.Given as goal

abbrev pub invariant-loop-watch : goal.invariant-loop-watch
invariant-loop-watch l = AreFindings (plane_values l.bounds) (map grid_box l.boxes) (watch_values (take l.watch-index l.watches)) l.found.items
