use Rattle.std.proofs.Common.{map, take}
use Rattle.paving_log.specs.Values.{block_of}
use Rattle.zone_guard.specs.EpochsFound.{AreEpochsFound}
use Rattle.zone_guard.specs.WatchValues.{watch_values}
use Rattle.zone_guard.proofs.epochs.log_findings.Given as goal

abbrev pub invariant-loop-epoch : goal.invariant-loop-epoch
invariant-loop-epoch l = AreEpochsFound (watch_values l.watches) (map block_of (take l.epoch-index l.log.epochs.items)) l.found.items
