use Rattle.std.proofs.Common.{◌≡◌, map, take}
use Rattle.zone_guard.specs.Names.{values_of}
use Rattle.zone_guard.specs.Watched.{zone_watch}
use Rattle.zone_guard.specs.WatchValues.{watch_values}
use Rattle.zone_guard.proofs.watches.watches_of.Given as goal

abbrev pub invariant-loop-zone : goal.invariant-loop-zone
invariant-loop-zone l = watch_values l.watches.items ≡ map zone_watch (values_of (take l.zone-index l.zones))
