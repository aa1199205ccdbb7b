use Rattle.std.proofs.Common.{◌≡◌, drop}
use Rattle.station_rows.specs.Stations.{observed_in}
use Rattle.station_rows.proofs.found.observed_in.Given as goal

abbrev pub invariant-sats : goal.invariant-sats
invariant-sats l =
    observed_in l.seen.sat (drop l.theirs-index l.theirs-items) ≡ observed_in l.seen.sat l.theirs-items
