-- What a satellite is judged to be that a receiver and a station observed. No public clause cites
-- this.
use Rattle.std.specs.Prelude.{◌≡◌, ℤ, ◌≤ℤ◌}
use Rattle.fix_interval.specs.declared.exact.Exact.{Exact}
use Rattle.gnss_model.specs.declared.delays.Delays.{Delays}
use Rattle.grid_model.specs.Boxes.{GridBox}
use Rattle.rinex_obs.specs.declared.obs.SatObs.{SatObs}
use Rattle.station_epochs.specs.Stations.{Station}
use Rattle.station_rows.specs.Differences.{CommonView}
use Rattle.station_rows.specs.Nearby.{AreNearby}
use Rattle.station_rows.specs.Stations.{IsSeenByStation, common_view}
use Rattle.station_rows.specs.declared.observations.Observation.{Observation}
use Rattle.station_rows.specs.declared.sats.StationSats.{StationSats}
use Rattle.usable_sats.specs.Measured.{codes_of}
use Rattle.usable_sats.specs.Usability.{Sighting, IsHigh, IsUsable, sighting_by}

-- what the receiver observed of a satellite
abbrev pub sighting_of : StationSats → ℤ → SatObs → Sighting
sighting_of sats tag seen = sighting_by sats.galileo sats.nav.now sats.settings.now tag seen

-- what the station did
pub record IsItsObservation (station : Station) (a : Sighting)
    (observation : Observation) : Type 0 where
  pub seen : IsSeenByStation station a
  pub tag_is : seen.epoch.tag ≡ observation.tag
  pub codes_are : seen.measured.codes ≡ codes_of observation.codes

-- the satellite is usable by both in the search box, and known by this
pub record IsKnownByBoth (delays : Delays) (root : GridBox) (station : Station) (a : Sighting)
    (view : CommonView) : Type 0 where
  pub usable : IsUsable a
  pub high : IsHigh delays root
  pub seen : IsSeenByStation station a
  pub view_is : common_view station a usable seen ≡ view
  pub nearby : AreNearby view

-- the members of an interval are members of another
pub record LiesIn (members all : Exact) : Type 0 where
  pub from : all.lo ≤ℤ members.lo
  pub to : members.hi ≤ℤ all.hi
