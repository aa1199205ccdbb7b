-- What a source of rows means that has a station: which satellites both observed, and what is
-- allowed of these.
use Rattle.std.specs.Prelude.{◌≡◌, ◌⊎◌, ℤ, List, [], ◌∷◌, Option, None, Some, if◌then◌else◌}
use Rattle.error_bounds.specs.Reading.{bound_for, galileo_use_of, is_sat, value_of_settings}
use Rattle.error_bounds.specs.declared.settings.Settings.{Settings}
use Rattle.gnss_model.specs.declared.delays.Delays.{Delays}
use Rattle.gnss_model.specs.declared.satellites.GalileoUse.{GalileoUse}
use Rattle.gnss_model.specs.declared.satellites.Sat.{Sat}
use Rattle.gnss_model.specs.declared.satellites.Skip.{Skip}
use Rattle.grid_model.specs.Boxes.{GridBox}
use Rattle.grid_model.specs.declared.boxes.Pos.{Pos}
use Rattle.rinex_nav.specs.declared.record.NavRecord.{NavRecord}
use Rattle.rinex_obs.specs.declared.obs.ObsEpoch.{ObsEpoch}
use Rattle.rinex_obs.specs.declared.obs.SatObs.{SatObs}
use Rattle.sat_rows.specs.Chains.{Chain, observed}
use Rattle.sat_rows.specs.Meanings.{Meaning}
use Rattle.sat_rows.specs.Sources.{both_meaning}
use Rattle.station_epochs.specs.Stations.{Station, IsStationEpoch}
use Rattle.station_rows.specs.Differences.{CommonView, AreDifferences}
use Rattle.station_rows.specs.Nearby.{AreNearby}
use Rattle.usable_sats.specs.Usability.{Sighting, IsMeasured, IsUsable, IsHigh, IsJudged}
use Rattle.usable_sats.specs.Usability.{sighting_by}

-- ---- the satellite

-- the first satellite of a name
abbrev pub observed_in : Sat → List SatObs → Option SatObs
observed_in sat [] = None
observed_in sat (seen ∷ sats) = if is_sat seen.sat sat then Some seen else observed_in sat sats

-- what the station observed at a time, judged by the same records and wanted codes
abbrev pub sighted_at : Sighting → ℤ → SatObs → Sighting
sighted_at a tag seen = record {
  records = a.records;
  system = a.system;
  signal = a.signal;
  max_age = a.max_age;
  tag = tag;
  seen = seen;
}

-- the station observed the satellite in that epoch, with the wanted codes in range
pub record IsSeenByStation (station : Station) (a : Sighting) : Type 0 where
  pub epoch : ObsEpoch
  pub epoch_is : IsStationEpoch station a.tag epoch
  pub seen : SatObs
  pub seen_is : observed_in a.seen.sat epoch.sats.items ≡ Some seen
  pub measured : IsMeasured (sighted_at a epoch.tag seen)

-- both observations, by the record that the receiver uses
abbrev pub common_view : (station : Station) (a : Sighting) → IsUsable a
    → IsSeenByStation station a → CommonView
common_view station a usable seen = record {
  receiver = observed a usable;
  station = record {
    system = a.system;
    tag = seen.epoch.tag;
    codes = seen.measured.codes;
    el = usable.el;
  };
  place = station.place;
}

-- ---- the judgement: two tests more, behind those of the receiver alone

-- 8: nothing else is wrong, but the station didn't observe the satellite then
pub record LacksStation (delays : Delays) (root : GridBox) (station : Station) (a : Sighting)
    (skip : Skip) : Type 0 where
  pub usable : IsUsable a
  pub high : IsHigh delays root
  pub none : IsSeenByStation station a → ⊥
  pub number : skip.number ≡ 8
  pub field : skip.field ≡ 0

-- 9: it did, but the two pseudoranges are far apart, or the record isn't near
pub record IsFarOff (delays : Delays) (root : GridBox) (station : Station) (a : Sighting)
    (skip : Skip) : Type 0 where
  pub usable : IsUsable a
  pub high : IsHigh delays root
  pub seen : IsSeenByStation station a
  pub far : (u : IsUsable a) (s : IsSeenByStation station a)
      → AreNearby (common_view station a u s) → ⊥
  pub number : skip.number ≡ 9
  pub field : skip.field ≡ 0

-- the satellite is usable in the search box by both, or this is why it isn't
abbrev pub IsJudgedByBoth : Delays → GridBox → Station → Sighting → Option Skip → Type 0
IsJudgedByBoth delays root station a None =
    (usable : IsUsable a) × IsHigh delays root × (seen : IsSeenByStation station a)
    × AreNearby (common_view station a usable seen)
IsJudgedByBoth delays root station a (Some skip) =
    IsJudged delays root a (Some skip)
    ⊎ (LacksStation delays root station a skip ⊎ IsFarOff delays root station a skip)

-- ---- what is allowed

-- the equations of both and the bounds of the difference allow these values
pub record IsDifferenceAt (station : Station) (a : Sighting) (delays : Delays) (declared : ℤ × ℤ)
    (p : Pos) (c : Chain) : Type 0 where
  pub usable : IsUsable a
  pub seen : IsSeenByStation station a
  pub are : AreDifferences delays declared (common_view station a usable seen) p c

-- what a navigation file, settings and a station say of satellites; the declared spans are those of
-- the difference of the two errors
abbrev pub station_meaning : Option GalileoUse → List NavRecord → Settings → Station → Meaning
station_meaning galileo records settings station = record {
  judged = λ root tag seen. IsJudgedByBoth settings.delays root station
      (sighting_by galileo records settings tag seen);
  allows = λ tag seen. IsDifferenceAt station (sighting_by galileo records settings tag seen)
      settings.delays (bound_for seen.sat (value_of_settings settings));
  declared = λ sat. bound_for sat (value_of_settings settings);
  delays = settings.delays;
}

-- ... and with a station or without
abbrev pub rows_meaning : List NavRecord → Settings → Option Station → Meaning
rows_meaning records settings None = both_meaning records settings
rows_meaning records settings (Some station) =
    station_meaning (galileo_use_of (value_of_settings settings).galileo) records settings station
