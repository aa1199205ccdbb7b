-- What a navigation file and settings say of satellites.
use Rattle.std.specs.Prelude.{List, Option, None}
use Rattle.error_bounds.specs.Reading.{galileo_use_of, bound_for, value_of_settings}
use Rattle.error_bounds.specs.declared.settings.Settings.{Settings}
use Rattle.rinex_nav.specs.declared.record.NavRecord.{NavRecord}
use Rattle.gnss_model.specs.declared.satellites.GalileoUse.{GalileoUse}
use Rattle.sat_rows.specs.Chains.{IsChainAt}
use Rattle.sat_rows.specs.Meanings.{Meaning}
use Rattle.usable_sats.specs.Usability.{sighting_by, IsJudged}

-- a satellite is usable by the seven tests, the equations of its system allow values of it, and the
-- settings declare its error and the delays straight up; satellites of Galileo are used where its
-- codes are given
abbrev pub meaning_by : Option GalileoUse → List NavRecord → Settings → Meaning
meaning_by galileo records settings = record {
  judged = λ root tag seen. IsJudged settings.delays root
      (sighting_by galileo records settings tag seen);
  allows = λ tag seen. IsChainAt (sighting_by galileo records settings tag seen) settings.delays
      (bound_for seen.sat (value_of_settings settings));
  declared = λ sat. bound_for sat (value_of_settings settings);
  delays = settings.delays;
}

-- of the satellites of both systems where the settings have codes of Galileo, else of GPS alone
abbrev pub both_meaning : List NavRecord → Settings → Meaning
both_meaning records settings =
    meaning_by (galileo_use_of (value_of_settings settings).galileo) records settings

-- of GPS satellites alone
abbrev pub gps_meaning : List NavRecord → Settings → Meaning
gps_meaning records settings = meaning_by None records settings
