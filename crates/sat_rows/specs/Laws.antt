-- Satellites are judged in one way, something is allowed of each that is usable, its range is that
-- to its place, and its ends of the error are the declared ones with each delay added.
use Rattle.std.specs.Prelude.{List, Option, None}
use Rattle.error_bounds.specs.Reading.{galileo_use_of, bound_for, value_of_settings}
use Rattle.error_bounds.specs.declared.settings.Settings.{Settings}
use Rattle.rinex_nav.specs.declared.record.NavRecord.{NavRecord}
use Rattle.gnss_model.specs.declared.satellites.GalileoUse.{GalileoUse}
use Rattle.sat_rows.specs.ChainLemmas.{chain_exists}
use Rattle.sat_rows.specs.Chains.{observed}
use Rattle.sat_rows.specs.Meanings.{IsSound}
use Rattle.sat_rows.specs.Sources.{meaning_by, both_meaning, gps_meaning}
use Rattle.usable_sats.specs.Usability.{sighting_by}
use Rattle.usable_sats.proofs.JudgementLemmas.{judgement_one}

pub source_sound : (galileo : Option GalileoUse) (records : List NavRecord) (settings : Settings)
    → IsSound (meaning_by galileo records settings)
source_sound galileo records settings = record {
  one_judgement = λ root tag seen. judgement_one
      (sighting_by galileo records settings tag seen) settings.delays root;
  allowed_exists = λ root tag seen p box inside judged.
      let chain = chain_exists (observed (sighting_by galileo records settings tag seen) judged.0) p
      settings.delays
      (bound_for seen.sat (value_of_settings settings)) root box inside judged.1 in
      (chain.0, record { usable = judged.0; are = chain.1 });
  range_is = λ tag seen p c chain. chain.are.0.turn.range_is;
  bound_is = λ tag seen p c chain. chain.are.1;
  delays_within = settings.delays_within;
}

pub both_sound : (records : List NavRecord) (settings : Settings)
    → IsSound (both_meaning records settings)
both_sound records settings =
    source_sound (galileo_use_of (value_of_settings settings).galileo) records settings

pub gps_sound : (records : List NavRecord) (settings : Settings)
    → IsSound (gps_meaning records settings)
gps_sound records settings = source_sound None records settings
