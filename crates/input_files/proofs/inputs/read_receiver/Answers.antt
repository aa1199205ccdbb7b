use Rattle.std.proofs.Common.{[], ◌∷◌, ◌++◌}
use Rattle.std.proofs.lemmas.Result.{err_from_is_err_and}
use Rattle.std.specs.Prelude.{is_some, None}
use Rattle.std.specs.Option.{option_map}
use Rattle.command_words.specs.Commands.{Files}
use Rattle.command_words.specs.Seen.{files_asked}
use Rattle.error_bounds.specs.Reading.{value_of_settings}
use Rattle.outer_io.specs.declared.slots.Slot.TheVariants as slot
use Rattle.rinex_nav.specs.Reading.{records_of}
use Rattle.rinex_obs.specs.Reading.{observations_of}
use Rattle.input_files.proofs.PositionLemmas.{enough}
use Rattle.input_files.proofs.ReadingLemmas.{found_err, found_then, found_return, named_fair}
use Rattle.input_files.proofs.ReadingLemmas.{return_fair}
use Rattle.input_files.proofs.ReadingLemmas.{only_as, only_err, only_then}
use Rattle.input_files.proofs.InputLemmas.{behind_nav_fair, nav_fair, obs_fair, station_fair}
use Rattle.input_files.proofs.SuitLemmas.{has_motion, later_suits}
use Rattle.input_files.specs.Inputs.{nav_text, obs_text, message_of, settings_text, sought_of, station_slot}
use Rattle.input_files.specs.Inputs.{station_value, wants_position}
use Rattle.input_files.specs.Reading.{NamedSlots}
use Rattle.input_files.specs.Suits.{station_misfit}
use Rattle.input_files.specs.declared.inputs.Inputs.{Inputs}
use Rattle.input_files.proofs.inputs.read_receiver.Goals as goal

-- ---- the files

abbrev settings_at : Files → NamedSlots
settings_at names = (slot.Settings, names.settings) ∷ []

abbrev nav_at : Files → NamedSlots
nav_at names = (slot.Nav, names.nav) ∷ []

abbrev station_at : Files → NamedSlots
station_at names = station_slot names.station

abbrev obs_at : Files → NamedSlots
obs_at names = (slot.Obs, names.obs) ∷ []

-- ---- the settings suit the station

pub read_station_file-requires : goal.read_station_file-requires
read_station_file-requires g c =
    let s = value_of_settings c.in_ok-settings.settings in
    let names = files_asked c.args.words.now in
    record {
      suits = later_suits c.args.moving s.speed (station_misfit (is_some names.station) s.station) (rw c.is_named.ensures at c.in_ok-settings.ensures.usual);
    }

-- ---- the settings weren't read

pub returns-in_err-settings-clause-found : goal.returns-in_err-settings-clause-found
returns-in_err-settings-clause-found g c =
    let p = err_from_is_err_and c.from_residual.result c.from_residual.ensures.1 in
    rw (p.1, p.2) (found_err _ _ _ _ _ c.in_err-settings.field-0.0 (rw c.is_named.ensures at c.in_err-settings.ensures.found))

pub returns-in_err-settings-clause-only : goal.returns-in_err-settings-clause-only
returns-in_err-settings-clause-only g c =
    let names = files_asked c.args.words.now in
    let p = err_from_is_err_and c.from_residual.result c.from_residual.ensures.1 in
    rw (p.1, p.2) (only_err (settings_at names) (nav_at names ++ (station_at names ++ obs_at names)) _ _
    c.in_err-settings.field-0.0 c.in_err-settings.ensures.only)

-- ---- the navigation file wasn't read

pub returns-in_err-nav-clause-found : goal.returns-in_err-nav-clause-found
returns-in_err-nav-clause-found g c =
    let p = err_from_is_err_and c.from_residual-in_err-nav.result
    c.from_residual-in_err-nav.ensures.1 in
    let limits = c.args.limits.now in
    let names = files_asked c.args.words.now in
    rw (p.1, p.2) (found_then _ _ (named_fair limits (settings_text c.args.moving (is_some names.station)) names.settings)
    (nav_fair limits names)
    (settings_at names) _ _ _ _ _ _ (value_of_settings c.in_ok-settings.settings) _
    c.in_ok-settings.ensures.only (rw c.is_named.ensures at c.in_ok-settings.ensures.found)
    (found_err _ _ _ _ _ c.in_err-nav.field-0.0 (rw c.message_of.ensures at c.in_err-nav.ensures.found)))

pub returns-in_err-nav-clause-only : goal.returns-in_err-nav-clause-only
returns-in_err-nav-clause-only g c =
    let names = files_asked c.args.words.now in
    let p = err_from_is_err_and c.from_residual-in_err-nav.result
    c.from_residual-in_err-nav.ensures.1 in
    rw (p.1, p.2) (only_then (settings_at names) (nav_at names ++ (station_at names ++ obs_at names)) _ _ _
    c.in_ok-settings.settings _ c.in_ok-settings.ensures.only
    (only_err (nav_at names) (station_at names ++ obs_at names) _ _ c.in_err-nav.field-0.0
    c.in_err-nav.ensures.only))

-- ---- the station's file wasn't read

pub returns-in_err-station-clause-found : goal.returns-in_err-station-clause-found
returns-in_err-station-clause-found g c =
    let p = err_from_is_err_and c.from_residual-in_err-station.result
    c.from_residual-in_err-station.ensures.1 in
    let limits = c.args.limits.now in
    let names = files_asked c.args.words.now in
    let s = value_of_settings c.in_ok-settings.settings in
    let records = records_of c.in_ok-nav.nav in
    rw (p.1, p.2) (found_then _ _ (named_fair limits (settings_text c.args.moving (is_some names.station)) names.settings)
    (nav_fair limits names)
    (settings_at names) _ _ _ _ _ _ s _ c.in_ok-settings.ensures.only
    (rw c.is_named.ensures at c.in_ok-settings.ensures.found) (found_then _ _ (named_fair limits (nav_text (message_of s)) names.nav)
    (behind_nav_fair limits names s) (nav_at names) _ _ _ _ _ _ records _ c.in_ok-nav.ensures.only
    (rw c.message_of.ensures at c.in_ok-nav.ensures.found)
    (found_err _ _ _ _ _ c.in_err-station.field-0.0 c.in_err-station.ensures.found)))

pub returns-in_err-station-clause-only : goal.returns-in_err-station-clause-only
returns-in_err-station-clause-only g c =
    let names = files_asked c.args.words.now in
    let p = err_from_is_err_and c.from_residual-in_err-station.result
    c.from_residual-in_err-station.ensures.1 in
    rw (p.1, p.2) (only_then (settings_at names) (nav_at names ++ (station_at names ++ obs_at names)) _ _ _
    c.in_ok-settings.settings _ c.in_ok-settings.ensures.only
    (only_then (nav_at names) (station_at names ++ obs_at names) _ _ _ c.in_ok-nav.nav _ c.in_ok-nav.ensures.only
    (only_err (station_at names) (obs_at names) _ _ c.in_err-station.field-0.0 c.in_err-station.ensures.only)))

-- ---- the observation file wasn't read

pub returns-in_err-obs-clause-found : goal.returns-in_err-obs-clause-found
returns-in_err-obs-clause-found g c =
    let p = err_from_is_err_and c.from_residual-in_err-obs.result
    c.from_residual-in_err-obs.ensures.1 in
    let limits = c.args.limits.now in
    let names = files_asked c.args.words.now in
    let s = value_of_settings c.in_ok-settings.settings in
    let records = records_of c.in_ok-nav.nav in
    let station = option_map station_value c.in_ok-station.station in
    rw (p.1, p.2) (found_then _ _ (named_fair limits (settings_text c.args.moving (is_some names.station)) names.settings)
    (nav_fair limits names)
    (settings_at names) _ _ _ _ _ _ s _ c.in_ok-settings.ensures.only
    (rw c.is_named.ensures at c.in_ok-settings.ensures.found) (found_then _ _ (named_fair limits (nav_text (message_of s)) names.nav)
    (behind_nav_fair limits names s) (nav_at names) _ _ _ _ _ _ records _ c.in_ok-nav.ensures.only
    (rw c.message_of.ensures at c.in_ok-nav.ensures.found)
    (found_then _ _ (station_fair limits (sought_of s) names.station s.station) (obs_fair limits names s records)
    (station_at names) _ _ _ _ _ _ station _ c.in_ok-station.ensures.only c.in_ok-station.ensures.found
    (found_err _ _ _ _ _ c.in_err-obs.field-0.0
    (rw (c.wants_position-position.ensures, c.sought_of-sought.ensures) at c.in_err-obs.ensures.found)))))

pub returns-in_err-obs-clause-only : goal.returns-in_err-obs-clause-only
returns-in_err-obs-clause-only g c =
    let names = files_asked c.args.words.now in
    let p = err_from_is_err_and c.from_residual-in_err-obs.result
    c.from_residual-in_err-obs.ensures.1 in
    rw (p.1, p.2) (only_then (settings_at names) (nav_at names ++ (station_at names ++ obs_at names)) _ _ _
    c.in_ok-settings.settings _ c.in_ok-settings.ensures.only
    (only_then (nav_at names) (station_at names ++ obs_at names) _ _ _ c.in_ok-nav.nav _ c.in_ok-nav.ensures.only
    (only_then (station_at names) (obs_at names) _ _ _ c.in_ok-station.station _ c.in_ok-station.ensures.only
    (only_err (obs_at names) [] _ _ c.in_err-obs.field-0.0 c.in_err-obs.ensures.only))))

-- ---- all were read

pub returns-clause-found : goal.returns-clause-found
returns-clause-found g c =
    let limits = c.args.limits.now in
    let names = files_asked c.args.words.now in
    let s = value_of_settings c.in_ok-settings.settings in
    let records = records_of c.in_ok-nav.nav in
    let station = option_map station_value c.in_ok-station.station in
    let o = observations_of c.in_ok-obs.obs in
    found_then _ _ (named_fair limits (settings_text c.args.moving (is_some names.station)) names.settings) (nav_fair limits names)
    (settings_at names) _ _ _ _ _ _ s _ c.in_ok-settings.ensures.only
    (rw c.is_named.ensures at c.in_ok-settings.ensures.found) (found_then _ _ (named_fair limits (nav_text (message_of s)) names.nav)
    (behind_nav_fair limits names s) (nav_at names) _ _ _ _ _ _ records _ c.in_ok-nav.ensures.only
    (rw c.message_of.ensures at c.in_ok-nav.ensures.found)
    (found_then _ _ (station_fair limits (sought_of s) names.station s.station) (obs_fair limits names s records)
    (station_at names) _ _ _ _ _ _ station _ c.in_ok-station.ensures.only c.in_ok-station.ensures.found
    (found_then _ _ (named_fair limits (obs_text (sought_of s) (wants_position s.centre) names.epochs) names.obs)
    (λ x. return_fair (record { settings = s; nav = records; station = station; obs = x; after = None })) (obs_at names) _ _ _ _ _ _
    o _ c.in_ok-obs.ensures.only
    (rw (c.wants_position-position.ensures, c.sought_of-sought.ensures) at c.in_ok-obs.ensures.found)
    (found_return (record { settings = s; nav = records; station = station; obs = o; after = None }) _ _ _))))

pub returns-clause-only : goal.returns-clause-only
returns-clause-only g c =
    let names = files_asked c.args.words.now in
    let all : Inputs = record {
      settings = c.in_ok-settings.settings;
      nav = c.in_ok-nav.nav;
      station = c.in_ok-station.station;
      obs = c.in_ok-obs.obs;
      after = None;
    } in
    only_then (settings_at names) (nav_at names ++ (station_at names ++ obs_at names)) _ _ _
    c.in_ok-settings.settings _ c.in_ok-settings.ensures.only
    (only_then (nav_at names) (station_at names ++ obs_at names) _ _ _ c.in_ok-nav.nav _ c.in_ok-nav.ensures.only
    (only_then (station_at names) (obs_at names) _ _ _ c.in_ok-station.station _ c.in_ok-station.ensures.only
    (only_as (obs_at names) _ _ c.in_ok-obs.obs all c.in_ok-obs.ensures.only)))

pub returns-clause-enough : goal.returns-clause-enough
returns-clause-enough g c =
    let o = c.in_ok-obs.ensures.usual in
    record {
      centre = enough c.in_ok-settings.settings.centre c.in_ok-obs.obs.position
          (rw c.wants_position-position.ensures at o.known);
      usual = o.usual;
      ages = c.in_ok-station.ensures.ages;
      inside = λ root is. tt;
    }

pub returns-clause-motion : goal.returns-clause-motion
returns-clause-motion g c =
    let s = value_of_settings c.in_ok-settings.settings in
    let names = files_asked c.args.words.now in
    has_motion c.args.moving s.speed (station_misfit (is_some names.station) s.station) (rw c.is_named.ensures at c.in_ok-settings.ensures.usual)
