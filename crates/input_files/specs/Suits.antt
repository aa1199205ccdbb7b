-- What a command asks of settings that have no fault of their own: the greatest speed of a receiver
-- that moves, and a station's place exactly where its file is named. Bounds of a difference are none
-- of one receiver.
use Rattle.std.specs.Prelude.{◌≡◌, ◌⊎◌, ℕ, Bool, true, false, List, Option, None, Some, codes}
use Rattle.error_bounds.specs.Faults.{Found}
use Rattle.error_bounds.specs.Reading.{Tells, value_of_settings}
use Rattle.error_bounds.specs.Texts.{SettingsValue, IsSettings, IsFirstFault}
use Rattle.error_bounds.specs.declared.fault.Fault.TheVariants.{Missing, Outside}
use Rattle.error_bounds.specs.declared.fault.SettingsFault.{SettingsFault}
use Rattle.error_bounds.specs.declared.settings.Settings.{Settings}
use Rattle.input_files.specs.declared.input_fault.InputFault.TheVariants as fault
use Rattle.input_files.specs.declared.notice.Notice.{Notice}
use Rattle.input_files.specs.declared.notice.Notice.TheVariants as notice

-- ---- what is amiss

abbrev pub no_speed : Found
no_speed = record { fault = Missing; key = codes "motion.speed" }

abbrev pub no_place : Found
no_place = record { fault = Missing; key = codes "station.place" }

-- it is declared, and no file is named
abbrev pub unused_place : Found
unused_place = record { fault = Outside; key = codes "station.place" }

-- it is that of the header of its file, which isn't within 6,600 km of the origin
abbrev pub far_place : Found
far_place = record { fault = Outside; key = codes "station.place" }

-- of a station, whose file is named or isn't
abbrev pub station_misfit : {X : Type 0} → (stationed : Bool) → Option X → Option Found
station_misfit false None = None
station_misfit false (Some station) = Some unused_place
station_misfit true None = Some no_place
station_misfit true (Some station) = None

-- and before that, of a receiver that moves or doesn't
abbrev pub motion_misfit : (moving : Bool) → Option ℕ → (later : Option Found) → Option Found
motion_misfit false speed later = later
motion_misfit true None later = Some no_speed
motion_misfit true (Some speed) later = later

abbrev pub misfit_in : (moving stationed : Bool) → SettingsValue → Option Found
misfit_in moving stationed v = motion_misfit moving v.speed (station_misfit stationed v.station)

module _ (moving stationed : Bool) where
  -- nothing is
  abbrev pub Suits : Settings → Type 0
  Suits s = misfit_in moving stationed (value_of_settings s) ≡ None

  -- ---- a text

  -- it has no fault and this value, which suits the command
  abbrev pub IsSettingsFor : List ℕ → SettingsValue → Type 0
  IsSettingsFor bytes v = IsSettings bytes v × (misfit_in moving stationed v ≡ None)

  -- it has no fault, and the refusal tells what is amiss of its value
  abbrev pub IsUnsuited : List ℕ → SettingsFault → Type 0
  IsUnsuited bytes told =
      (v : SettingsValue) × IsSettings bytes v
      × ((found : Found) × (misfit_in moving stationed v ≡ Some found) × Tells found told)

  -- the refusal tells of its first fault, or of that
  abbrev pub NamesFaultFor : List ℕ → SettingsFault → Type 0
  NamesFaultFor bytes told =
      ((found : Found) × IsFirstFault bytes found × Tells found told) ⊎ IsUnsuited bytes told

  -- ---- settings that were read

  -- the notice tells what is amiss of them
  abbrev pub NamesMisfit : Settings → Notice → Type 0
  NamesMisfit s (notice.BadInput (fault.Settings told)) =
      (found : Found) × (misfit_in moving stationed (value_of_settings s) ≡ Some found)
      × Tells found told
  NamesMisfit s _ = ⊥

-- a refusal tells what was found, where something was
abbrev pub MayTell : Option Found → Option SettingsFault → Type 0
MayTell None told = told ≡ None
MayTell (Some found) None = ⊥
MayTell (Some found) (Some told) = Tells found told
