-- What is read from the files of a receiver, in one order: the settings, the navigation file, the
-- observation file of a station where it is named, that of the receiver, and an earlier log where it
-- is named.
use Rattle.std.specs.Prelude.{◌≡◌, ℕ, ◌+◌, ◌≤◌, Bool, true, false, List, [], ◌∷◌, ◌++◌, Option}
use Rattle.std.specs.Prelude.{None, Some, is_some, option_map}
use Rattle.command_words.specs.Commands.{Epochs, Files}
use Rattle.error_bounds.specs.Reading.{value_of_settings, signal_of, IsKnown, IsEnough, Tells}
use Rattle.error_bounds.specs.Reading.{box_around, centre_with, IsRoot}
use Rattle.error_bounds.specs.Texts as settings
use Rattle.error_bounds.specs.declared.settings.Centre.{Centre}
use Rattle.error_bounds.specs.declared.settings.Centre.TheVariants.{Header, At}
use Rattle.error_bounds.specs.declared.settings.Settings.{Settings}
use Rattle.outer_io.specs.declared.slots.Slot.TheVariants as slot
use Rattle.gnss_model.specs.declared.systems.Message.{Message}
use Rattle.error_bounds.specs.Sizes.{IsNearGround}
use Rattle.grid_model.specs.Boxes.{GridBox}
use Rattle.grid_model.specs.declared.boxes.Pos.{Pos}
use Rattle.moving_tube.specs.Endings.{IsInsideOf, before_value}
use Rattle.moving_tube.specs.Roots.{Before}
use Rattle.rinex_nav.specs.Files as nav
use Rattle.rinex_nav.specs.Reading.{records_of}
use Rattle.rinex_nav.specs.Records.{Broadcast}
use Rattle.rinex_nav.specs.declared.record.NavRecord.{NavRecord}
use Rattle.rinex_obs.specs.Facts.{AreRisingFrom, AreDistinct, AreNamedSats, InEach}
use Rattle.rinex_obs.specs.Files as obs
use Rattle.rinex_obs.specs.Epochs.{Observed}
use Rattle.rinex_obs.specs.Reading.{observations_of, plain_epochs}
use Rattle.rinex_obs.specs.declared.obs.Obs.{Obs}
use Rattle.rinex_obs.specs.declared.sought.Sought.{Sought}
use Rattle.input_files.specs.Earlier.{earlier_text}
use Rattle.input_files.specs.Reading.{Text, Reading, Named, NamedSlots, Then, Returns}
use Rattle.input_files.specs.Suits.{Suits, IsSettingsFor, NamesFaultFor, far_place}
use Rattle.input_files.specs.declared.input_fault.InputFault.TheVariants as fault
use Rattle.input_files.specs.declared.inputs.Inputs.{Inputs}
use Rattle.input_files.specs.declared.limits.Limits.{Limits}
use Rattle.input_files.specs.declared.notice.Notice.{Notice}
use Rattle.input_files.specs.declared.notice.Notice.TheVariants as notice
use Rattle.input_files.specs.declared.role.Role.TheVariants as role
use Rattle.input_files.specs.declared.station_file.StationFile.{StationFile}

-- ---- the settings

abbrev pub NamesSettingsFault : Bool → Bool → List ℕ → Notice → Type 0
NamesSettingsFault moving stationed bytes (notice.BadInput (fault.Settings told)) =
    NamesFaultFor moving stationed bytes told
NamesSettingsFault moving stationed bytes _ = ⊥

-- of a receiver that moves, or of one whose epochs stand each by itself; with a station whose file
-- is named, or with none
abbrev pub settings_text : (moving stationed : Bool) → Text Settings
settings_text moving stationed = record {
  role = role.Settings;
  Value = settings.SettingsValue;
  value = value_of_settings;
  Spells = IsSettingsFor moving stationed;
  Names = NamesSettingsFault moving stationed;
  Usual = Suits moving stationed;
}

-- ---- the navigation file

-- where the settings have codes of Galileo, the satellites of both systems are read, and the records
-- of its message are kept
abbrev pub message_of : settings.SettingsValue → Option Message
message_of s = option_map (λ galileo. galileo.message) s.galileo

abbrev pub sought_of : settings.SettingsValue → Sought
sought_of s = record { gps = s.signal; galileo = signal_of s.galileo }

abbrev pub NamesNavFault : Option Message → List ℕ → Notice → Type 0
NamesNavFault galileo bytes (notice.BadInput (fault.Nav refusal)) =
    nav.IsFirstFaultOf galileo bytes refusal
NamesNavFault galileo bytes _ = ⊥

abbrev pub nav_text : Option Message → Text (List NavRecord)
nav_text galileo = record {
  role = role.Nav;
  Value = List Broadcast;
  value = records_of;
  Spells = nav.IsNavFileOf galileo;
  Names = NamesNavFault galileo;
  Usual = λ records. Unit {0};
}

-- ---- the observation file

-- the position of its header is wanted where it is the centre of the search box
abbrev pub wants_position : Centre → Bool
wants_position Header = true
wants_position (At p) = false

abbrev pub NamesObsFault : Sought → Bool → List ℕ → Notice → Type 0
NamesObsFault sought position bytes (notice.BadInput (fault.Obs refusal)) =
    obs.IsFirstFaultOf sought position bytes refusal
NamesObsFault sought position bytes _ = ⊥

-- The numbers of the epochs rise, and the satellites of each are of GPS or Galileo, none of them
-- twice.
pub record AreUsual (o : Obs) : Type 0 where
  pub rising : AreRisingFrom 1 (observations_of o).epochs
  pub distinct : InEach AreDistinct (observations_of o).epochs
  pub named : InEach AreNamedSats (observations_of o).epochs

pub record AreObserved (position : Bool) (o : Obs) : Type 0 where
  pub usual : AreUsual o
  pub known : position ≡ true → IsKnown o.position

-- with the wanted codes, and the epochs of the file that are asked for
abbrev pub obs_text : Sought → Bool → Epochs → Text Obs
obs_text sought position epochs = record {
  role = role.Obs;
  Value = obs.Observations;
  value = observations_of;
  Spells = λ bytes. obs.AreBetween epochs.from epochs.to (obs.IsObsFileOf sought position bytes);
  Names = NamesObsFault sought position;
  Usual = AreObserved position;
}

-- ---- the station's file

-- where the station stands, how far in s its epochs may be from those of the receiver, and these
pub record StationValue : Type 0 where
  pub place : Pos
  pub age : ℕ
  pub epochs : List Observed

abbrev pub station_value : StationFile → StationValue
station_value s =
    record { place = s.place; age = s.age; epochs = plain_epochs s.obs.epochs.items }

-- of the codes that are wanted of the receiver, and the place that the settings declare
module _ (sought : Sought) (place : Centre) where
  -- its observations, and its place: the declared one, or that of the header
  pub record IsStationAt (bytes : List ℕ) (o : obs.Observations) (p : Pos) : Type 0 where
    pub file : obs.IsStationFile sought (wants_position place) bytes o
    pub place_is : centre_with o.position place ≡ Some p

  abbrev pub SpellsStation : (age : ℕ) → List ℕ → StationValue → Type 0
  SpellsStation age bytes v =
      (o : obs.Observations) × (p : Pos) × IsStationAt bytes o p × IsNearGround p
      × (v ≡ record { place = p; age = age; epochs = o.epochs })

  -- the file has no fault, and the place of its header isn't within 6,600 km of the origin
  abbrev pub IsFarStation : List ℕ → Type 0
  IsFarStation bytes =
      (o : obs.Observations) × (p : Pos) × IsStationAt bytes o p × (IsNearGround p → ⊥)

  abbrev pub NamesStationFault : List ℕ → Notice → Type 0
  NamesStationFault bytes (notice.BadInput (fault.Station refusal)) =
      obs.IsFirstStationFault sought (wants_position place) bytes refusal
  NamesStationFault bytes (notice.BadInput (fault.Settings told)) =
      IsFarStation bytes × Tells far_place told
  NamesStationFault bytes _ = ⊥

-- all epochs of the file
abbrev pub station_text : Sought → (place : Centre) → (age : ℕ) → Text StationFile
station_text sought place age = record {
  role = role.Station;
  Value = StationValue;
  value = station_value;
  Spells = SpellsStation sought place age;
  Names = NamesStationFault sought place;
  Usual = λ s. s.age ≡ age;
}

-- ---- all of them

-- what their texts stand for, with the epochs that are asked for
pub record InputsValue : Type 0 where
  pub settings : settings.SettingsValue
  pub nav : List Broadcast
  pub station : Option StationValue
  pub obs : obs.Observations
  -- what an earlier log leaves
  pub after : Option Before

abbrev pub inputs_value : Inputs → InputsValue
inputs_value i = record {
  settings = value_of_settings i.settings;
  nav = records_of i.nav;
  station = option_map station_value i.station;
  obs = observations_of i.obs;
  after = before_value i.after;
}

-- the files that are read, in their order
abbrev pub station_slot : Option (List ℕ) → NamedSlots
station_slot None = []
station_slot (Some name) = (slot.Station, name) ∷ []

abbrev pub receiver_files : Files → NamedSlots
receiver_files names =
    (slot.Settings, names.settings) ∷ (slot.Nav, names.nav)
    ∷ (station_slot names.station ++ (slot.Obs, names.obs) ∷ [])

-- and an earlier log behind them, in the slot of the log
abbrev pub after_slot : Option (List ℕ) → NamedSlots
after_slot None = []
after_slot (Some name) = (slot.Log, name) ∷ []

abbrev pub input_files : Files → NamedSlots
input_files names = receiver_files names ++ after_slot names.after

abbrev pub ReadsObs : Limits → Files → settings.SettingsValue → List Broadcast
    → Option StationValue → Reading InputsValue
ReadsObs limits names s records station =
    Then (Named limits (obs_text (sought_of s) (wants_position s.centre) names.epochs) names.obs)
    (λ o. Returns (record {
      settings = s;
      nav = records;
      station = station;
      obs = o;
      after = None;
    }))

-- the station's file, where it is named and the station declared
abbrev pub ReadsStation : Limits → Sought → Option (List ℕ) → Option settings.StationValue
    → Reading (Option StationValue)
ReadsStation limits sought None declared = Returns None
ReadsStation limits sought (Some name) None = Returns None
ReadsStation limits sought (Some name) (Some declared) =
    Then (Named limits (station_text sought declared.place declared.age) name)
    (λ station. Returns (Some station))

abbrev pub ReadsBehindNav : Limits → Files → settings.SettingsValue → List Broadcast
    → Reading InputsValue
ReadsBehindNav limits names s records =
    Then (ReadsStation limits (sought_of s) names.station s.station) (ReadsObs limits names s records)

abbrev pub ReadsNav : Limits → Files → settings.SettingsValue → Reading InputsValue
ReadsNav limits names s =
    Then (Named limits (nav_text (message_of s)) names.nav) (ReadsBehindNav limits names s)

abbrev pub ReadsReceiver : Bool → Limits → Files → Reading InputsValue
ReadsReceiver moving limits names =
    Then (Named limits (settings_text moving (is_some names.station)) names.settings)
    (ReadsNav limits names)

-- what an earlier log leaves in this search box, where it is named
abbrev pub ReadsAfter : Limits → GridBox → Option (List ℕ) → Reading (Option Before)
ReadsAfter limits search None = Returns None
ReadsAfter limits search (Some name) = Named limits (earlier_text search) name

-- the box around a centre, which is always known where a receiver's files are accepted
abbrev pub search_box : Option Pos → Pos → GridBox
search_box None half = box_around half half
search_box (Some p) half = box_around p half

abbrev pub search_of : InputsValue → GridBox
search_of i = search_box (centre_with i.obs.position i.settings.centre) i.settings.half

abbrev pub ReadsBehind : Limits → Files → InputsValue → Reading InputsValue
ReadsBehind limits names i = Then (ReadsAfter limits (search_of i) names.after)
    (λ left. Returns (record i { after = left }))

abbrev pub ReadsFor : Bool → Limits → Files → Reading InputsValue
ReadsFor moving limits names = Then (ReadsReceiver moving limits names) (ReadsBehind limits names)

abbrev pub ReadsInputs : Limits → Files → Reading InputsValue
ReadsInputs limits names = ReadsFor false limits names

-- of a receiver that moves
abbrev pub ReadsMoving : Limits → Files → Reading InputsValue
ReadsMoving limits names = ReadsFor true limits names

-- the ages of records and of a station's epochs, in s, are together at most 4 hours
abbrev pub AreShort : (max_age : ℕ) → Option StationFile → Type 0
AreShort max_age None = Unit {0}
AreShort max_age (Some station) = max_age + station.age ≤ 14400

-- the position of the header is known where it is the centre, and what an earlier log leaves lies in
-- the search box
pub record AreEnough (i : Inputs) : Type 0 where
  pub centre : IsEnough i.settings.centre i.obs.position
  pub usual : AreUsual i.obs
  pub ages : AreShort i.settings.max_age i.station
  pub inside : (root : GridBox)
      → IsRoot (centre_with i.obs.position i.settings.centre) i.settings.half root
      → IsInsideOf root (before_value i.after)
