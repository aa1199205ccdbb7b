-- What a reader of settings texts answers.
use Rattle.std.specs.Prelude.{◌≡◌, ◌⊎◌, ℤ, map, ◌+ℤ◌, ◌-ℤ◌, ℕ, List, [], ◌∷◌, Bool, ◌&&◌, ◌==◌, if◌then◌else◌, pos, Option, None, Some, option_map, Result, Ok, Err}
use Rattle.std.specs.Borrow.{Bor}
use Rattle.grid_model.specs.Boxes.{GridBox}
use Rattle.sat_model.specs.Relaxed.{ends}
use Rattle.grid_model.specs.declared.boxes.Pos.{Pos}
use Rattle.gnss_model.specs.declared.satellites.Sat.{Sat}
use Rattle.gnss_model.specs.declared.satellites.Signal.{Signal}
use Rattle.gnss_model.specs.declared.satellites.GalileoUse.{GalileoUse}
use Rattle.grid_model.specs.declared.spans.Span.{Span}
use Rattle.error_bounds.specs.Faults.{Found, IsCut, number_of}
use Rattle.error_bounds.specs.Keys.{Test, data_at, dotted, if_there, first_found}
use Rattle.error_bounds.specs.Keys as key
use Rattle.error_bounds.specs.Names.{unknown, IsFirstName}
use Rattle.std.specs.List.{All}
use Rattle.error_bounds.specs.Sizes.{IsNearEarth, AreDeclared, IsBefore, IsAscending}
use Rattle.error_bounds.specs.declared.galileo.Galileo.{Galileo}
use Rattle.error_bounds.specs.Texts.{GalileoValue, StationValue, SettingsValue, IsValue, IsFirstFault, IsFound, add}
use Rattle.error_bounds.specs.declared.fault.Fault.{Fault}
use Rattle.error_bounds.specs.declared.fault.Fault.TheVariants.{Unknown}
use Rattle.error_bounds.specs.declared.search.Search.{Search}
use Rattle.error_bounds.specs.Forms.{as_list_of, of_kind, three, DirectionsValue, Azimuths, Vectors}
use Rattle.bound_directions.specs.Directions.{azimuth_count}
use Rattle.bound_directions.specs.declared.direction.Direction.{Direction}
use Rattle.bound_directions.specs.declared.directions.Directions.{Directions}
use Rattle.bound_directions.specs.declared.directions.Directions.TheVariants as by
use Rattle.toml.specs.Data.{Data, Members, as_integer}
use Rattle.toml.specs.View.{view}
use Rattle.toml.specs.declared.value.Value.{Value}
use Rattle.error_bounds.specs.declared.fault.SettingsError.{SettingsError}
use Rattle.error_bounds.specs.declared.fault.SettingsError.TheVariants.{Refused, NoMemory}
use Rattle.error_bounds.specs.declared.fault.SettingsFault.{SettingsFault}
use Rattle.error_bounds.specs.declared.settings.Centre.{Centre}
use Rattle.error_bounds.specs.declared.settings.Centre.TheVariants.{Header, At}
use Rattle.error_bounds.specs.declared.settings.Settings.{Settings}
use Rattle.error_bounds.specs.declared.station.DeclaredStation.{DeclaredStation}

-- satellites and the ends of their spans
abbrev pub with_ends : List (Sat × Span) → List (Sat × (ℤ × ℤ))
with_ends extra = map (λ e. (e.0, ends e.1)) extra

-- what is declared for Galileo satellites, as a plain value
abbrev pub galileo_value : Galileo → GalileoValue
galileo_value g = record { message = g.message; signal = g.signal; offset = ends g.offset }

-- the codes of Galileo that are declared
abbrev pub signal_of : Option GalileoValue → Option Signal
signal_of None = None
signal_of (Some galileo) = Some galileo.signal

-- and by which message its satellites are used
abbrev pub galileo_use_of : Option GalileoValue → Option GalileoUse
galileo_use_of None = None
galileo_use_of (Some galileo) = Some (record { message = galileo.message; signal = galileo.signal })

-- a station that is declared, as a plain value
abbrev pub station_value : DeclaredStation → StationValue
station_value s = record { place = s.place; age = s.age }

-- directions of bounds, as a plain value
abbrev pub components : Direction → ℤ × ℤ × ℤ
components d = (d.x, d.y, d.z)

abbrev pub directions_value : Directions → DirectionsValue
directions_value (by.Azimuths named) = Azimuths (azimuth_count named)
directions_value (by.Vectors given) = Vectors (map components given.items)

-- settings as a plain value
abbrev pub value_of_settings : Settings → SettingsValue
value_of_settings s = record {
  centre = s.centre;
  half = s.half;
  outliers = s.rules.outliers;
  bisections = s.rules.bisections;
  width = s.rules.width;
  max_age = s.max_age;
  renew = s.renew;
  pairs = s.rules.pairs;
  directions = option_map directions_value s.directions;
  signal = s.signal;
  common = ends s.common;
  extra = with_ends s.extra.items;
  zenith = option_map ends s.delays.zenith;
  vertical = option_map ends s.delays.vertical;
  galileo = option_map galileo_value s.galileo;
  speed = s.speed;
  restart = s.restart;
  station = option_map station_value s.station;
}

-- a refusal tells of a fault
pub record Tells (found : Found) (told : SettingsFault) : Type 0 where
  pub number : told.number ≡ number_of found.fault
  pub key : IsCut found.key told.key.bytes

-- the data that was found
abbrev pub data_of : Result (Bor Value) Fault → Result Data Fault
data_of (Ok value) = Ok (view value.now)
data_of (Err fault) = Err fault

-- the same where there may be none
abbrev pub optional_data_of : Result (Option (Bor Value)) Fault → Result (Option Data) Fault
optional_data_of (Ok found) = Ok (option_map (λ value. view value.now) found)
optional_data_of (Err fault) = Err fault

-- three whole numbers, or why there are none
abbrev pub AreThree : Data → Result (ℤ × ℤ × ℤ) Fault → Type 0
AreThree d (Ok n) = as_list_of as_integer d ≡ Some (n.0 ∷ n.1 ∷ n.2 ∷ [])
AreThree d (Err fault) =
    (passes : ℤ → ℤ → ℤ → Bool) → of_kind (as_list_of as_integer d) (three passes) ≡ Err fault

-- what is read at a key by a form, or the fault at it
abbrev pub Answers : {V : Type 0} → (Data → Result V Fault → Type 0) → List ℕ → List ℕ → Members
    → Result V SettingsFault → Type 0
Answers reads table name tree (Ok v) =
    (d : Data) × (data_at table name tree ≡ Ok d) × reads d (Ok v)
Answers reads table name tree (Err told) =
    (fault : Fault) × Tells (record { fault = fault; key = dotted table name }) told
    × ((data_at table name tree ≡ Err fault)
    ⊎ ((d : Data) × (data_at table name tree ≡ Ok d) × reads d (Err fault)))

-- the same at a key that may be absent
abbrev pub AnswersOptional : {V : Type 0} → (Data → Result V Fault → Type 0) → List ℕ → List ℕ
    → Members → Result (Option V) SettingsFault → Type 0
AnswersOptional reads table name tree (Ok None) = if_there (data_at table name tree) ≡ Ok None
AnswersOptional reads table name tree (Ok (Some v)) =
    (d : Data) × (if_there (data_at table name tree) ≡ Ok (Some d)) × reads d (Ok v)
AnswersOptional reads table name tree (Err told) =
    (fault : Fault) × Tells (record { fault = fault; key = dotted table name }) told
    × ((if_there (data_at table name tree) ≡ Err fault)
    ⊎ ((d : Data) × (if_there (data_at table name tree) ≡ Ok (Some d)) × reads d (Err fault)))

-- the directions that are read, as a plain value
abbrev pub directions_in : Result Directions Fault → Result DirectionsValue Fault
directions_in (Ok given) = Ok (directions_value given)
directions_in (Err fault) = Err fault

-- the span that is read, as its ends
abbrev pub ends_in : Result Span Fault → Result (ℤ × ℤ) Fault
ends_in (Ok span) = Ok (ends span)
ends_in (Err fault) = Err fault

-- the refusal tells of the first fault that tests find
abbrev pub TellsFirst : List Test → SettingsFault → Type 0
TellsFirst tests told = (found : Found) × (first_found tests ≡ Some found) × Tells found told

-- the refusal is the first fault of a tree, unless memory ran out
abbrev pub RefusesTests : List Test → SettingsError → Type 0
RefusesTests tests NoMemory = Unit {0}
RefusesTests tests (Refused told) = TellsFirst tests told

-- it tells of the first of the names, unless memory ran out
abbrev pub RefusesName : List (List ℕ) → SettingsError → Type 0
RefusesName names NoMemory = Unit {0}
RefusesName names (Refused told) =
    (name : List ℕ) × IsFirstName names name × Tells (record { fault = Unknown; key = name }) told

abbrev pub RefusesTree : Members → SettingsError → Type 0
RefusesTree tree NoMemory = Unit {0}
RefusesTree tree (Refused told) = (found : Found) × IsFound tree found × Tells found told

-- the refusal is the first fault, unless memory ran out
abbrev pub RefusesFirst : List ℕ → SettingsError → Type 0
RefusesFirst text NoMemory = Unit {0}
RefusesFirst text (Refused told) = (found : Found) × IsFirstFault text found × Tells found told

-- these settings were read, unless memory ran out
abbrev pub GivesSettings : SettingsValue → Result Settings SettingsError → Type 0
GivesSettings v (Ok settings) = value_of_settings settings ≡ v
GivesSettings v (Err e) = e ≡ NoMemory

abbrev pub IsRefusalOf : Found → SettingsError → Type 0
IsRefusalOf found NoMemory = Unit {0}
IsRefusalOf found (Refused told) = Tells found told

-- the text was refused for this fault, unless memory ran out
abbrev pub GivesFault : Found → Result Settings SettingsError → Type 0
GivesFault found (Ok settings) = ⊥
GivesFault found (Err e) = IsRefusalOf found e

-- satellites before one, in order, with declared spans
pub record AreListed (sat : Sat) (extra : List (Sat × Span)) : Type 0 where
  pub declared : AreDeclared extra
  pub ascending : IsAscending extra
  pub below : All (λ e. IsBefore e.0 sat) extra

-- ---- what the keys of a table give

pub record IsSearch (tree : Members) (s : Search) : Type 0 where
  pub centre : key.value_of key.centre tree ≡ Ok s.centre
  pub half : key.value_of key.half tree ≡ Ok s.half
  pub outliers : key.value_of key.outliers tree ≡ Ok s.rules.outliers
  pub bisections : key.value_of key.bisections tree ≡ Ok s.rules.bisections
  pub width : key.value_of key.width tree ≡ Ok s.rules.width
  pub max_age : key.value_of key.max_age tree ≡ Ok s.max_age
  pub renew : key.truth_at key.renew tree ≡ Ok s.renew
  pub pairs : key.truth_at key.pairs tree ≡ Ok s.rules.pairs

pub record IsCommon (tree : Members) (common : ℤ × ℤ) : Type 0 where
  pub receiver : ℤ × ℤ
  pub is_receiver : key.value_of key.receiver tree ≡ Ok receiver
  pub orbit_clock : ℤ × ℤ
  pub is_orbit_clock : key.value_of key.orbit_clock tree ≡ Ok orbit_clock
  pub ionosphere : ℤ × ℤ
  pub is_ionosphere : key.value_of key.ionosphere tree ≡ Ok ionosphere
  pub troposphere : ℤ × ℤ
  pub is_troposphere : key.value_of key.troposphere tree ≡ Ok troposphere
  pub sum : common ≡ add (add (add receiver orbit_clock) ionosphere) troposphere

-- the keys of a tree have no fault, and give these settings
pub record IsTreeOf (tree : Members) (s : Settings) : Type 0 where
  pub faultless : first_found (key.tests tree) ≡ None
  pub known : unknown tree ≡ []
  pub value : IsValue tree (value_of_settings s)

-- ---- what is taken from settings

-- the extra span of a satellite, and that of 0 alone where it has none
abbrev pub is_sat : Sat → Sat → Bool
is_sat a b = a.system == b.system && a.number == b.number

abbrev pub extra_for : Sat → List (Sat × (ℤ × ℤ)) → ℤ × ℤ
extra_for sat [] = (pos 0, pos 0)
extra_for sat (e ∷ more) = if is_sat e.0 sat then e.1 else extra_for sat more

-- the offset of the system times, for Galileo satellites
abbrev pub offset_for : Sat → Option GalileoValue → ℤ × ℤ
offset_for sat None = (pos 0, pos 0)
offset_for sat (Some g) = if sat.system == 69 then g.offset else (pos 0, pos 0)

-- the sum of all spans that are declared for a satellite
abbrev pub bound_for : Sat → SettingsValue → ℤ × ℤ
bound_for sat v = add (add v.common (extra_for sat v.extra)) (offset_for sat v.galileo)

-- the box around a point
abbrev pub box_around : Pos → Pos → GridBox
box_around p half = record {
  x = record { lo = p.x -ℤ half.x; hi = p.x +ℤ half.x };
  y = record { lo = p.y -ℤ half.y; hi = p.y +ℤ half.y };
  z = record { lo = p.z -ℤ half.z; hi = p.z +ℤ half.z };
}

-- the centre of the search box, where it is known
abbrev pub centre_with : Option Pos → Centre → Option Pos
centre_with header Header = header
centre_with header (At p) = Some p

-- a header's position is there, and near the Earth
abbrev pub IsKnown : Option Pos → Type 0
IsKnown None = ⊥
IsKnown (Some p) = IsNearEarth p

-- it is needed where the centre is that of the header
abbrev pub IsEnough : Centre → Option Pos → Type 0
IsEnough Header header = IsKnown header
IsEnough (At p) header = Unit {0}

-- the box around a known centre
abbrev pub IsRoot : Option Pos → Pos → GridBox → Type 0
IsRoot None half root = ⊥
IsRoot (Some p) half root = root ≡ box_around p half
