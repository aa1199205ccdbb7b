-- Settings texts: the value of one, or its first fault.
use Rattle.std.specs.Prelude.{◌≡◌, ◌⊎◌, Bool, ℕ, ℤ, ◌+ℤ◌, List, [], Option, None, Some, Result, Ok, Err, IsUtf8, codes}
use Rattle.std.specs.List.{filter_map}
use Rattle.grid_model.specs.declared.boxes.Pos.{Pos}
use Rattle.gnss_model.specs.declared.satellites.Sat.{Sat}
use Rattle.gnss_model.specs.declared.satellites.Signal.{Signal}
use Rattle.gnss_model.specs.declared.systems.Message.{Message}
use Rattle.toml.specs.Data.{Members, get_member}
use Rattle.toml.specs.Parse.{parse_document}
use Rattle.error_bounds.specs.Faults.{Found}
use Rattle.error_bounds.specs.Forms.{DirectionsValue}
use Rattle.error_bounds.specs.Keys as key
use Rattle.error_bounds.specs.Names.{unknown, IsFirstName}
use Rattle.error_bounds.specs.declared.fault.Fault.{Fault}
use Rattle.error_bounds.specs.declared.fault.Fault.TheVariants.{NotToml, Unknown}
use Rattle.error_bounds.specs.declared.settings.Centre.{Centre}

-- what is declared for Galileo satellites
pub record GalileoValue : Type 0 where
  pub message : Message
  pub signal : Signal
  pub offset : ℤ × ℤ

-- where a station stands, and how far in s its epochs may be from those of the receiver
pub record StationValue : Type 0 where
  pub place : Centre
  pub age : ℕ

-- settings as they stand in a text, with lengths in um
pub record SettingsValue : Type 0 where
  pub centre : Centre
  pub half : Pos
  pub outliers : ℕ
  pub bisections : ℕ
  pub width : ℤ
  pub max_age : ℕ
  pub renew : Bool
  pub pairs : Bool
  pub directions : Option DirectionsValue
  pub signal : Signal
  pub common : ℤ × ℤ
  pub extra : List (Sat × (ℤ × ℤ))
  pub zenith : Option (ℤ × ℤ)
  pub vertical : Option (ℤ × ℤ)
  pub galileo : Option GalileoValue
  pub speed : Option ℕ
  pub restart : Bool
  pub station : Option StationValue

-- the sum of two spans, each a pair of ends
abbrev pub add : ℤ × ℤ → ℤ × ℤ → ℤ × ℤ
add a b = (a.0 +ℤ b.0, a.1 +ℤ b.1)

-- a satellite and its own span, where it has one
abbrev pub extra_of : Sat → Result (Option (ℤ × ℤ)) Fault → Option (Sat × (ℤ × ℤ))
extra_of sat (Ok None) = None
extra_of sat (Ok (Some span)) = Some (sat, span)
extra_of sat (Err fault) = None

abbrev pub own_extra : Members → List Sat → List (Sat × (ℤ × ℤ))
own_extra members sats =
    filter_map (λ sat. extra_of sat (key.optional (key.satellite sat) members)) sats

abbrev pub extra_in : Bool → Result Members Fault → List (Sat × (ℤ × ℤ))
extra_in both (Ok members) = own_extra members (key.listed_sats both)
extra_in both (Err fault) = []

-- what the table of Galileo gives, where it is there
abbrev pub IsGalileo : Members → Option GalileoValue → Type 0
IsGalileo tree None = get_member (codes "galileo") tree ≡ None
IsGalileo tree (Some g) =
    (key.message_at tree ≡ Ok g.message)
    × (key.value_of (key.galileo_codes (key.mode_of tree) g.message) tree ≡ Ok g.signal)
    × (key.value_of key.galileo_offset tree ≡ Ok g.offset)

-- what the table of a station gives, where it is there
abbrev pub IsStation : Members → Option StationValue → Type 0
IsStation tree None = get_member (codes "station") tree ≡ None
IsStation tree (Some s) =
    (key.value_of key.station_place tree ≡ Ok s.place)
    × (key.value_of (key.station_age (key.records_age tree)) tree ≡ Ok s.age)

-- the value that the keys of a tree give
pub record IsValue (tree : Members) (v : SettingsValue) : Type 0 where
  pub centre : key.value_of key.centre tree ≡ Ok v.centre
  pub half : key.value_of key.half tree ≡ Ok v.half
  pub outliers : key.value_of key.outliers tree ≡ Ok v.outliers
  pub bisections : key.value_of key.bisections tree ≡ Ok v.bisections
  pub width : key.value_of key.width tree ≡ Ok v.width
  pub max_age : key.value_of key.max_age tree ≡ Ok v.max_age
  pub renew : key.truth_at key.renew tree ≡ Ok v.renew
  pub pairs : key.truth_at key.pairs tree ≡ Ok v.pairs
  pub directions : key.optional_at (key.directions_key tree) tree ≡ Ok v.directions
  pub signal : key.value_of (key.codes_key tree) tree ≡ Ok v.signal
  pub receiver : ℤ × ℤ
  pub is_receiver : key.value_of key.receiver tree ≡ Ok receiver
  pub orbit_clock : ℤ × ℤ
  pub is_orbit_clock : key.value_of key.orbit_clock tree ≡ Ok orbit_clock
  pub ionosphere : ℤ × ℤ
  pub is_ionosphere : key.value_of key.ionosphere tree ≡ Ok ionosphere
  pub troposphere : ℤ × ℤ
  pub is_troposphere : key.value_of key.troposphere tree ≡ Ok troposphere
  pub common : v.common ≡ add (add (add receiver orbit_clock) ionosphere) troposphere
  pub extra : v.extra ≡ extra_in (key.has_galileo tree) (key.satellites tree)
  pub zenith : key.optional_at key.zenith tree ≡ Ok v.zenith
  pub vertical : key.optional_at key.vertical tree ≡ Ok v.vertical
  pub galileo : IsGalileo tree v.galileo
  pub speed : key.optional_at key.speed tree ≡ Ok v.speed
  pub restart : key.truth_at (key.restart_key tree) tree ≡ Ok v.restart
  pub station : IsStation tree v.station

-- the first fault of a tree: the first key with one, and behind all keys the first unknown name
abbrev pub IsFound : Members → Found → Type 0
IsFound tree found =
    (key.first_found (key.tests tree) ≡ Some found)
    ⊎ ((key.first_found (key.tests tree) ≡ None) × (found.fault ≡ Unknown)
    × IsFirstName (unknown tree) found.key)

-- the tree that the bytes write
pub record IsTree (text : List ℕ) (tree : Members) : Type 0 where
  pub utf8 : IsUtf8 text
  pub parsed : parse_document text ≡ Some tree

-- the text has no fault, and this is its value
pub record IsSettings (text : List ℕ) (v : SettingsValue) : Type 0 where
  pub tree : Members
  pub is_tree : IsTree text tree
  pub faultless : key.first_found (key.tests tree) ≡ None
  pub known : unknown tree ≡ []
  pub value : IsValue tree v

-- the text is no TOML, or this is the first fault of its tree
abbrev pub IsFirstFault : List ℕ → Found → Type 0
IsFirstFault text found =
    ((IsUtf8 text → parse_document text ≡ None) × (found ≡ record { fault = NotToml; key = [] }))
    ⊎ ((tree : Members) × IsTree text tree × IsFound tree found)
