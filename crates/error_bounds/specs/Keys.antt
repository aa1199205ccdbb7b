-- The keys of the settings, in the order in which they are tested.
use Rattle.std.specs.Prelude.{ℕ, Bool, cond, false, ◌+◌, ◌-◌, ◌/◌, ◌%◌, min, ℤ, codes, List, [], ◌∷◌, ◌++◌, map, Option, None, Some, ok_or, Result, Ok, Err, true, is_some}
use Rattle.std.specs.List.{range_with_len}
use Rattle.grid_model.specs.declared.boxes.Pos.{Pos}
use Rattle.gnss_model.specs.declared.satellites.Sat.{Sat}
use Rattle.gnss_model.specs.declared.satellites.Signal.{Signal}
use Rattle.gnss_model.specs.declared.systems.Message.{Message}
use Rattle.gnss_model.specs.declared.systems.Message.TheVariants.{Fnav, Inav}
use Rattle.toml.specs.Data.{Data, Members, no_members, get_member, as_table}
use Rattle.error_bounds.specs.Faults.{Found}
use Rattle.error_bounds.specs.Forms.{count, length_from, truth, truth_with, errors, place, ground_place, half_sides, mode_word, code_list, message_word, galileo_list, DirectionsValue, directions_with}
use Rattle.error_bounds.specs.declared.fault.Fault.{Fault}
use Rattle.error_bounds.specs.declared.fault.Fault.TheVariants.{Missing, WrongKind, Outside}
use Rattle.error_bounds.specs.declared.signals.Mode.{Mode}
use Rattle.error_bounds.specs.declared.signals.Mode.TheVariants.{Single, Dual}
use Rattle.error_bounds.specs.declared.settings.Centre.{Centre}

-- ---- what a key is

-- a key: its table, its own name, and what its value has to be
pub record Key (V : Type 0) : Type 0 where
  pub table : List ℕ
  pub name : List ℕ
  pub form : Data → Result V Fault

-- the name of a key as it is printed: its table, a dot and its own name
abbrev pub dotted : List ℕ → List ℕ → List ℕ
dotted table name = table ++ 46 ∷ name

abbrev pub printed : {V : Type 0} → Key V → List ℕ
printed key = dotted key.table key.name

-- what stands at a key of a tree: its table comes first, then what the table has there
abbrev pub data_under : List ℕ → Option Members → Result Data Fault
data_under name None = Err WrongKind
data_under name (Some members) = ok_or (get_member name members) Missing

abbrev pub data_from : List ℕ → Option Data → Result Data Fault
data_from name None = Err Missing
data_from name (Some d) = data_under name (as_table d)

abbrev pub data_at : List ℕ → List ℕ → Members → Result Data Fault
data_at table name tree = data_from name (get_member table tree)

-- what is read at it
abbrev pub in_form : {V : Type 0} → (Data → Result V Fault) → Result Data Fault → Result V Fault
in_form form (Ok d) = form d
in_form form (Err fault) = Err fault

abbrev pub value_of : {V : Type 0} → Key V → Members → Result V Fault
value_of key tree = in_form key.form (data_at key.table key.name tree)

-- ---- the table of keys

abbrev pub centre : Key Centre
centre = record { table = codes "search"; name = codes "centre"; form = place }

abbrev pub half : Key Pos
half = record { table = codes "search"; name = codes "half"; form = half_sides }

abbrev pub outliers : Key ℕ
outliers = record { table = codes "search"; name = codes "outliers"; form = count 0 8 }

abbrev pub bisections : Key ℕ
bisections = record { table = codes "search"; name = codes "bisections"; form = count 0 200000 }

abbrev pub width : Key ℤ
width = record { table = codes "search"; name = codes "width"; form = length_from 1 10000000 }

abbrev pub max_age : Key ℕ
max_age = record { table = codes "search"; name = codes "max_age"; form = count 1 14400 }

-- whether rows are renewed for smaller boxes; it may be absent
abbrev pub renew : Key Bool
renew = record { table = codes "search"; name = codes "renew"; form = truth }

-- whether pairs of rows show boxes empty too; it may be absent
abbrev pub pairs : Key Bool
pairs = record { table = codes "search"; name = codes "pairs"; form = truth }

-- along which directions bounds are written, where there are pairs; it may be absent
abbrev pub directions : Bool → Key DirectionsValue
directions pairs =
    record { table = codes "search"; name = codes "directions"; form = directions_with pairs }

abbrev pub signal_mode : Key Mode
signal_mode = record { table = codes "signal"; name = codes "mode"; form = mode_word }

abbrev pub signal_codes : Mode → Key Signal
signal_codes mode = record { table = codes "signal"; name = codes "codes"; form = code_list mode }

-- amounts of at most 1 km
abbrev pub bound : List ℕ → Key (ℤ × ℤ)
bound name = record { table = codes "bounds"; name = name; form = errors 1000000 }

abbrev pub receiver : Key (ℤ × ℤ)
receiver = bound (codes "receiver")

abbrev pub orbit_clock : Key (ℤ × ℤ)
orbit_clock = bound (codes "orbit_clock")

abbrev pub ionosphere : Key (ℤ × ℤ)
ionosphere = bound (codes "ionosphere")

abbrev pub troposphere : Key (ℤ × ℤ)
troposphere = bound (codes "troposphere")

-- of the troposphere's delay at the zenith: amounts of at most 10 m, and it may be absent
abbrev pub zenith : Key (ℤ × ℤ)
zenith = record { table = codes "bounds"; name = codes "zenith"; form = errors 10000 }

-- of the ionosphere's delay at the vertical: amounts of at most 100 m, and it may be absent
abbrev pub vertical : Key (ℤ × ℤ)
vertical = record { table = codes "bounds"; name = codes "vertical"; form = errors 100000 }

-- the message of Galileo whose records are used; it may be absent, and then it is F/NAV
abbrev pub galileo_message : Key Message
galileo_message = record { table = codes "galileo"; name = codes "message"; form = message_word }

-- codes of Galileo satellites, on E1 and E5a by F/NAV, on E1 and E5b or on E1 alone by I/NAV
abbrev pub galileo_codes : Mode → Message → Key Signal
galileo_codes mode message =
    record { table = codes "galileo"; name = codes "codes"; form = galileo_list mode message }

-- c times the difference of the two system times: amounts of at most 1 km
abbrev pub galileo_offset : Key (ℤ × ℤ)
galileo_offset = record { table = codes "galileo"; name = codes "offset"; form = errors 1000000 }

-- the greatest speed of the receiver, in mm/s: up to 1 km/s, and it may be absent
abbrev pub speed : Key ℕ
speed = record { table = codes "motion"; name = codes "speed"; form = count 0 1000000 }

-- whether a track begins anew behind an epoch that kept no box, where there is a speed; it may be
-- absent
abbrev pub restart : Bool → Key Bool
restart moves =
    record { table = codes "motion"; name = codes "restart"; form = truth_with moves }

-- where a station stands
abbrev pub station_place : Key Centre
station_place = record { table = codes "station"; name = codes "place"; form = ground_place }

-- how far, in s, its epochs may be from those of the receiver: up to 600, and together with the age
-- of records up to 14,400
abbrev pub station_age : ℕ → Key ℕ
station_age records =
    record { table = codes "station"; name = codes "age"; form = count 1 (min 600 (14400 - records)) }

-- the letter of the system and two digits
abbrev pub satellite_name : Sat → List ℕ
satellite_name sat = sat.system ∷ (48 + sat.number / 10) ∷ (48 + sat.number % 10) ∷ []

abbrev pub satellite : Sat → Key (ℤ × ℤ)
satellite sat =
    record { table = codes "satellite"; name = satellite_name sat; form = errors 1000000 }

-- those of a system, from a number up to 99
unfoldable pub sats_from : ℕ → ℕ → List Sat
sats_from system number =
    map (λ n. record { system = system; number = n }) (range_with_len number (100 - number))

-- `G01` to `G99`, and before them `E01` to `E99` where the table `galileo` is there
abbrev pub galileo_sats : Bool → List Sat
galileo_sats false = []
galileo_sats true = sats_from 69 1

abbrev pub listed_sats : Bool → List Sat
listed_sats both = galileo_sats both ++ sats_from 71 1

-- ---- their tests

-- a printed name, and the fault that is found there
pub record Test : Type 0 where
  pub key : List ℕ
  pub fault : Option Fault

abbrev pub fault_in : {V : Type 0} → Result V Fault → Option Fault
fault_in (Ok v) = None
fault_in (Err fault) = Some fault

-- a key that has to be there
abbrev pub test : {V : Type 0} → Key V → Members → Test
test key tree = record { key = printed key; fault = fault_in (value_of key tree) }

-- the codes go by the mode; where that has a fault of its own, it comes first
abbrev pub mode_or_single : Result Mode Fault → Mode
mode_or_single (Ok mode) = mode
mode_or_single (Err fault) = Single

abbrev pub mode_of : Members → Mode
mode_of tree = mode_or_single (value_of signal_mode tree)

abbrev pub codes_key : Members → Key Signal
codes_key tree = signal_codes (mode_of tree)

abbrev pub signal_tests : Members → List Test
signal_tests tree = test signal_mode tree ∷ test (codes_key tree) tree ∷ []

-- what is read at a key that may be absent from its table
abbrev pub some_of : {V : Type 0} → Result V Fault → Result (Option V) Fault
some_of (Ok v) = Ok (Some v)
some_of (Err fault) = Err fault

abbrev pub optional_in : {V : Type 0} → Key V → Option Data → Result (Option V) Fault
optional_in key None = Ok None
optional_in key (Some d) = some_of (key.form d)

abbrev pub optional : {V : Type 0} → Key V → Members → Result (Option V) Fault
optional key members = optional_in key (get_member key.name members)

abbrev pub test_optional : {V : Type 0} → Members → Key V → Test
test_optional members key = record { key = printed key; fault = fault_in (optional key members) }

-- what stands in a tree at a key that may be absent, with its table or without
abbrev pub if_there : Result Data Fault → Result (Option Data) Fault
if_there (Ok d) = Ok (Some d)
if_there (Err Missing) = Ok None
if_there (Err fault) = Err fault

abbrev pub optional_from : {V : Type 0} → Key V → Result (Option Data) Fault
    → Result (Option V) Fault
optional_from key (Ok found) = optional_in key found
optional_from key (Err fault) = Err fault

-- what is read at it
abbrev pub optional_at : {V : Type 0} → Key V → Members → Result (Option V) Fault
optional_at key tree = optional_from key (if_there (data_at key.table key.name tree))

abbrev pub test_optional_at : {V : Type 0} → Key V → Members → Test
test_optional_at key tree = record { key = printed key; fault = fault_in (optional_at key tree) }

abbrev pub search_tests : Members → List Test
search_tests tree =
    test centre tree ∷ test half tree ∷ test outliers tree ∷ test bisections tree ∷ test width tree
    ∷ test max_age tree ∷ test_optional_at renew tree ∷ test_optional_at pairs tree ∷ []

-- a truth value, false where its key is absent
abbrev pub or_false : Result (Option Bool) Fault → Result Bool Fault
or_false (Ok None) = Ok false
or_false (Ok (Some b)) = Ok b
or_false (Err fault) = Err fault

abbrev pub truth_at : Key Bool → Members → Result Bool Fault
truth_at key tree = or_false (optional_at key tree)

-- directions go by the pairs; where these have a fault of their own, it comes first
abbrev pub true_in : Result Bool Fault → Bool
true_in (Ok b) = b
true_in (Err fault) = false

abbrev pub directions_key : Members → Key DirectionsValue
directions_key tree = directions (true_in (truth_at pairs tree))

abbrev pub directions_tests : Members → List Test
directions_tests tree = test_optional_at (directions_key tree) tree ∷ []

abbrev pub bounds_tests : Members → List Test
bounds_tests tree =
    test receiver tree ∷ test orbit_clock tree ∷ test ionosphere tree ∷ test troposphere tree
    ∷ test_optional_at zenith tree ∷ test_optional_at vertical tree ∷ []

-- The table of Galileo may be absent. In single mode none is right by F/NAV.
abbrev pub has_galileo : Members → Bool
has_galileo tree = is_some (get_member (codes "galileo") tree)

abbrev pub not_in_single : Option Members → Result Signal Fault
not_in_single None = Err WrongKind
not_in_single (Some _) = Err Outside

-- the message in the table; where that is no table, the codes tell of it
abbrev pub message_there : Option Data → Result Message Fault
message_there None = Ok Fnav
message_there (Some d) = galileo_message.form d

abbrev pub message_in : Option Members → Result Message Fault
message_in None = Ok Fnav
message_in (Some members) = message_there (get_member (codes "message") members)

-- the codes go by the mode and the message; where that has a fault of its own, it comes first
abbrev pub message_or_fnav : Result Message Fault → Message
message_or_fnav (Ok message) = message
message_or_fnav (Err fault) = Fnav

-- F/NAV is no message for one code
abbrev pub lacks_codes : Mode → Message → Bool
lacks_codes Single Fnav = true
lacks_codes Single Inav = false
lacks_codes Dual message = false

-- the tests of the other keys
abbrev pub galileo_keys : Mode → Message → Members → List Test
galileo_keys mode message tree =
    test (galileo_codes mode message) tree ∷ test galileo_offset tree ∷ []

abbrev pub galileo_tests_with : Mode → Message → Data → Members → List Test
galileo_tests_with mode message d tree =
    cond (lacks_codes mode message)
    (record { key = printed (galileo_codes mode message); fault = fault_in (not_in_single (as_table d)) }
    ∷ [])
    (galileo_keys mode message tree)

abbrev pub galileo_tests_by : Mode → Result Message Fault → Data → Members → List Test
galileo_tests_by mode message d tree =
    record { key = printed galileo_message; fault = fault_in message }
    ∷ galileo_tests_with mode (message_or_fnav message) d tree

abbrev pub galileo_tests_in : Option Data → Members → List Test
galileo_tests_in None tree = []
galileo_tests_in (Some d) tree = galileo_tests_by (mode_of tree) (message_in (as_table d)) d tree

abbrev pub galileo_tests : Members → List Test
galileo_tests tree = galileo_tests_in (get_member (codes "galileo") tree) tree

-- the message of a tree
abbrev pub message_from : Option Data → Result Message Fault
message_from None = Ok Fnav
message_from (Some d) = message_in (as_table d)

abbrev pub message_at : Members → Result Message Fault
message_at tree = message_from (get_member (codes "galileo") tree)

-- The table of the receiver's motion may be absent too. Beginning anew goes by the speed; where that
-- has a fault of its own, it comes first.
abbrev pub is_there : {V : Type 0} → Result (Option V) Fault → Bool
is_there (Ok found) = is_some found
is_there (Err fault) = false

abbrev pub restart_key : Members → Key Bool
restart_key tree = restart (is_there (optional_at speed tree))

abbrev pub motion_tests : Members → List Test
motion_tests tree = test_optional_at speed tree ∷ test_optional_at (restart_key tree) tree ∷ []

-- The table of a station may be absent; where it is there both keys are needed. Its age goes by that
-- of records; where that has a fault of its own, it comes first.
abbrev pub age_or_none : Result ℕ Fault → ℕ
age_or_none (Ok age) = age
age_or_none (Err fault) = 0

abbrev pub records_age : Members → ℕ
records_age tree = age_or_none (value_of max_age tree)

abbrev pub station_keys : ℕ → Members → List Test
station_keys records tree = test station_place tree ∷ test (station_age records) tree ∷ []

abbrev pub station_tests_in : Option Data → Members → List Test
station_tests_in None tree = []
station_tests_in (Some d) tree = station_keys (records_age tree) tree

abbrev pub station_tests : Members → List Test
station_tests tree = station_tests_in (get_member (codes "station") tree) tree

-- and so may that of the satellites
abbrev pub satellites_in : Option Data → Result Members Fault
satellites_in None = Ok no_members
satellites_in (Some d) = ok_or (as_table d) WrongKind

abbrev pub satellites : Members → Result Members Fault
satellites tree = satellites_in (get_member (codes "satellite") tree)

abbrev pub own_tests : Members → List Sat → List Test
own_tests members sats = map (λ sat. test_optional members (satellite sat)) sats

abbrev pub satellite_tests_in : Bool → Result Members Fault → List Test
satellite_tests_in both (Ok members) = own_tests members (listed_sats both)
satellite_tests_in both (Err fault) = record { key = codes "satellite"; fault = Some fault } ∷ []

abbrev pub satellite_tests : Members → List Test
satellite_tests tree = satellite_tests_in (has_galileo tree) (satellites tree)

-- all of them
abbrev pub tests : Members → List Test
tests tree =
    search_tests tree
    ++ (directions_tests tree
    ++ (signal_tests tree
    ++ (bounds_tests tree
    ++ (galileo_tests tree
    ++ (motion_tests tree
    ++ (station_tests tree
    ++ satellite_tests tree))))))

-- the first of them that finds a fault
abbrev pub first_or : Option Fault → List ℕ → Option Found → Option Found
first_or None key later = later
first_or (Some fault) key later = Some (record { fault = fault; key = key })

abbrev pub first_found : List Test → Option Found
first_found [] = None
first_found (t ∷ more) = first_or t.fault t.key (first_found more)
