-- What a reader of observation files has read.
use Rattle.std.specs.Prelude.{ℕ, ◌≡◌, ◌-◌, ◌*◌, ◌^◌, ◌≤◌, ◌<◌, ◌≤ℤ◌, ◌<ℤ◌, pos, neg_ℤ, List, []}
use Rattle.std.specs.Prelude.{◌∷◌, ◌++◌, length, Option, None, Some, map, option_map, Result, Ok}
use Rattle.std.specs.Prelude.{Err}
use Rattle.exact_decimal.specs.declared.decimal.Decimal.{Decimal}
use Rattle.rinex_text.specs.Reading.{behind_of}
use Rattle.rinex_text.specs.declared.fault.Fault.{Fault}
use Rattle.rinex_text.specs.declared.fault.ReadError.{ReadError}
use Rattle.rinex_text.specs.declared.fault.ReadError.TheVariants.{NoMemory}
use Rattle.rinex_text.specs.declared.lines.Lines.{Lines}
use Rattle.grid_model.specs.declared.boxes.Pos.{Pos}
use Rattle.gnss_model.specs.declared.satellites.Signal.{Signal}
use Rattle.gnss_model.specs.declared.satellites.Signal.TheVariants.{Single, Dual}
use Rattle.rinex_obs.specs.Types.{Code, Types, place_of}
use Rattle.rinex_obs.specs.Header.{Header as Known, CodePlaces, Wanted, Start}
use Rattle.rinex_obs.specs.Epochs.{Observed, Block}
use Rattle.rinex_obs.specs.Files.{Observations}
use Rattle.rinex_obs.specs.declared.found.Found.{Found}
use Rattle.rinex_obs.specs.declared.found.Places.{Places}
use Rattle.rinex_obs.specs.declared.found.WantedPlaces.{WantedPlaces}
use Rattle.rinex_obs.specs.declared.sought.Sought.{Sought}
use Rattle.rinex_obs.specs.declared.head.Head.{Head}
use Rattle.rinex_obs.specs.declared.head.Head.TheVariants.{Epoch, Event}
use Rattle.rinex_obs.specs.declared.header.Header.{Header}
use Rattle.rinex_obs.specs.declared.obs.Obs.{Obs}
use Rattle.rinex_obs.specs.declared.obs.ObsEpoch.{ObsEpoch}
use Rattle.rinex_obs.specs.declared.obs.SatObs.{SatObs}

-- What the reader keeps stands for the value of a definition, or both have the same fault.
abbrev pub Stands : {X Y E : Type 0} → (X → Y → Type 0) → (Result X E → Type 0) → Result Y E →
    Type 0
Stands {X} For reader (Ok kept) = (x : X) × reader (Ok x) × For x kept
Stands For reader (Err e) = reader (Err e)

-- ---- the header

abbrev pub first_code : Signal → Code
first_code (Single code) = code
first_code (Dual first second) = first

abbrev pub second_place : Signal → List Code → Option ℕ
second_place (Single code) codes = None
second_place (Dual first second) codes = place_of second codes

-- in place of the list of types, where the wanted codes stand in it
pub record IsFound (signal : Signal) (types : Types) (found : Found) : Type 0 where
  pub count : found.count ≡ types.count
  pub seen : found.seen ≡ length types.codes
  pub first : found.first ≡ place_of (first_code signal) types.codes
  pub second : found.second ≡ second_place signal types.codes

abbrev pub MayBeFound : Signal → Option Types → Option Found → Type 0
MayBeFound signal None None = Unit {0}
MayBeFound signal None (Some found) = ⊥
MayBeFound signal (Some types) None = ⊥
MayBeFound signal (Some types) (Some found) = IsFound signal types found

-- nothing is known of the types of a system whose codes aren't wanted
abbrev pub AreFoundOf : Option Signal → Option Types → Option Found → Type 0
AreFoundOf None types found = (types ≡ None) × (found ≡ None)
AreFoundOf (Some signal) types found = MayBeFound signal types found

pub record IsHeader (sought : Sought) (known : Known) (kept : Header) : Type 0 where
  pub gps : MayBeFound sought.gps known.gps kept.gps
  pub galileo : AreFoundOf sought.galileo known.galileo kept.galileo
  pub position : kept.position ≡ known.position

abbrev pub code_places : Places → CodePlaces
code_places places = record { first = places.first; second = places.second }

abbrev pub wanted_of : WantedPlaces → Wanted
wanted_of places =
    record { gps = code_places places.gps; galileo = option_map code_places places.galileo }

abbrev pub end_of : Result (WantedPlaces × Option Pos) Fault → Result (Wanted × Option Pos) Fault
end_of (Ok (places, position)) = Ok (wanted_of places, position)
end_of (Err f) = Err f

-- what the reader has read of a header
abbrev pub start_of : WantedPlaces → Option Pos → Lines → Start
start_of places position lines =
    record { wanted = wanted_of places; position = position; behind = behind_of lines }

-- ---- the epochs

-- a number of seconds under 60 with at most 7 decimals, in 10^-7 s
pub record AreTenths (number : Decimal) (tenths : ℕ) : Type 0 where
  pub digits : ℕ
  pub decimals : ℕ
  pub digits_are : number.digits ≡ pos digits
  pub ten_is : number.ten ≡ neg_ℤ (pos decimals)
  pub few : decimals ≤ 7
  pub value : tenths ≡ digits * 10 ^ (7 - decimals)
  pub under : tenths < 600000000

-- the time of an epoch, which is one of so many
abbrev pub IsHeadBehind : ℕ → Head → Type 0
IsHeadBehind count (Epoch tag lines) =
    (pos 0 ≤ℤ tag) × (tag <ℤ pos 4000000000000000000000) × (count < 200000)
IsHeadBehind count (Event labelled lines) = Unit {0}

-- a satellite, or none, behind those before
abbrev pub with_found : List SatObs → Option SatObs → List SatObs
with_found sats None = sats
with_found sats (Some sat) = sats ++ sat ∷ []

abbrev pub with_line : List SatObs → Result (Option SatObs) Fault → Result (List SatObs) Fault
with_line sats (Ok found) = Ok (with_found sats found)
with_line sats (Err f) = Err f

abbrev pub plain_epoch : ObsEpoch → Observed
plain_epoch epoch = record { index = epoch.index; tag = epoch.tag; sats = epoch.sats.items }

abbrev pub plain_epochs : List ObsEpoch → List Observed
plain_epochs epochs = map plain_epoch epochs

abbrev pub block_of : Option ObsEpoch → ℕ → Block
block_of None lines = record { epochs = []; lines = lines }
block_of (Some epoch) lines = record { epochs = plain_epoch epoch ∷ []; lines = lines }

abbrev pub observations_of : Obs → Observations
observations_of obs = record { position = obs.position; epochs = plain_epochs obs.epochs.items }

-- these observations were read, unless memory ran out
abbrev pub GivesObservations : Observations → Result Obs ReadError → Type 0
GivesObservations observations (Ok obs) = observations_of obs ≡ observations
GivesObservations observations (Err e) = e ≡ NoMemory
