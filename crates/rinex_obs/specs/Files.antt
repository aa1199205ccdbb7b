-- Observation files: what is read from the lines of a file, or its first fault.
use Rattle.std.specs.Prelude.{ℕ, ◌≡◌, Bool, true, false, ◌&&◌, nat_le, List, [], Option, None, Some, Result, Ok, Err}
use Rattle.std.specs.List.{filter}
use Rattle.rinex_text.specs.Bodies.{counted}
use Rattle.rinex_text.specs.Faults.{then, gives}
use Rattle.rinex_text.specs.Headers.{version_by}
use Rattle.rinex_text.specs.Lines.{TextLine, lines_of}
use Rattle.rinex_text.specs.declared.fault.Refusal.{Refusal}
use Rattle.grid_model.specs.declared.boxes.Pos.{Pos}
use Rattle.gnss_model.specs.declared.satellites.Signal.{Signal}
use Rattle.rinex_obs.specs.Header.{Header, are_both, header_lines}
use Rattle.rinex_obs.specs.declared.sought.Sought.{Sought}
use Rattle.rinex_obs.specs.Epochs.{Observed, epochs_from}

-- the position of the header, where it is wanted, and the epochs with the satellites that are read
pub record Observations : Type 0 where
  pub position : Option Pos
  pub epochs : List Observed

-- before the first line nothing is known
abbrev pub unread : Header
unread = record { gps = None; galileo = None; position = None }

-- the observations of a file, whose times have to rise or needn't, or its first fault
abbrev pub obs_file_by : Bool → Sought → Bool → List TextLine → Result Observations Refusal →
    Type 0
obs_file_by rising sought position lines =
    then (version_by (are_both sought) 79 lines) (λ version.
    then (header_lines sought position unread version.number version.lines) (λ start.
    then (epochs_from rising start.wanted [] start.behind.number 0 (counted start.behind.lines))
    (λ epochs.
    gives (record { position = start.position; epochs = epochs }))))

-- the text is an observation file with these observations
abbrev pub IsObsFileBy : Bool → Sought → Bool → List ℕ → Observations → Type 0
IsObsFileBy rising sought position text observations =
    obs_file_by rising sought position (lines_of text) (Ok observations)

-- the text is none, and this is its first fault
abbrev pub IsFirstFaultBy : Bool → Sought → Bool → List ℕ → Refusal → Type 0
IsFirstFaultBy rising sought position text refusal =
    obs_file_by rising sought position (lines_of text) (Err refusal)

-- ---- of a receiver, whose times may come in any order

abbrev pub obs_file_of : Sought → Bool → List TextLine → Result Observations Refusal → Type 0
obs_file_of sought position lines answer = obs_file_by false sought position lines answer

abbrev pub IsObsFileOf : Sought → Bool → List ℕ → Observations → Type 0
IsObsFileOf sought position text observations =
    IsObsFileBy false sought position text observations

abbrev pub IsFirstFaultOf : Sought → Bool → List ℕ → Refusal → Type 0
IsFirstFaultOf sought position text refusal = IsFirstFaultBy false sought position text refusal

-- ---- of a station, whose times rise

abbrev pub station_file : Sought → Bool → List TextLine → Result Observations Refusal → Type 0
station_file sought position lines answer = obs_file_by true sought position lines answer

abbrev pub IsStationFile : Sought → Bool → List ℕ → Observations → Type 0
IsStationFile sought position text observations =
    IsObsFileBy true sought position text observations

abbrev pub IsFirstStationFault : Sought → Bool → List ℕ → Refusal → Type 0
IsFirstStationFault sought position text refusal =
    IsFirstFaultBy true sought position text refusal

-- ---- with some of the epochs

-- the epoch's number is from the one to the other
abbrev pub is_between : (from to : ℕ) → Observed → Bool
is_between from to epoch = nat_le from epoch.index && nat_le epoch.index to

-- of the observations of a file, the position and these epochs
abbrev pub between : (from to : ℕ) → Observations → Observations
between from to all =
    record { position = all.position; epochs = filter (is_between from to) all.epochs }

-- these are so of such observations
abbrev pub AreBetween : (from to : ℕ) → (Observations → Type 0) → Observations → Type 0
AreBetween from to Are kept = (all : Observations) × Are all × (kept ≡ between from to all)

-- ---- with the satellites of GPS

abbrev pub alone : Signal → Sought
alone signal = record { gps = signal; galileo = None }

abbrev pub obs_file : Signal → Bool → List TextLine → Result Observations Refusal → Type 0
obs_file signal position lines answer = obs_file_of (alone signal) position lines answer

abbrev pub IsObsFile : Signal → Bool → List ℕ → Observations → Type 0
IsObsFile signal position text observations = IsObsFileOf (alone signal) position text observations

abbrev pub IsFirstFault : Signal → Bool → List ℕ → Refusal → Type 0
IsFirstFault signal position text refusal = IsFirstFaultOf (alone signal) position text refusal

-- ---- with those of both systems

abbrev pub with_galileo : Signal → Signal → Sought
with_galileo gps galileo = record { gps = gps; galileo = Some galileo }
