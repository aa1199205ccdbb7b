-- Words of the stated form, and that clap takes no others than a command's.
use Rattle.std.specs.Prelude.{◌≡◌, ◌⊎◌, ◌==◌, ◌++◌, ℕ, Bool, true, false, List, [], ◌∷◌, Option}
use Rattle.std.specs.Prelude.{Some, None, codes}
use Rattle.clap.specs.Walk.{Text, Row, first_of}
use Rattle.clap.specs.Simple.{subcommand_of}
use Rattle.clap.specs.Faults.{fault_of}
use Rattle.command_words.specs.Program.{program}
use Rattle.command_words.specs.Numbers.{seed_number, count_number}
use Rattle.command_words.specs.Commands.{Files, Command, Judge, Pave, Guard, Make, epochs_by}
use Rattle.command_words.specs.Commands.{command_of}

abbrev pub begins_with_dash : Text → Bool
begins_with_dash [] = false
begins_with_dash (byte ∷ more) = byte == 45

abbrev pub IsName : Text → Type 0
IsName text = begins_with_dash text ≡ false

-- the file of a station behind the names, where it is given, and then the other options
abbrev pub station_words : Option Text → List Text → List Text
station_words None others = others
station_words (Some file) others = codes "--station" ∷ file ∷ others

-- the file of an earlier log in front of them, where it is given
abbrev pub after_words : Option Text → List Text → List Text
after_words None others = others
after_words (Some file) others = codes "--after" ∷ file ∷ others

-- these: each at most once, in either order
pub data Options : Type 0 where
  Neither : Options
  From : (from : Text) → Options
  To : (to : Text) → Options
  FromTo : (from to : Text) → Options
  ToFrom : (to from : Text) → Options

abbrev pub option_words : Options → List Text
option_words Neither = []
option_words (From from) = codes "--from" ∷ from ∷ []
option_words (To to) = codes "--to" ∷ to ∷ []
option_words (FromTo from to) = codes "--from" ∷ from ∷ codes "--to" ∷ to ∷ []
option_words (ToFrom to from) = codes "--to" ∷ to ∷ codes "--from" ∷ from ∷ []

abbrev pub from_text : Options → Option Text
from_text Neither = None
from_text (From from) = Some from
from_text (To to) = None
from_text (FromTo from to) = Some from
from_text (ToFrom to from) = Some from

abbrev pub to_text : Options → Option Text
to_text Neither = None
to_text (From from) = None
to_text (To to) = Some to
to_text (FromTo from to) = Some to
to_text (ToFrom to from) = Some to

abbrev pub file_words : Files → Options → List Text
file_words f options =
    f.obs ∷ f.nav ∷ f.settings ∷ f.log
    ∷ station_words f.station (after_words f.after (option_words options))

-- a flag among them: nowhere, or before the options, behind the first, or behind them all
pub data Flag : Type 0 where
  Nowhere : Flag
  Before : Flag
  BehindFirst : Flag
  Behind : Flag

abbrev pub is_given : Flag → Bool
is_given Nowhere = false
is_given Before = true
is_given BehindFirst = true
is_given Behind = true

abbrev pub flagged_words : (word : Text) → Flag → Options → List Text
flagged_words word Nowhere options = option_words options
flagged_words word Before options = word ∷ option_words options
flagged_words word BehindFirst Neither = word ∷ []
flagged_words word BehindFirst (From from) = codes "--from" ∷ from ∷ word ∷ []
flagged_words word BehindFirst (To to) = codes "--to" ∷ to ∷ word ∷ []
flagged_words word BehindFirst (FromTo from to) =
    codes "--from" ∷ from ∷ word ∷ codes "--to" ∷ to ∷ []
flagged_words word BehindFirst (ToFrom to from) =
    codes "--to" ∷ to ∷ word ∷ codes "--from" ∷ from ∷ []
flagged_words word Behind options = option_words options ++ word ∷ []

-- `--quiet` among the words of files
abbrev pub quiet_words : Files → Flag → Options → List Text
quiet_words f flag options =
    f.obs ∷ f.nav ∷ f.settings ∷ f.log
    ∷ station_words f.station (after_words f.after (flagged_words (codes "--quiet") flag options))

-- `--track` among those of files and zones
abbrev pub guard_words : Files → Text → Flag → Options → List Text
guard_words f zones flag options =
    f.obs ∷ f.nav ∷ f.settings ∷ zones ∷ f.log
    ∷ station_words f.station (after_words f.after (flagged_words (codes "--track") flag options))

-- `--quiet` behind the words of rows, where it is given
abbrev pub quiet_if : Bool → List Text
quiet_if true = codes "--quiet" ∷ []
quiet_if false = []

abbrev pub IsNameIfGiven : Option Text → Type 0
IsNameIfGiven None = Unit {0}
IsNameIfGiven (Some text) = IsName text

abbrev pub AreNames : Files → Type 0
AreNames f =
    IsName f.obs × IsName f.nav × IsName f.settings × IsName f.log × IsNameIfGiven f.station
    × IsNameIfGiven f.after

-- ---- words of the stated form ask for their command

abbrev pub JudgeIsTaken : Type 0
JudgeIsTaken = (log : Text) → IsName log → command_of (codes "judge" ∷ log ∷ []) ≡ Some (Judge log)

abbrev pub PaveIsTaken : Type 0
PaveIsTaken = (rows log : Text) (quiet : Bool) → IsName rows → IsName log
    → command_of (codes "pave" ∷ rows ∷ log ∷ quiet_if quiet) ≡ Some (Pave rows log quiet)

-- whether a command takes an earlier log
abbrev pub MayHaveEarlier : (moving : Bool) → Option Text → Type 0
MayHaveEarlier true after = Unit {0}
MayHaveEarlier false after = after ≡ None

-- the numbers of the options are those of the epochs
abbrev pub FilesAreTaken : Text → (moving : Bool) → (Files → Command) → Type 0
FilesAreTaken name moving asked = (files : Files) (options : Options) → AreNames files
    → MayHaveEarlier moving files.after
    → epochs_by (from_text options) (to_text options) ≡ Some files.epochs
    → command_of (name ∷ file_words files options) ≡ Some (asked files)

-- the same of a command that may be quiet
abbrev pub QuietIsTaken : Text → (moving : Bool) → (Files → (quiet : Bool) → Command) → Type 0
QuietIsTaken name moving asked = (files : Files) (flag : Flag) (options : Options) → AreNames files
    → MayHaveEarlier moving files.after
    → epochs_by (from_text options) (to_text options) ≡ Some files.epochs
    → command_of (name ∷ quiet_words files flag options) ≡ Some (asked files (is_given flag))

abbrev pub GuardIsTaken : Type 0
GuardIsTaken = (files : Files) (zones : Text) (flag : Flag) (options : Options) → AreNames files
    → IsName zones → MayHaveEarlier (is_given flag) files.after
    → epochs_by (from_text options) (to_text options) ≡ Some files.epochs
    → command_of (codes "guard" ∷ guard_words files zones flag options)
    ≡ Some (Guard files zones (is_given flag))

abbrev pub MakeIsTaken : Type 0
MakeIsTaken = (seed_text epochs_text : Text) (seed epochs : ℕ)
    → seed_number seed_text ≡ Some seed → count_number epochs_text ≡ Some epochs
    → command_of (codes "make" ∷ seed_text ∷ epochs_text ∷ []) ≡ Some (Make seed epochs)

-- ---- words that clap takes are those of a command

-- each of the words has a text
abbrev pub HaveTexts : List Text → List Row → Type 0
HaveTexts [] rows = Unit {0}
HaveTexts (id ∷ ids) rows = ((text : Text) × (first_of id rows ≡ Some text)) × HaveTexts ids rows

pub record Says (name : Text) (ids : List Text) (said : Option (Text × List Row)) : Type 0 where
  pub rows : List Row
  pub said_is : said ≡ Some (name, rows)
  pub texts : HaveTexts ids rows

abbrev pub file_ids : List Text
file_ids = codes "obs" ∷ codes "nav" ∷ codes "settings" ∷ codes "log" ∷ []

abbrev pub guard_ids : List Text
guard_ids = codes "obs" ∷ codes "nav" ∷ codes "settings" ∷ codes "zones" ∷ codes "log" ∷ []

abbrev pub SaysCommand : Option (Text × List Row) → Type 0
SaysCommand said =
    Says (codes "judge") (codes "log" ∷ []) said
    ⊎ (Says (codes "pave") (codes "rows" ∷ codes "log" ∷ []) said
    ⊎ (Says (codes "solve") file_ids said
    ⊎ (Says (codes "check") file_ids said
    ⊎ (Says (codes "track") file_ids said
    ⊎ (Says (codes "retrack") file_ids said
    ⊎ (Says (codes "guard") guard_ids said
    ⊎ Says (codes "make") (codes "seed" ∷ codes "epochs" ∷ []) said))))))

abbrev pub TakenIsCommand : Type 0
TakenIsCommand = (words : List Text) → fault_of program words ≡ []
    → SaysCommand (subcommand_of program words)
