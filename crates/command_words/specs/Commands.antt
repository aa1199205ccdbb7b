-- The command that the words after the program's name ask for.
use Rattle.std.specs.Prelude.{ℕ, Bool, false, not, List, Option, Some, None, option_map, codes}
use Rattle.std.specs.Prelude.{if◌then◌else◌}
use Rattle.std.specs.Option.{option_and_then}
use Rattle.std.specs.Str.{bytes_eq}
use Rattle.clap.specs.Walk.{Text, Row, first_of, is_empty}
use Rattle.clap.specs.Simple.{subcommand_of}
use Rattle.clap.specs.Faults.{fault_of}
use Rattle.command_words.specs.Program.{program}
use Rattle.command_words.specs.Numbers.{epoch_or, last_epoch, seed_number, count_number}

-- the epochs with these numbers, and those between
pub record Epochs : Type 0 where
  pub from : ℕ
  pub to : ℕ

-- the names of files, one of a station where it is given, one of an earlier log where a track goes
-- on behind it, and the epochs that are taken
pub record Files : Type 0 where
  pub obs : Text
  pub nav : Text
  pub settings : Text
  pub station : Option Text
  pub log : Text
  pub after : Option Text
  pub epochs : Epochs

-- a quiet one prints no report
pub data Command : Type 0 where
  Judge : (log : Text) → Command
  Pave : (rows log : Text) → (quiet : Bool) → Command
  Solve : Files → (quiet : Bool) → Command
  Check : Files → Command
  Track : Files → (quiet : Bool) → Command
  Retrack : Files → Command
  Guard : Files → (zones : Text) → (tracked : Bool) → Command
  Make : (seed epochs : ℕ) → Command

-- ---- a command from its texts. Where clap takes the words all of them are there
-- (`Stated.TakenIsCommand`), so none comes by a wrong number alone

abbrev pub judge_of : Option Text → Option Command
judge_of (Some log) = Some (Judge log)
judge_of None = None

abbrev pub pave_of : Option Text → Option Text → Bool → Option Command
pave_of (Some rows) (Some log) quiet = Some (Pave rows log quiet)
pave_of _ _ _ = None

-- the defaults are the first and the last number that an epoch can have
abbrev pub epochs_of : Option ℕ → Option ℕ → Option Epochs
epochs_of (Some from) (Some to) = Some (record { from = from; to = to })
epochs_of _ _ = None

abbrev pub epochs_by : Option Text → Option Text → Option Epochs
epochs_by from to = epochs_of (epoch_or 1 from) (epoch_or last_epoch to)

abbrev pub files_of : Option Text → Option Text → Option Text → Option Text → Option Epochs
    → (station after : Option Text) → Option Files
files_of (Some obs) (Some nav) (Some settings) (Some log) (Some epochs) station after =
    Some (record {
      obs = obs;
      nav = nav;
      settings = settings;
      station = station;
      log = log;
      after = after;
      epochs = epochs;
    })
files_of _ _ _ _ _ _ _ = None

-- what clap keeps of a flag says whether it is there
abbrev pub is_said : Option Text → Bool
is_said None = false
is_said (Some text) = bytes_eq text (codes "true")

-- an earlier log without a track, which could go on behind it
abbrev pub is_alone : (after : Option Text) → (tracked : Bool) → Bool
is_alone None tracked = false
is_alone (Some after) tracked = not tracked

abbrev pub guard_of : Option Files → Option Text → Bool → Option Command
guard_of (Some files) (Some zones) tracked =
    if is_alone files.after tracked then None else Some (Guard files zones tracked)
guard_of _ _ _ = None

abbrev pub make_of : Option ℕ → Option ℕ → Option Command
make_of (Some seed) (Some epochs) = Some (Make seed epochs)
make_of _ _ = None

-- ---- the same from what clap's matches hold

abbrev pub judge_by : List Row → Option Command
judge_by rows = judge_of (first_of (codes "log") rows)

abbrev pub is_quiet : List Row → Bool
is_quiet rows = is_said (first_of (codes "quiet") rows)

abbrev pub pave_by : List Row → Option Command
pave_by rows =
    pave_of (first_of (codes "rows") rows) (first_of (codes "log") rows) (is_quiet rows)

abbrev pub files_by : (after : Option Text) → List Row → Option Files
files_by after rows =
    files_of (first_of (codes "obs") rows) (first_of (codes "nav") rows)
    (first_of (codes "settings") rows) (first_of (codes "log") rows)
    (epochs_by (first_of (codes "from") rows) (first_of (codes "to") rows))
    (first_of (codes "station") rows) after

abbrev pub track_files_by : List Row → Option Files
track_files_by rows = files_by (first_of (codes "after") rows) rows

abbrev pub solve_by : List Row → Option Command
solve_by rows = option_map (λ files. Solve files (is_quiet rows)) (files_by None rows)

abbrev pub track_by : List Row → Option Command
track_by rows = option_map (λ files. Track files (is_quiet rows)) (track_files_by rows)

abbrev pub guard_by : List Row → Option Command
guard_by rows =
    guard_of (track_files_by rows) (first_of (codes "zones") rows)
    (is_said (first_of (codes "track") rows))

abbrev pub make_by : List Row → Option Command
make_by rows =
    make_of (option_and_then seed_number (first_of (codes "seed") rows))
    (option_and_then count_number (first_of (codes "epochs") rows))

-- of the subcommand with this name
abbrev pub command_by : Text → List Row → Option Command
command_by name rows =
    if bytes_eq name (codes "judge") then judge_by rows
    else (if bytes_eq name (codes "pave") then pave_by rows
    else (if bytes_eq name (codes "solve") then solve_by rows
    else (if bytes_eq name (codes "check") then option_map Check (files_by None rows)
    else (if bytes_eq name (codes "track") then track_by rows
    else (if bytes_eq name (codes "retrack") then option_map Retrack (track_files_by rows)
    else (if bytes_eq name (codes "guard") then guard_by rows
    else (if bytes_eq name (codes "make") then make_by rows else None)))))))

abbrev pub command_said : Option (Text × List Row) → Option Command
command_said None = None
command_said (Some (name, rows)) = command_by name rows

-- none where clap doesn't take the words, or a number hasn't its form and range
abbrev pub command_of : List Text → Option Command
command_of words =
    if is_empty (fault_of program words) then command_said (subcommand_of program words) else None
