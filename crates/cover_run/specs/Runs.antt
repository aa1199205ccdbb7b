-- What a run of the program is, by what is asked for.
use Rattle.std.specs.Prelude.{◌≡◌, ◌≢◌, ◌⊎◌, ℕ, Bool, true, false, List, [], ◌∷◌, Option, None}
use Rattle.std.specs.Prelude.{Some}
use Rattle.std.specs.Prelude.{Result, Ok, Err}
use Rattle.command_words.specs.Commands as words
use Rattle.command_words.specs.Commands.{Command, Judge, Pave, Solve, Check, Track, Retrack, Guard}
use Rattle.command_words.specs.Commands.{Make}
use Rattle.input_files.specs.Inputs.{InputsValue, ReadsInputs, ReadsMoving, inputs_value}
use Rattle.input_files.specs.Inputs.{input_files}
use Rattle.input_files.specs.Logs.{log_text, rows_text}
use Rattle.input_files.specs.Reading.{IsBrokenOff, Found, IsOfReading, Named, NeverBreaks, Reading}
use Rattle.input_files.specs.Reading.{NamedSlots, Untouched, valued}
use Rattle.input_files.specs.Statuses.{status_of}
use Rattle.input_files.specs.declared.inputs.Inputs.{Inputs}
use Rattle.input_files.specs.declared.limits.Limits.{Limits}
use Rattle.input_files.specs.declared.notice.Notice.{Notice}
use Rattle.input_files.specs.declared.notice.Notice.TheVariants as notice
use Rattle.input_files.specs.declared.status.Status.{Status}
use Rattle.input_files.specs.declared.status.Status.TheVariants as status
use Rattle.log_writer.specs.Writing.{Trust, trust_of}
use Rattle.outer_io.specs.Taken.{SinkState}
use Rattle.outer_io.specs.Told.{Files, files_of}
use Rattle.outer_io.specs.declared.slots.Slot.TheVariants as slot
use Rattle.paving_log.specs.Values.{log_value}
use Rattle.paving_log.specs.declared.log.Log.{Log}
use Rattle.sat_model.specs.Logs.{LogValue}
use Rattle.cover_run.specs.Checking.{CheckedValue, ReadsChecked, ReadsTracked, checked_value}
use Rattle.cover_run.specs.Checking.{SaysAccepted, SaysRefused, checked_files}
use Rattle.cover_run.specs.Chosen.{chosen_in}
use Rattle.cover_run.specs.Guarding.{GuardedValue, ReadsGuarded, SaysDenied, SaysGuarded}
use Rattle.cover_run.specs.Guarding.{guarded_files, guarded_value}
use Rattle.cover_run.specs.Judging.{SaysJudged, SaysFault, IsJudgedAs}
use Rattle.cover_run.specs.Making.{Makes}
use Rattle.cover_run.specs.Paving.{Paves}
use Rattle.cover_run.specs.Rechecking.{SaysTracked, SaysUntracked}
use Rattle.cover_run.specs.Solving.{Solves}
use Rattle.cover_run.specs.Telling.{Tells, sinks}
use Rattle.cover_run.specs.Tracking.{Tracks}
use Rattle.cover_run.specs.Worlds.{World, Says}
use Rattle.cover_run.specs.declared.checked.Checked.{Checked}
use Rattle.cover_run.specs.declared.guarded.Guarded.{Guarded}

-- ---- a command

-- What a command does: it reads files, and where all are accepted it does its job on what they say.
pub record Task (V : Type 0) : Type 1 where
  -- what the texts stand for
  pub Value : Type 0
  pub value : V → Value
  -- the files that it reads, in their order
  pub files : NamedSlots
  pub reads : Reading Value
  pub Does : V → World → World → Trust → Status → Type 0
  -- the statuses of one who does it, but for faults and want of memory
  pub Suits : Value → Status → Type 0

-- A file wasn't read or accepted: it was said, and nothing was written or printed. No other name
-- was opened than those up to that file's.
pub record Stops (files : NamedSlots) (before after : World) (n : Notice)
    (s : Status) : Type 0 where
  pub status : s ≡ status_of n
  pub ends : IsOfReading n
  pub said : Says before.err after.err n
  pub out : after.out ≡ before.out
  pub shelf : Untouched files false before.shelf after.shelf

module _ {V : Type 0} (task : Task V) (before after : World) (trust : Trust) (s : Status) where
  abbrev pub Ends : Result V Notice → Type 0
  Ends (Ok v) = task.Does v before after trust s
  Ends (Err n) = Stops task.files before after n s

  -- each cause has its status, where the files give this
  abbrev pub Fits : Result task.Value Notice → Type 0
  Fits (Ok w) = task.Suits w s
  Fits (Err n) = s ≡ status_of n

  pub record RunOf : Type 0 where
    -- What was read is what the files give, unless a counted fault or want of memory broke it off;
    pub read : Result V Notice
    pub found : Found task.reads before.shelf after.shelf trust.log (valued task.value read)
    -- the status has its cause in it,
    pub no_usage : s ≢ status.Usage
    pub ends : Ends read
    -- and what told files give has its status, unless a fault or want of memory comes first.
    pub exact : (told : Files) (other : Result task.Value Notice)
        → files_of before.shelf ≡ Some told
        → task.reads NeverBreaks (Some told) other → IsBrokenOff s ⊎ Fits other

-- ---- the commands

-- a verdict was told, and no name but those of the files that were read was opened
module _ (Yes No : List ℕ → Type 0) (files : NamedSlots) (before after : World)
    (trust : Trust) where
  pub record TellsAlone (s : Status) : Type 0 where
    pub told : Tells Yes No (sinks before.out before.err) (sinks after.out after.err) trust.out s
    pub shelf : Untouched files true before.shelf after.shelf

-- the statuses of a verdict, and of a log that was written
abbrev pub IsVerdict : Status → Type 0
IsVerdict s = (s ≡ status.Done) ⊎ (s ≡ status.No)

abbrev pub IsWritten : Status → Type 0
IsWritten s = (s ≡ status.Done) ⊎ (s ≡ status.LogFull)

abbrev pub judging : Limits → (log : List ℕ) → Task Log
judging limits log = record {
  Value = LogValue;
  value = log_value;
  files = (slot.Log, log) ∷ [];
  reads = Named limits log_text log;
  Does = λ read. TellsAlone (SaysJudged (log_value read)) (SaysFault (log_value read))
      ((slot.Log, log) ∷ []);
  Suits = IsJudgedAs;
}

abbrev pub paving : Limits → (rows log : List ℕ) → Task Log
paving limits rows log = record {
  Value = LogValue;
  value = log_value;
  files = (slot.Rows, rows) ∷ [];
  reads = Named limits rows_text rows;
  Does = λ read. Paves limits.log rows log (log_value read);
  Suits = λ rows s. IsWritten s;
}

abbrev pub solving : Limits → words.Files → Task Inputs
solving limits names = record {
  Value = InputsValue;
  value = inputs_value;
  files = input_files names;
  reads = ReadsInputs limits names;
  Does = Solves limits.log names;
  Suits = λ i s. IsWritten s;
}

abbrev pub checking : Limits → words.Files → Task Checked
checking limits names = record {
  Value = CheckedValue;
  value = checked_value;
  files = checked_files names;
  reads = ReadsChecked limits names;
  Does = λ read. TellsAlone (SaysAccepted (chosen_in names) read)
      (SaysRefused (chosen_in names) read) (checked_files names);
  Suits = λ found s. IsVerdict s;
}

-- the same of a receiver that moves
abbrev pub tracking : Limits → words.Files → Task Inputs
tracking limits names = record {
  Value = InputsValue;
  value = inputs_value;
  files = input_files names;
  reads = ReadsMoving limits names;
  Does = Tracks limits.log names;
  Suits = λ i s. IsWritten s;
}

abbrev pub rechecking : Limits → words.Files → Task Checked
rechecking limits names = record {
  Value = CheckedValue;
  value = checked_value;
  files = checked_files names;
  reads = ReadsTracked limits names;
  Does = λ read. TellsAlone (SaysTracked (chosen_in names) read)
      (SaysUntracked (chosen_in names) read) (checked_files names);
  Suits = λ found s. IsVerdict s;
}

-- the verdict of one of both comes first
abbrev pub guarding : Limits → words.Files → (zones : List ℕ) → (tracked : Bool) → Task Guarded
guarding limits names zones tracked = record {
  Value = GuardedValue;
  value = guarded_value;
  files = guarded_files names zones;
  reads = ReadsGuarded tracked limits names zones;
  Does = λ read. TellsAlone (SaysGuarded tracked (chosen_in names) read)
      (SaysDenied tracked (chosen_in names) read) (guarded_files names zones);
  Suits = λ found s. IsVerdict s;
}

-- ---- with no report

-- a sink that takes everything and keeps nothing: none of its writes fails
abbrev pub nowhere : SinkState
nowhere = record { told = None; faults = 0 }

-- with that sink in the place of `out`
abbrev pub muted : World → World
muted w = record w { out = nowhere }

abbrev pub muted_trust : Trust → Trust
muted_trust trust = trust_of trust.log (Unit {0})

-- Who is quiet does the same over a sink that takes everything and keeps nothing. So no fault of
-- `out` ends it, and `out` is as it was.
abbrev pub Quietly : Bool → (World → World → Trust → Type 0) → World → World → Trust → Type 0
Quietly false Does before after trust = Does before after trust
Quietly true Does before after trust =
    Does (muted before) (muted after) (muted_trust trust) × (after.out ≡ before.out)

-- ---- the words

-- this was said, and nothing else was done
abbrev pub OnlySays : Notice → World → World → Status → Type 0
OnlySays n before after s = (s ≡ status_of n) × Says before.err after.err n
    × (after.shelf ≡ before.shelf) × (after.out ≡ before.out)

-- The words ask for this, whether quiet or not. Where they are no command it is said, and nothing
-- else is done.
abbrev pub Obeys : Limits → Option Command → World → World → Trust → Status → Type 0
Obeys limits None before after trust s = OnlySays notice.Usage before after s
Obeys limits (Some (Judge log)) before after trust s =
    RunOf (judging limits log) before after trust s
Obeys limits (Some (Pave rows log quiet)) before after trust s =
    RunOf (paving limits rows log) before after trust s
Obeys limits (Some (Solve names quiet)) before after trust s =
    RunOf (solving limits names) before after trust s
Obeys limits (Some (Check names)) before after trust s =
    RunOf (checking limits names) before after trust s
Obeys limits (Some (Track names quiet)) before after trust s =
    RunOf (tracking limits names) before after trust s
Obeys limits (Some (Retrack names)) before after trust s =
    RunOf (rechecking limits names) before after trust s
Obeys limits (Some (Guard names zones tracked)) before after trust s =
    RunOf (guarding limits names zones tracked) before after trust s
-- this one reads and writes no file
Obeys limits (Some (Make seed epochs)) before after trust s =
    Makes limits.log seed epochs (sinks before.out before.err) (sinks after.out after.err)
    trust.out s
    × (after.shelf ≡ before.shelf)

-- whether the words ask for a log without its report
abbrev pub asks_quiet : Option Command → Bool
asks_quiet (Some (Pave rows log quiet)) = quiet
asks_quiet (Some (Solve names quiet)) = quiet
asks_quiet (Some (Track names quiet)) = quiet
asks_quiet _ = false

-- what they ask for is done, quietly where they say so
abbrev pub ObeysWords : Limits → Option Command → World → World → Trust → Status → Type 0
ObeysWords limits asked before after trust s =
    Quietly (asks_quiet asked) (λ b a t. Obeys limits asked b a t s) before after trust

-- Memory may lack to read the words, whatever they are: then it is said, and nothing else is done.
abbrev pub Runs : Limits → Option Command → World → World → Trust → Status → Type 0
Runs limits asked before after trust s =
    OnlySays notice.NoMemory before after s ⊎ ObeysWords limits asked before after trust s
