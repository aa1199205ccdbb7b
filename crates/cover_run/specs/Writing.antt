-- How a log is written and its report printed.
use Rattle.std.specs.Prelude.{◌≡◌, ◌⊎◌, ℕ, true, List, Some, Result, Ok, Err}
use Rattle.input_files.specs.Reading.{LeavesFiles, NamedSlots, Opens}
use Rattle.input_files.specs.Statuses.{status_of}
use Rattle.input_files.specs.declared.notice.Notice.{Notice}
use Rattle.input_files.specs.declared.notice.Notice.TheVariants as notice
use Rattle.input_files.specs.declared.status.Status.{Status}
use Rattle.input_files.specs.declared.status.Status.TheVariants as status
use Rattle.log_writer.specs.Sizes.{HasRoom}
use Rattle.log_writer.specs.declared.fault.WriteFault.{WriteFault}
use Rattle.log_writer.specs.declared.fault.WriteFault.TheVariants as why
use Rattle.log_writer.specs.Writing.{Trust}
use Rattle.outer_io.specs.Causes.{Rose}
use Rattle.outer_io.specs.Taken.{TakenBy}
use Rattle.outer_io.specs.Told.{Openings, opened}
use Rattle.outer_io.specs.declared.shelf.Phase.{Phase}
use Rattle.outer_io.specs.declared.slots.Slot.TheVariants as slot
use Rattle.cover_run.specs.Worlds.{World, Says, Rewrites}

-- why LOG and the report weren't written to their end; the log's limit was this
abbrev pub notice_of_fault : ℕ → WriteFault → Notice
notice_of_fault limit why.Log = notice.LogFault
notice_of_fault limit why.Out = notice.OutFault
notice_of_fault limit why.Full = notice.LogFull limit
notice_of_fault limit why.NoMemory = notice.NoMemory

-- the writer's answer
abbrev pub Answer : Type 0
Answer = Result (Unit {0}) WriteFault

abbrev pub status_of_writing : ℕ → Answer → Status
status_of_writing limit (Ok done) = status.Done
status_of_writing limit (Err fault) = status_of (notice_of_fault limit fault)

-- the files to read were opened in turn, and then the log of this name, and no other name
abbrev pub OpensLog : NamedSlots → (log : List ℕ) → Openings → Openings → Type 0
OpensLog reads log old new =
    (mid : Openings) × (phase : Phase) × Opens reads true old mid ×
    (new ≡ opened slot.Log log phase mid)

module _ (name : List ℕ) (before after : World) (trust : Trust) where
  -- a device that failed has counted it, and isn't reliable
  abbrev pub IsCause : WriteFault → Type 0
  IsCause why.Log = Rose before.shelf.write_faults after.shelf.write_faults × (trust.log (Some name)
      → ⊥)
  IsCause why.Out = Rose before.out.faults after.out.faults × (trust.out → ⊥)
  IsCause why.Full = Unit {0}
  IsCause why.NoMemory = Unit {0}

  -- the fault was said, and nothing where there was none
  abbrev pub SaysEnd : ℕ → Answer → Type 0
  SaysEnd limit (Ok done) = after.err ≡ before.err
  SaysEnd limit (Err fault) = Says before.err after.err (notice_of_fault limit fault) × IsCause
      fault

  -- The log couldn't be created. Nothing was written or printed.
  pub record CreatesNone (reads : NamedSlots) (s : Status) : Type 0 where
    pub status : s ≡ status.WriteFault
    pub leaves : LeavesFiles before.shelf after.shelf
    pub out : after.out ≡ before.out
    pub openings : OpensLog reads name before.shelf.openings after.shelf.openings
    pub cause : IsCause why.Log
    pub said : Says before.err after.err notice.LogFault

  -- It was created. It and `out` got what the writer's answer says, within the limit or as far as
  -- it goes.
  -- A full log had less room than the most bytes.
  pub record WritesLog (reads : NamedSlots) (limit most : ℕ)
      (IsText : Answer → (bytes said : List ℕ) → Type 0) (s : Status) : Type 0 where
    pub answer : Answer
    pub status : s ≡ status_of_writing limit answer
    pub bytes : List ℕ
    pub said : List ℕ
    pub text : IsText answer bytes said
    pub log : Rewrites before.shelf after.shelf name bytes
    pub report : TakenBy before.out after.out said
    pub room : HasRoom limit most answer
    pub openings : OpensLog reads name before.shelf.openings after.shelf.openings
    pub ends : SaysEnd limit answer

  abbrev pub Writes : (reads : NamedSlots) → (limit most : ℕ)
      → (Answer → (bytes said : List ℕ) → Type 0) → Status → Type 0
  Writes reads limit most IsText s = CreatesNone reads s ⊎ WritesLog reads limit most IsText s
