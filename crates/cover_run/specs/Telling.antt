-- How a verdict is told.
use Rattle.std.specs.Prelude.{◌≡◌, ◌⊎◌, ℕ, List}
use Rattle.input_files.specs.declared.notice.Notice.TheVariants as notice
use Rattle.input_files.specs.declared.status.Status.{Status}
use Rattle.input_files.specs.declared.status.Status.TheVariants as status
use Rattle.outer_io.specs.Causes.{Rose}
use Rattle.outer_io.specs.Taken.{SinkState, TakenBy, TakenPrefix}
use Rattle.cover_run.specs.Worlds.{Says}

-- `out` and `err`
pub record Sinks : Type 0 where
  pub out : SinkState
  pub err : SinkState

abbrev pub sinks : SinkState → SinkState → Sinks
sinks out err = record { out = out; err = err }

-- the line was printed, and nothing else
abbrev pub Prints : Sinks → Sinks → List ℕ → Type 0
Prints before after line = TakenBy before.out after.out line × (after.err ≡ before.err)

-- a write to `out` failed behind the first bytes of the line
pub record Breaks (before after : Sinks) (reliable : Type 0) (line : List ℕ) : Type 0 where
  pub prefix : TakenPrefix before.out after.out line
  pub rose : Rose before.out.faults after.out.faults
  pub unreliable : reliable → ⊥
  pub said : Says before.err after.err notice.OutFault

-- the line was printed, and this is the status; or a write has failed
abbrev pub TellsLine : Status → List ℕ → (before after : Sinks) → Type 0 → Status → Type 0
TellsLine verdict line before after reliable s = ((s ≡ verdict) × Prints before after line)
    ⊎ ((s ≡ status.WriteFault) × Breaks before after reliable line)

-- A line that says yes or one that says no was printed, as far as `out` took it, or memory ran out.
module _ (Yes No : List ℕ → Type 0) (before after : Sinks) (reliable : Type 0) where
  abbrev pub Tells : Status → Type 0
  Tells status.Done = (line : List ℕ) × Yes line × Prints before after line
  Tells status.No = (line : List ℕ) × No line × Prints before after line
  Tells status.WriteFault =
      (line : List ℕ) × (Yes line ⊎ No line) × Breaks before after reliable line
  Tells status.NoMemory =
      Says before.err after.err notice.NoMemory × (after.out ≡ before.out)
  Tells status.Usage = ⊥
  Tells status.Refused = ⊥
  Tells status.ReadFault = ⊥
  Tells status.LogFull = ⊥
