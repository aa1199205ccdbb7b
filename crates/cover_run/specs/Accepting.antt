-- A run of `check` behind one of `solve`, on the same files and epochs; and one of `retrack` behind
-- one of `track`.
use Rattle.std.specs.Prelude.{◌≡◌, ◌≢◌, Bool, Some, IfSome}
use Rattle.command_words.specs.Commands as words
use Rattle.input_files.specs.declared.limits.Limits.{Limits}
use Rattle.input_files.specs.declared.status.Status.{Status}
use Rattle.input_files.specs.declared.status.Status.TheVariants as status
use Rattle.log_writer.specs.Writing.{Trust}
use Rattle.outer_io.specs.Told.{Files, files_of}
use Rattle.cover_run.specs.Runs.{Quietly, RunOf, Task, checking, rechecking, solving, tracking}
use Rattle.cover_run.specs.Worlds.{World}

-- none of the files is the log
pub record AreApart (names : words.Files) : Type 0 where
  pub obs : names.obs ≢ names.log
  pub nav : names.nav ≢ names.log
  pub settings : names.settings ≢ names.log
  pub station : IfSome names.station (λ station. station ≢ names.log)
  pub after : IfSome names.after (λ after. after ≢ names.log)

-- the first did its job to the end where the files were told, and the second found the files as
-- they were left, and ended so
module _ {V W : Type 0} (first : Task V) (second : Task W) (names : words.Files) where
  pub record RunsThen (before solved kept after : World) (solver checker : Trust)
      (s : Status) : Type 0 where
    pub told : Files
    pub are_told : files_of before.shelf ≡ Some told
    pub apart : AreApart names
    pub solves : RunOf first before solved solver status.Done
    pub keeps : files_of kept.shelf ≡ files_of solved.shelf
    pub checks : RunOf second kept after checker s

  -- the first may have been quiet
  abbrev pub RunsQuietlyThen : (before solved kept after : World) → (solver checker : Trust)
      → Status → Type 0
  RunsQuietlyThen before solved kept after solver checker s = (quiet : Bool)
      × Quietly quiet (λ b a t. RunsThen b a kept after t checker s) before solved solver

-- with the same words and limits
module _ (limits : Limits) (names : words.Files) where
  abbrev pub SolvesThenChecks : (before solved kept after : World) → (solver checker : Trust)
      → Status → Type 0
  SolvesThenChecks = RunsQuietlyThen (solving limits names) (checking limits names) names

  abbrev pub TracksThenRechecks : (before tracked kept after : World)
      → (solver checker : Trust) → Status → Type 0
  TracksThenRechecks = RunsQuietlyThen (tracking limits names) (rechecking limits names) names
