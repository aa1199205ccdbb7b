-- Runs over objects in memory of which no call is to fail.
use Rattle.std.specs.Prelude.{◌≡◌, ◌<◌, ◌⊎◌, ℕ, ◌+◌, List, [], length, Option, None, Some, IfSome}
use Rattle.std.specs.Prelude.{is_some, true}
use Rattle.std.specs.FinMap as map
use Rattle.input_files.specs.declared.status.Status.{Status}
use Rattle.input_files.specs.declared.status.Status.TheVariants as status
use Rattle.outer_io.specs.Taken.{SinkState, SinkTold}
use Rattle.outer_io.specs.Told.{Files, ShelfState, Told}
use Rattle.command_words.specs.Commands as words
use Rattle.command_words.specs.Commands.{Command, Judge, Pave, Solve, Check, Track, Retrack, Guard}
use Rattle.command_words.specs.Commands.{Make}

abbrev pub IsThere : Files → List ℕ → Type 0
IsThere files name = is_some (map.get files name) ≡ true

-- those of a receiver, and that of a station and an earlier log where they are named
abbrev pub AreInputsThere : Files → words.Files → Type 0
AreInputsThere files names =
    IsThere files names.settings × IsThere files names.nav × IsThere files names.obs
    × IfSome names.station (IsThere files) × IfSome names.after (IsThere files)

-- the files that are read are there
abbrev pub AreThere : Files → Command → Type 0
AreThere files (Judge log) = IsThere files log
AreThere files (Pave rows log quiet) = IsThere files rows
AreThere files (Solve names quiet) = AreInputsThere files names
AreThere files (Check names) = AreInputsThere files names × IsThere files names.log
AreThere files (Track names quiet) = AreInputsThere files names
AreThere files (Retrack names) = AreInputsThere files names × IsThere files names.log
AreThere files (Guard names zones tracked) =
    AreInputsThere files names × (IsThere files zones × IsThere files names.log)
AreThere files (Make seed epochs) = Unit {0}

-- the file that is written
abbrev pub written_by : Command → Option (List ℕ)
written_by (Judge log) = None
written_by (Pave rows log quiet) = Some log
written_by (Solve names quiet) = Some names.log
written_by (Check names) = None
written_by (Track names quiet) = Some names.log
written_by (Retrack names) = None
written_by (Guard names zones tracked) = None
written_by (Make seed epochs) = None

-- the files are there, the one that is written can be created, and no call is to fail
pub record IsReady (command : Command) (shelf : ShelfState) (out : SinkState) : Type 0 where
  pub told : Told
  pub tells : shelf.told ≡ Some told
  pub there : AreThere told.files command
  pub log : IfSome (written_by command) (λ log. told.terms.log ≡ log)
  pub sure : told.terms.fails ≡ []
  pub out_told : SinkTold
  pub out_tells : out.told ≡ Some out_told
  pub out_sure : out_told.terms.fails ≡ []

-- a shelf has room left
abbrev pub HasShelfRoom : ShelfState → Type 0
HasShelfRoom shelf = (t : Told) → shelf.told ≡ Some t → t.written < t.terms.room

-- it has room for more than so many bytes
abbrev pub HasRoomBeyond : ℕ → ShelfState → Type 0
HasRoomBeyond limit shelf =
    (t : Told) → shelf.told ≡ Some t → t.written + limit < t.terms.room

-- a sink has room left
abbrev pub HasSinkRoom : SinkState → Type 0
HasSinkRoom out = (t : SinkTold) → out.told ≡ Some t → length t.bytes < t.terms.room

-- a file couldn't be read or written
abbrev pub IsFault : Status → Type 0
IsFault s = (s ≡ status.ReadFault) ⊎ (s ≡ status.WriteFault)
