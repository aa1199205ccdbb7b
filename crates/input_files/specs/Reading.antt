-- How named files are read, one behind another. Each is accepted or refused before the next.
use Rattle.std.specs.Prelude.{◌≡◌, ◌≢◌, ◌≤◌, ◌<◌, ◌⊎◌, ℕ, Bool, true, false, List, [], ◌∷◌, length}
use Rattle.std.specs.Prelude.{Option, None, Some, Result, Ok, Err, IfErr, is_ok}
use Rattle.std.specs.Option.{option_map}
use Rattle.std.specs.FinMap as map
use Rattle.outer_io.specs.Causes.{Rose}
use Rattle.outer_io.specs.Told.{Files, Openings, ShelfState, files_of, opened, written_of}
use Rattle.outer_io.specs.Told.{terms_of}
use Rattle.outer_io.specs.declared.shelf.Phase.{Phase}
use Rattle.outer_io.specs.declared.shelf.Phase.TheVariants.{Writing}
use Rattle.outer_io.specs.declared.slots.Slot.{Slot}
use Rattle.input_files.specs.Statuses.{status_of}
use Rattle.input_files.specs.declared.limits.Limits.{Limits}
use Rattle.input_files.specs.declared.notice.Notice.{Notice}
use Rattle.input_files.specs.declared.notice.Notice.TheVariants as notice
use Rattle.input_files.specs.declared.role.Role.{Role}
use Rattle.input_files.specs.declared.role.Role.TheVariants as role
use Rattle.input_files.specs.declared.status.Status.{Status}
use Rattle.input_files.specs.declared.status.Status.TheVariants as status

-- ---- answers

-- a fault or want of memory ended the run
abbrev pub IsBrokenOff : Status → Type 0
IsBrokenOff s = (s ≡ status.ReadFault) ⊎ ((s ≡ status.WriteFault) ⊎ (s ≡ status.NoMemory))

abbrev pub IsBroken : {V : Type 0} → Result V Notice → Type 0
IsBroken (Ok v) = ⊥
IsBroken (Err n) = IsBrokenOff (status_of n)

-- the same value, or an end of the same status
abbrev pub IsSameAnswer : {V : Type 0} → Result V Notice → Result V Notice → Type 0
IsSameAnswer (Ok v) (Ok w) = v ≡ w
IsSameAnswer (Ok v) (Err n) = ⊥
IsSameAnswer (Err n) (Ok v) = ⊥
IsSameAnswer (Err n) (Err m) = status_of n ≡ status_of m

-- so it is, unless a fault or want of memory broke it off
abbrev pub Settles : {V : Type 0} → Result V Notice → Result V Notice → Type 0
Settles r other = IsBroken r ⊎ IsSameAnswer r other

-- an answer with another value in the place of its own
abbrev pub valued : {V W : Type 0} → (V → W) → Result V Notice → Result W Notice
valued value (Ok v) = Ok (value v)
valued value (Err n) = Err n

-- ---- texts

-- What the texts of a file stand for: values, of which they spell so much.
pub record Text (V : Type 0) : Type 1 where
  pub role : Role
  pub Value : Type 0
  pub value : V → Value
  -- the bytes spell the value
  pub Spells : List ℕ → Value → Type 0
  -- they spell none, and the notice is that for their first fault
  pub Names : List ℕ → Notice → Type 0
  -- what holds of each value that is read
  pub Usual : V → Type 0

module _ {V : Type 0} (text : Text V) where
  -- what bytes are read as, whatever their number
  abbrev pub Gives : List ℕ → Result text.Value Notice → Type 0
  Gives bytes (Ok w) = text.Spells bytes w
  Gives bytes (Err n) = (status_of n ≡ status.Refused) × text.Names bytes n

  -- or memory ran out
  abbrev pub GivesOrEnds : List ℕ → Result text.Value Notice → Type 0
  GivesOrEnds bytes r = (r ≡ Err notice.NoMemory) ⊎ Gives bytes r

  -- under a limit
  abbrev pub GivesWithin : ℕ → List ℕ → Result text.Value Notice → Type 0
  GivesWithin limit bytes r = ((length bytes ≤ limit) × Gives bytes r)
      ⊎ ((limit < length bytes) × (r ≡ Err (notice.TooLong text.role limit)))

  -- A file that isn't told may be read as anything, but isn't known to be missing. One that is told
  -- is missing, or has bytes.
  abbrev pub FileGives : ℕ → Option (Option (List ℕ)) → Result text.Value Notice → Type 0
  FileGives limit None (Ok w) = Unit {0}
  FileGives limit None (Err n) = status_of n ≡ status.Refused
  FileGives limit (Some None) r = r ≡ Err (notice.ReadFault text.role)
  FileGives limit (Some (Some bytes)) r = GivesWithin limit bytes r

-- ---- why a reading breaks off

-- what may end the reading of a file with a role, whatever the file is
abbrev pub Breaks : Type 1
Breaks = Role → Notice → Type 0

-- nothing may
abbrev pub NeverBreaks : Breaks
NeverBreaks of n = ⊥

-- a fault that was counted, of a shelf that isn't reliable
pub record IsCounted (before after : ShelfState)
    (reliable : Option (List ℕ) → Type 0) : Type 0 where
  pub rose : Rose before.read_faults after.read_faults
  pub unreliable : (log : Option (List ℕ)) → reliable log → ⊥

-- want of memory may, and a fault that was counted
abbrev pub MayBreak : (before after : ShelfState) (reliable : Option (List ℕ) → Type 0) → Breaks
MayBreak before after reliable of n =
    (n ≡ notice.NoMemory) ⊎ ((n ≡ notice.ReadFault of) × IsCounted before after reliable)

-- ---- files, one behind another

-- what is read where this may break it off and these files are told
abbrev pub Reading : Type 0 → Type 1
Reading V = Breaks → Option Files → Result V Notice → Type 0

abbrev pub limit_of : Limits → Role → ℕ
limit_of limits role.Settings = limits.settings
limit_of limits role.Nav = limits.file
limit_of limits role.Obs = limits.file
limit_of limits role.Station = limits.file
limit_of limits role.Rows = limits.file
limit_of limits role.Zones = limits.settings
limit_of limits role.Log = limits.log
limit_of limits role.After = limits.log

-- the named file, where the files are told
abbrev pub file_in : Option Files → List ℕ → Option (Option (List ℕ))
file_in files name = option_map (λ told. map.get told name) files

-- a file that isn't known to be missing
abbrev pub MayBeThere : Option (Option (List ℕ)) → Type 0
MayBeThere None = Unit {0}
MayBeThere (Some None) = ⊥
MayBeThere (Some (Some bytes)) = Unit {0}

-- what a file gives, or its reading breaks off
abbrev pub ReadsFile : {V : Type 0} → (text : Text V) → ℕ → Breaks
    → Option (Option (List ℕ)) → Result text.Value Notice → Type 0
ReadsFile text limit breaks file r = FileGives text limit file r
    ⊎ ((n : Notice) × (r ≡ Err n) × MayBeThere file × breaks text.role n)

-- the text of the named file
abbrev pub Named : {V : Type 0} → Limits → (text : Text V) → List ℕ → Reading text.Value
Named limits text name breaks files =
    ReadsFile text (limit_of limits text.role) breaks (file_in files name)

-- first this, and where it is accepted what comes behind it
abbrev pub Then : {V W : Type 0} → Reading V → (V → Reading W) → Reading W
Then {V} {W} first later breaks files r =
    ((v : V) × first breaks files (Ok v) × later v breaks files r)
    ⊎ ((n : Notice) × first breaks files (Err n) × (r ≡ Err n))

-- nothing more is read
abbrev pub Returns : {V : Type 0} → V → Reading V
Returns v breaks files r = r ≡ Ok v

-- ---- what was read

-- It is what the files give, unless want of memory or a fault that was counted broke it off; and
-- unless something broke it off, it is the same as all that told files give.
pub record Found {V : Type 0} (reading : Reading V) (before after : ShelfState)
    (reliable : Option (List ℕ) → Type 0) (r : Result V Notice) : Type 0 where
  pub reads : reading (MayBreak before after reliable) (files_of before) r
  pub same : (told : Files) (other : Result V Notice) → files_of before ≡ Some told
      → reading NeverBreaks (Some told) other → Settles r other

-- slots, each with the name of the file to open in it
abbrev pub NamedSlots : Type 0
NamedSlots = List (Slot × List ℕ)

-- The named files were opened in turn, each in its slot and none for writing: all of them, or
-- those up to one that wasn't accepted. No other name was opened, and no other slot was touched.
abbrev pub Opens : NamedSlots → Bool → Openings → Openings → Type 0
Opens [] all old new = (all ≡ true) × (new ≡ old)
Opens ((of, name) ∷ more) all old new = (phase : Phase) × (phase ≢ Writing)
    × (((all ≡ false) × (new ≡ opened of name phase old))
    ⊎ Opens more all (opened of name phase old) new)

-- no file has changed, and nothing was written; what the shelf was made with never changes
pub record LeavesFiles (before after : ShelfState) : Type 0 where
  pub files : files_of after ≡ files_of before
  pub written : written_of after ≡ written_of before
  pub terms : terms_of after ≡ terms_of before

-- and these files alone were opened
pub record Untouched (files : NamedSlots) (all : Bool) (before after : ShelfState) : Type 0 where
  pub leaves : LeavesFiles before after
  pub openings : Opens files all before.openings after.openings
  pub write_faults : after.write_faults ≡ before.write_faults

-- the notice is one of a file that wasn't read or accepted
abbrev pub IsOfReading : Notice → Type 0
IsOfReading n = (status_of n ≡ status.Refused)
    ⊎ ((status_of n ≡ status.ReadFault) ⊎ (status_of n ≡ status.NoMemory))

-- One name was opened, in this slot and not for writing, and nothing else was touched.
pub record Touches (of : Slot) (name : List ℕ) (before after : ShelfState) : Type 0 where
  pub leaves : LeavesFiles before after
  pub openings : (phase : Phase) × (phase ≢ Writing)
      × (after.openings ≡ opened of name phase before.openings)
  pub write_faults : after.write_faults ≡ before.write_faults
  pub later : before.read_faults ≤ after.read_faults

-- A reading writes nothing, whatever it answers.
pub record OnlyReads {V : Type 0} (files : NamedSlots) (before after : ShelfState)
    (r : Result V Notice) : Type 0 where
  pub untouched : Untouched files (is_ok r) before after
  pub ends : IfErr r IsOfReading
  pub later : before.read_faults ≤ after.read_faults
