-- What was put to a pen: which of it went to the log and to `out`, and what it still holds.
use Rattle.std.specs.Prelude.{◌≡◌, ◌≢◌, ℕ, ◌+◌, ◌≤◌, List, [], ◌++◌, length, Option, true, is_some}
use Rattle.std.specs.Prelude.{Result, Ok, Err}
use Rattle.outer_io.specs.Causes.{Rose}
use Rattle.outer_io.specs.Taken.{SinkState, TakenBy}
use Rattle.outer_io.specs.Told.{ShelfState, AppendedBy}
use Rattle.outer_io.specs.declared.slots.Slot.TheVariants as slot
use Rattle.log_writer.specs.declared.fault.WriteFault.{WriteFault}
use Rattle.log_writer.specs.declared.fault.WriteFault.TheVariants as why
use Rattle.log_writer.specs.Pieces.{Piece, log_bytes, report_bytes}
use Rattle.log_writer.specs.Breaks.{IsFrontOf, LogBreaks, IsLonger}

-- ---- the devices

-- a shelf, whose slot `Log` is written, and the sink of the report
pub record Devices : Type 0 where
  pub shelf : ShelfState
  pub out : SinkState

abbrev pub devices : ShelfState → SinkState → Devices
devices shelf out = record { shelf = shelf; out = out }

-- these bytes went to the log, and these to `out`
pub record Sent (before : Devices) (log report : List ℕ) (after : Devices) : Type 0 where
  pub appended : AppendedBy before.shelf after.shelf slot.Log log
  pub taken : TakenBy before.out after.out report
  pub openings : after.shelf.openings ≡ before.shelf.openings
  pub log_faults : before.shelf.write_faults ≤ after.shelf.write_faults
  pub out_faults : before.out.faults ≤ after.out.faults

-- the device that is at fault has counted it
abbrev pub Counts : {T : Type 0} → Devices → Result T WriteFault → Devices → Type 0
Counts before (Ok done) after = Unit {0}
Counts before (Err why.Log) after = Rose before.shelf.write_faults after.shelf.write_faults
Counts before (Err why.Out) after = Rose before.out.faults after.out.faults
Counts before (Err why.Full) after = Unit {0}
Counts before (Err why.NoMemory) after = Unit {0}

-- the bytes were sent, the log's first, or a device has counted its fault
abbrev pub Sends : {T : Type 0}
    → Devices → (log report : List ℕ) → Result T WriteFault → Devices → Type 0
Sends before log report (Ok done) after = Sent before log report after
Sends before log report (Err why.Log) after = (front : List ℕ) × IsFrontOf front log
    × Sent before front [] after × Rose before.shelf.write_faults after.shelf.write_faults
Sends before log report (Err why.Out) after = (front : List ℕ) × IsFrontOf front report
    × Sent before log front after × Rose before.out.faults after.out.faults
Sends before log report (Err why.Full) after = ⊥
Sends before log report (Err why.NoMemory) after = ⊥

-- ---- the pen

-- the devices, which ones they are, the bytes that wait, and how many more of the log may come
pub record Seen : Type 0 where
  pub at : Devices
  pub shelf : ℕ
  pub out : ℕ
  pub log_waits : List ℕ
  pub report_waits : List ℕ
  pub left : ℕ

-- Since the start these pieces were put. The first of them went out, each with its line and its
-- report's, and the others wait.
pub record Put (start : Seen) (pieces : List Piece) (now : Seen) : Type 0 where
  pub gone : List Piece
  pub waiting : List Piece
  pub all : pieces ≡ gone ++ waiting
  pub sent : Sent start.at (log_bytes gone) (report_bytes gone) now.at
  pub same_shelf : now.shelf ≡ start.shelf
  pub same_out : now.out ≡ start.out
  pub log_waits : now.log_waits ≡ log_bytes waiting
  pub report_waits : now.report_waits ≡ report_bytes waiting
  pub left : length (log_bytes pieces) + now.left ≡ start.left

-- what the bytes are where a device failed while this text was on its way
abbrev pub Loses : (text : List Piece) → WriteFault → (start now : Devices)
    → (log report : List ℕ) → Type 0
Loses text why.Log start now log report =
    LogBreaks text log report × Rose start.shelf.write_faults now.shelf.write_faults
Loses text why.Out start now log report = (log ≡ log_bytes text)
    × IsFrontOf report (report_bytes text) × Rose start.out.faults now.out.faults
Loses text why.Full start now log report = ⊥
Loses text why.NoMemory start now log report = ⊥

-- a device failed while this text was on its way
pub record Lost (start : Seen) (text : List Piece) (fault : WriteFault) (now : Seen) : Type 0 where
  pub log : List ℕ
  pub report : List ℕ
  pub sent : Sent start.at log report now.at
  pub same_shelf : now.shelf ≡ start.shelf
  pub same_out : now.out ≡ start.out
  pub fits : length (log_bytes text) ≤ start.left
  pub fails : Loses text fault start.at now.at log report

-- by the fault that stopped the text before `more`
abbrev pub Stops : Seen → (text more : List Piece) → WriteFault → Seen → Type 0
Stops start text more why.Log now = Lost start text why.Log now
Stops start text more why.Out now = Lost start text why.Out now
Stops start text more why.Full now = Put start text now × IsLonger start.left text more
Stops start text more why.NoMemory now = Put start text now

-- the first of the pieces were put, and then came the fault
pub record Stopped (start : Seen) (pieces : List Piece) (fault : WriteFault)
    (now : Seen) : Type 0 where
  pub text : List Piece
  pub more : List Piece
  pub all : pieces ≡ text ++ more
  pub stops : Stops start text more fault now

-- all of the pieces were put behind those before
abbrev pub Went : Seen → List Piece → Seen → Type 0
Went before pieces after = (start : Seen) (earlier : List Piece)
    → Put start earlier before → Put start (earlier ++ pieces) after

-- they broke off with this fault
abbrev pub Ended : Seen → List Piece → WriteFault → Seen → Type 0
Ended before pieces fault after = (start : Seen) (earlier : List Piece)
    → Put start earlier before → Stopped start (earlier ++ pieces) fault after

-- by how the writing ended
abbrev pub Written : {T : Type 0} → Seen → List Piece → Result T WriteFault → Seen → Type 0
Written before pieces (Ok done) after = Went before pieces after
Written before pieces (Err fault) after = Ended before pieces fault after

-- all that waited went out
abbrev pub Flushes : {T : Type 0}
    → (start : Seen) → (text : List Piece) → Result T WriteFault → Seen → Type 0
Flushes start text (Ok done) now =
    Put start text now × Sent start.at (log_bytes text) (report_bytes text) now.at
Flushes start text (Err fault) now = Lost start text fault now

abbrev pub Flushed : {T : Type 0} → Seen → Result T WriteFault → Seen → Type 0
Flushed before result after = (start : Seen) (text : List Piece)
    → Put start text before → Flushes start text result after

-- ---- what is known to be reliable

-- the shelf, also for a log of a name, and `out`
pub record Trust : Type 1 where
  pub log : Option (List ℕ) → Type 0
  pub out : Type 0

abbrev pub trust_of : (Option (List ℕ) → Type 0) → Type 0 → Trust
trust_of log out = record { log = log; out = out }

-- what is reliable after was so before, and didn't fail
pub record Trusts {T : Type 0} (before : Trust) (result : Result T WriteFault)
    (after : Trust) : Type 0 where
  pub log : (name : Option (List ℕ)) → after.log name
      → before.log name × (is_some name ≡ true → result ≢ Err why.Log)
  pub out : after.out → before.out × (result ≢ Err why.Out)

-- a result that says no more than that
abbrev pub done : Result (Unit {0}) WriteFault
done = Ok tt

abbrev pub failed : WriteFault → Result (Unit {0}) WriteFault
failed fault = Err fault
