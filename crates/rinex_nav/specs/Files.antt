-- Navigation files: what is read from the lines of a file, its records or its first fault.
use Rattle.std.specs.Prelude.{ℕ, zero, suc, ◌≡◌, ◌⊎◌, ◌+◌, true, List, [], ◌∷◌, Option, is_some}
use Rattle.std.specs.Prelude.{None, Some, Result, Ok, Err}
use Rattle.rinex_text.specs.Bodies.{counted}
use Rattle.rinex_text.specs.Columns.{column_of}
use Rattle.rinex_text.specs.Faults.{refusal, test, then}
use Rattle.rinex_text.specs.Headers.{IsShort, version_by, header_from}
use Rattle.rinex_text.specs.Lines.{TextLine, lines_of}
use Rattle.rinex_text.specs.declared.fault.Fault.TheVariants.{LongLine}
use Rattle.rinex_text.specs.declared.fault.Refusal.{Refusal}
use Rattle.gnss_model.specs.declared.systems.Message.{Message}
use Rattle.rinex_nav.specs.Records.{Broadcast, is_read, record_from}

-- the first column begins a record that is read
abbrev pub BeginsRecord : Option Message → TextLine → Type 0
BeginsRecord galileo line = is_read galileo (column_of line.text 1) ≡ true

-- a record, where it is kept, before those that come later
abbrev pub with_kept : Option Broadcast → List Broadcast → List Broadcast
with_kept None more = more
with_kept (Some first) more = first ∷ more

abbrev pub with_first : Option Broadcast → Result (List Broadcast) Refusal →
    Result (List Broadcast) Refusal
with_first first (Ok more) = Ok (with_kept first more)
with_first first (Err refusal) = Err refusal

abbrev pub record_then : (Result (Option Broadcast) Refusal → Type 0) →
    (Result (List Broadcast) Refusal → Type 0) → Result (List Broadcast) Refusal → Type 0
record_then first later answer =
    then first (λ r given. (more : Result (List Broadcast) Refusal) × later more
    × (given ≡ with_first r more)) answer

-- The records of a body's lines from line `number` on, behind `count` records; the first `read`
-- lines belong to the last of these. All lines but those of such records are passed over.
abbrev pub records_from : Option Message → ℕ → ℕ → ℕ → List TextLine →
    Result (List Broadcast) Refusal → Type 0
records_from galileo count number read [] answer = answer ≡ Ok []
records_from galileo count number (suc read) (line ∷ more) answer =
    records_from galileo count (number + 1) read more answer
records_from galileo count number zero (line ∷ more) answer =
    (BeginsRecord galileo line
    × record_then (record_from galileo count (record { number = number; lines = line ∷ more }))
    (records_from galileo (count + 1) (number + 1) 7 more) answer)
    ⊎ ((BeginsRecord galileo line → ⊥)
    × test (IsShort line) (refusal LongLine number)
    (records_from galileo count (number + 1) 0 more) answer)

-- the records of a file, or its first fault: those of GPS, or those of both systems
abbrev pub nav_file_of : Option Message → List TextLine → Result (List Broadcast) Refusal → Type 0
nav_file_of galileo lines =
    then (version_by (is_some galileo) 78 lines) (λ header.
    then (header_from header.number header.lines) (λ body.
    records_from galileo 0 body.number 0 (counted body.lines)))

-- the text is a navigation file with these records
abbrev pub IsNavFileOf : Option Message → List ℕ → List Broadcast → Type 0
IsNavFileOf galileo text records = nav_file_of galileo (lines_of text) (Ok records)

-- the text is none, and this is its first fault
abbrev pub IsFirstFaultOf : Option Message → List ℕ → Refusal → Type 0
IsFirstFaultOf galileo text refusal = nav_file_of galileo (lines_of text) (Err refusal)

-- ---- with the records of GPS

abbrev pub nav_file : List TextLine → Result (List Broadcast) Refusal → Type 0
nav_file lines answer = nav_file_of None lines answer

abbrev pub IsNavFile : List ℕ → List Broadcast → Type 0
IsNavFile text records = IsNavFileOf None text records

abbrev pub IsFirstFault : List ℕ → Refusal → Type 0
IsFirstFault text refusal = IsFirstFaultOf None text refusal
