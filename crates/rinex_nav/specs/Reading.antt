-- What a reader of navigation files has read.
use Rattle.std.specs.Prelude.{◌≡◌, List, [], ◌∷◌, ◌++◌, Option, None, Some, Result, Ok, Err, map}
use Rattle.rinex_text.specs.declared.fault.ReadError.{ReadError}
use Rattle.rinex_text.specs.declared.fault.ReadError.TheVariants.{NoMemory}
use Rattle.rinex_text.specs.declared.fault.Refusal.{Refusal}
use Rattle.rinex_nav.specs.Records.{Broadcast}
use Rattle.rinex_nav.specs.declared.record.NavRecord.{NavRecord}

abbrev pub plain_record : NavRecord → Broadcast
plain_record r = record { sat = r.sat; toc = r.toc; healthy = r.healthy; fields = r.fields }

abbrev pub records_of : List NavRecord → List Broadcast
records_of records = map plain_record records

-- a record or none, as a list
abbrev pub listed_of : Option NavRecord → List NavRecord
listed_of None = []
listed_of (Some r) = r ∷ []

-- records before those that come later
abbrev pub with_all : List Broadcast → Result (List Broadcast) Refusal →
    Result (List Broadcast) Refusal
with_all records (Ok more) = Ok (records ++ more)
with_all records (Err e) = Err e

-- these records were read, unless memory ran out
abbrev pub GivesRecords : List Broadcast → Result (List NavRecord) ReadError → Type 0
GivesRecords records (Ok nav) = records_of nav ≡ records
GivesRecords records (Err e) = e ≡ NoMemory
