-- What an accepted navigation file is as a whole (RINEX 3.05, tables A5, A6 and A8): there is a
-- record for each line that begins one, of it and the seven lines behind it. Those that are kept
-- are given.
use Rattle.std.specs.Prelude.{ℕ, ◌≡◌, Bool, List, [], ◌∷◌, cond, Option, None, Ok}
use Rattle.rinex_text.specs.Bodies.{counted}
use Rattle.rinex_text.specs.Columns.{column_of}
use Rattle.rinex_text.specs.Lines.{TextLine}
use Rattle.rinex_text.specs.Whole.{OneForOne, IsParted}
use Rattle.gnss_model.specs.declared.systems.Message.{Message}
use Rattle.rinex_nav.specs.Files.{with_kept}
use Rattle.rinex_nav.specs.Records.{Broadcast, is_read, record_from}

abbrev pub begins_record : Option Message → TextLine → Bool
begins_record galileo line = is_read galileo (column_of line.text 1)

-- each line that begins a record, with all lines behind it
abbrev pub from_first_lines : Option Message → List TextLine → List (List TextLine)
from_first_lines galileo [] = []
from_first_lines galileo (line ∷ more) =
    cond (begins_record galileo line) ((line ∷ more) ∷ from_first_lines galileo more)
    (from_first_lines galileo more)

-- the record that begins with the first of the lines, or none where it isn't kept
pub record IsRecordOf (galileo : Option Message) (lines : List TextLine)
    (record_is : Option Broadcast) : Type 0 where
  pub count : ℕ
  pub number : ℕ
  pub reads : record_from galileo count (record { number = number; lines = lines }) (Ok record_is)

abbrev pub kept_of : List (Option Broadcast) → List Broadcast
kept_of [] = []
kept_of (r ∷ records) = with_kept r (kept_of records)

pub record IsWholeOf (galileo : Option Message) (lines : List TextLine) (records : List Broadcast) : Type 0 where
  pub header : List TextLine
  pub behind : List TextLine
  pub parted : IsParted lines header behind
  pub all : List (Option Broadcast)
  pub all_are : OneForOne (IsRecordOf galileo) (from_first_lines galileo (counted behind)) all
  pub records_are : records ≡ kept_of all

-- with the records of GPS
abbrev pub IsWhole : List TextLine → List Broadcast → Type 0
IsWhole lines records = IsWholeOf None lines records
