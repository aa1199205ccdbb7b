-- What a log and its report have of one log of rows that are all known.
use Rattle.std.specs.Prelude.{◌≡◌, ℕ, ◌≤◌, false, List, length, None, Result, Ok, Err}
use Rattle.std.specs.List.{AllByRecursion}
use Rattle.sat_model.specs.Cover.{RowCover}
use Rattle.sat_model.specs.Logs.{Block, LogValue}
use Rattle.sat_model.specs.Verdicts.{Judged}
use Rattle.paving.specs.Idle.{idle}
use Rattle.epoch_report.specs.Reports.{report_text}
use Rattle.log_lines.specs.declared.line.Form.TheVariants as form
use Rattle.paving_log.specs.RowsText.{AllOwnPass}
use Rattle.log_lines.specs.Text.{IsLogText, BlockFits}
use Rattle.log_writer.specs.declared.fault.WriteFault.{WriteFault}
use Rattle.log_writer.specs.Breaks.{BrokeOff}
use Rattle.log_writer.specs.Pavings.{AllPave}
use Rattle.log_writer.specs.Pieces.{log_pieces, version_of}
use Rattle.log_writer.specs.RowsFrom.{of_rows}
use Rattle.log_writer.specs.Texts.{IsText}

-- the log has the rules and blocks of the rows, and paves each root
pub record IsPavingOf (rows log : LogValue) : Type 0 where
  pub version : log.version ≡ version_of rows.rules false false
  pub rules : log.rules ≡ rows.rules
  pub blocks : AllPave idle rows.rules rows.blocks log.blocks

-- The text and the report of one log that paves the rows. It passes all tests, and its cover by the
-- rows holds.
pub record IsWholeOf (rows : LogValue) (limit : ℕ) (bytes said : List ℕ) : Type 0 where
  pub log : LogValue
  pub paving : IsPavingOf rows log
  pub text : IsLogText log bytes
  pub report : said ≡ report_text log
  pub judged : Judged log
  pub cover : RowCover log
  pub fits : length bytes ≤ limit

-- what this fault left of one log that paves the rows
pub record IsBegunOf (fault : WriteFault) (rows : LogValue) (limit : ℕ)
    (bytes said : List ℕ) : Type 0 where
  pub log : LogValue
  pub paving : IsPavingOf rows log
  pub broke : BrokeOff limit (log_pieces log) fault bytes said

-- by how the writing ended
abbrev pub IsTextOf : {T : Type 0} → LogValue → ℕ → Result T WriteFault
    → (bytes said : List ℕ) → Type 0
IsTextOf rows limit (Ok done) bytes said = IsWholeOf rows limit bytes said
IsTextOf rows limit (Err fault) bytes said = IsBegunOf fault rows limit bytes said

-- each block of the rows may be paved
pub record CanBePaved (rows : LogValue) : Type 0 where
  pub fit : AllByRecursion (BlockFits form.Rows) rows.blocks
  pub own : AllOwnPass rows.rules None rows.blocks

-- what is written of these rows, block by block, is of one log of them all
abbrev pub GoesOn : (rows : LogValue) → Type 0
GoesOn rows = (last : List Block) (limit : ℕ) (result : Result (Unit {0}) WriteFault)
    (bytes said : List ℕ) → IsText of_rows rows.rules rows.blocks last limit result bytes said
    → IsTextOf rows limit result bytes said
