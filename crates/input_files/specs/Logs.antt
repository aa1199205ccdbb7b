-- What the texts of a log and of rows stand for.
use Rattle.std.specs.Prelude.{◌≡◌, ℕ, List, None}
use Rattle.paving_log.specs.Faults.{FirstFault}
use Rattle.paving_log.specs.RowsText.{IsRowsText, FirstRowsFault, AllOwnPass}
use Rattle.log_lines.specs.Text.{IsLogText, LogFits}
use Rattle.paving_log.specs.Values.{log_value}
use Rattle.log_lines.specs.declared.line.Kind.TheVariants as kind
use Rattle.paving_log.specs.declared.log.Log.{Log}
use Rattle.paving_log.specs.declared.log.LogError.{LogError}
use Rattle.paving_log.specs.declared.log.LogError.TheVariants as error
use Rattle.sat_model.specs.Logs.{LogValue, IsNumbered}
use Rattle.input_files.specs.Reading.{Text}
use Rattle.input_files.specs.declared.notice.Notice.{Notice}
use Rattle.input_files.specs.declared.notice.Notice.TheVariants as notice
use Rattle.input_files.specs.declared.role.Role.{Role}
use Rattle.input_files.specs.declared.role.Role.TheVariants as role

module _ (of : Role) (IsText : LogValue → List ℕ → Type 0) (First : List ℕ → LogError
    → Type 0) where
  -- the bytes are no such text, and this is their first fault
  abbrev pub FailsFirst : List ℕ → LogError → Type 0
  FailsFirst bytes e = ((log : LogValue) → IsText log bytes → ⊥) × First bytes e

  -- the notice is that for it
  abbrev pub NamesFirst : List ℕ → Notice → Type 0
  NamesFirst bytes (notice.BadLog at line kind) =
      (at ≡ of) × FailsFirst bytes (error.BadLog line kind)
  NamesFirst bytes _ = ⊥

abbrev pub log_text : Text Log
log_text = record {
  role = role.Log;
  Value = LogValue;
  value = log_value;
  Spells = λ bytes log. IsLogText log bytes;
  Names = NamesFirst role.Log IsLogText FirstFault;
  Usual = λ log. IsNumbered (log_value log);
}

-- of which a log can be written
pub record ArePavable (rows : Log) : Type 0 where
  pub fits : LogFits kind.Rows (log_value rows)
  pub passes : AllOwnPass rows.rules None (log_value rows).blocks

abbrev pub rows_text : Text Log
rows_text = record {
  role = role.Rows;
  Value = LogValue;
  value = log_value;
  Spells = λ bytes rows. IsRowsText rows bytes;
  Names = NamesFirst role.Rows IsRowsText FirstRowsFault;
  Usual = ArePavable;
}
