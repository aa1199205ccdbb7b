-- The text of rows: a log without its steps, whose blocks pass the tests of their own lines.
use Rattle.std.specs.Prelude.{ℕ, ◌≡◌, ◌+◌, ◌≤◌, ◌⊎◌, Bool, true, false, List, [], ◌∷◌, length}
use Rattle.std.specs.Prelude.{Option, None, Some}
use Rattle.std.specs.List.{AllByRecursion}
use Rattle.sat_model.specs.declared.rules.Rules.{Rules}
use Rattle.sat_model.specs.declared.rows.SatEntry.{SatEntry}
use Rattle.sat_model.specs.declared.rows.SatEntry.TheVariants as entry
use Rattle.sat_model.specs.Logs.{Body, Block, LogValue, is_few, rows_of}
use Rattle.sat_model.specs.Verdicts.{HeadPasses, HeadFails, NoneRepeats, IsFirstRepeat}
use Rattle.log_lines.specs.declared.line.Form.{Form}
use Rattle.log_lines.specs.declared.line.Kind.{Kind}
use Rattle.log_lines.specs.declared.line.Kind.TheVariants as kind
use Rattle.log_lines.specs.declared.line.Place.TheVariants as place
use Rattle.paving_log.specs.declared.log.LogError.{LogError}
use Rattle.paving_log.specs.declared.log.LogError.TheVariants as error
use Rattle.log_lines.specs.Order.{form_of}
use Rattle.log_lines.specs.Text.{block_lines, log_text, LogFits}
use Rattle.paving_log.specs.Faults.{FaultFrom}

-- ---- the spelling

-- each block begins where the lines of the one before end, and all lines have numbers of at most 4
-- * 10^9
abbrev pub IsNumberedIn : Form → ℕ → List Block → Type 0
IsNumberedIn f next [] = next ≤ 4000000001
IsNumberedIn f next (b ∷ more) =
    (b.line ≡ next) × IsNumberedIn f (next + length (block_lines f b)) more

-- The text is the one spelling of the log, or of its rows alone. The blocks begin behind the two
-- lines of the head, and have the numbers of their lines.
pub record IsSpelling (k : Kind) (log : LogValue) (text : List ℕ) : Type 0 where
  pub fits : LogFits k log
  pub numbered : IsNumberedIn (form_of k log.version) 3 log.blocks
  pub spelled : text ≡ log_text k log

-- ---- the tests of a block's own lines

-- the satellite line has a row
abbrev pub has_row : SatEntry → Bool
has_row (entry.Row row) = true
has_row (entry.Skipped sat skip) = false

-- Its index is greater than that of the block before, its number of satellites suits it and is that
-- of its rows, and no satellite is named twice.
pub record OwnPasses (rules : Rules) (before : Option ℕ) (b : Block) : Type 0 where
  pub head : HeadPasses rules before b
  pub sats : NoneRepeats b.sats

-- the first line of the block that fails one of these tests, and the least number of one on it
abbrev pub OwnFails : Rules → Option ℕ → Block → ℕ → ℕ → Type 0
OwnFails rules before b line number =
    (HeadFails rules before b number × (line ≡ b.line))
    ⊎ (HeadPasses rules before b × ((k : ℕ) × IsFirstRepeat b.sats k × (line ≡ b.line + 1 + k))
    × (number ≡ 52))

abbrev pub AllOwnPass : Rules → Option ℕ → List Block → Type 0
AllOwnPass rules before [] = Unit {0}
AllOwnPass rules before (b ∷ more) = OwnPasses rules before b × AllOwnPass rules (Some b.index) more

-- the first of all their lines that fails one, and the number
abbrev pub FirstOwnFails : Rules → Option ℕ → List Block → ℕ → ℕ → Type 0
FirstOwnFails rules before [] line number = ⊥
FirstOwnFails rules before (b ∷ more) line number =
    OwnFails rules before b line number ⊎ (OwnPasses rules before b
    × FirstOwnFails rules (Some b.index) more line number)

-- the first line of the value that fails one
abbrev pub HasOwnFault : LogValue → ℕ → Type 0
HasOwnFault log line = (number : ℕ) × FirstOwnFails log.rules None log.blocks line number

-- ---- the text

-- The text spells the value without steps, and no block fails a test of its own lines.
pub record IsRowsText (log : LogValue) (text : List ℕ) : Type 0 where
  pub spelling : IsSpelling kind.Rows log text
  pub passes : AllOwnPass log.rules None log.blocks

-- The text spells a value, and this line is the first that fails such a test.
pub record FailsTest (text : List ℕ) (e : LogError) : Type 0 where
  pub log : LogValue
  pub spelling : IsSpelling kind.Rows log text
  pub line : ℕ
  pub fails : HasOwnFault log line
  pub error : e ≡ error.BadLog line 5

-- the first line that doesn't fit, and where all lines fit the first that fails a test
abbrev pub FirstRowsFault : List ℕ → LogError → Type 0
FirstRowsFault text e = FaultFrom (place.First kind.Rows) text 1 e ⊎ FailsTest text e

-- ---- what a paving asks for

-- the block has a body, and rows of four satellites more than may be inconsistent
pub record IsPavable (rules : Rules) (b : Block) : Type 0 where
  pub body : Body
  pub is_body : b.body ≡ Some body
  pub enough : rules.outliers + 4 ≤ length (rows_of b.sats)
  pub at_most : length (rows_of b.sats) ≤ 64

-- each block that isn't one of few satellites
abbrev pub ArePavable : LogValue → Type 0
ArePavable log = AllByRecursion (λ b. is_few b ≡ false → IsPavable log.rules b) log.blocks
