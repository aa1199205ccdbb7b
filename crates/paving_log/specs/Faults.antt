-- The first line of a text that doesn't fit in a log.
use Rattle.std.specs.Prelude.{ℕ, ◌≡◌, ◌≢◌, ◌+◌, ◌<◌, ◌⊎◌, Bool, true, false, if◌then◌else◌, List}
use Rattle.std.specs.Prelude.{[], ◌∷◌, ◌++◌, length, slice_index}
use Rattle.log_lines.specs.declared.line.Fault.{Fault}
use Rattle.log_lines.specs.declared.line.Fault.TheVariants as fault
use Rattle.log_lines.specs.declared.line.Kind.TheVariants as kind
use Rattle.log_lines.specs.declared.line.LogLine.{LogLine}
use Rattle.log_lines.specs.declared.line.Place.{Place}
use Rattle.log_lines.specs.declared.line.Place.TheVariants as place
use Rattle.paving_log.specs.declared.log.LogError.{LogError}
use Rattle.paving_log.specs.declared.log.LogError.TheVariants as error
use Rattle.log_lines.specs.Lines.{text_of}
use Rattle.log_lines.specs.Order.{may_end, Leads}
use Rattle.log_lines.specs.Fitting.{FitsAt, Misfit}

abbrev pub is_head : Place → Bool
is_head (place.First k) = true
is_head (place.Second f) = true
is_head _ = false

-- how a line is refused that is no line for its place
abbrev pub refusal : Place → ℕ → Fault → LogError
refusal at number fault.Word = if is_head at then error.BadLog number 1 else error.BadLog number 2
refusal at number fault.Fields = if is_head at then error.BadLog number 1 else error.BadLog number 3

abbrev pub IsLineEnd : List ℕ → Type 0
IsLineEnd [] = Unit {0}
IsLineEnd (byte ∷ more) = byte ≡ 10

-- the first line of a text, without its LF, and what stands behind it
pub record FirstLine (text here behind : List ℕ) : Type 0 where
  pub parts : text ≡ here ++ behind
  pub whole : (k : ℕ) → k < length here → slice_index here k ≢ 10
  pub ended : IsLineEnd behind

-- the text ends where a line is needed
pub record IsMissing (at : Place) (text : List ℕ) (number : ℕ) (e : LogError) : Type 0 where
  pub nothing : text ≡ []
  pub needed : may_end at ≡ false
  pub error : e ≡ error.BadLog number 4

-- the first line is no line that may come here
pub record IsMisfit (at : Place) (text : List ℕ) (number : ℕ) (e : LogError) : Type 0 where
  pub here : List ℕ
  pub behind : List ℕ
  pub line : FirstLine text here behind
  pub some : text ≢ []
  pub fault : Fault
  pub misfit : Misfit at here fault
  pub error : e ≡ refusal at number fault

-- the last line fits and lacks its LF
pub record IsUnended (at : Place) (text : List ℕ) (number : ℕ) (e : LogError) : Type 0 where
  pub line : FirstLine text text []
  pub some : text ≢ []
  pub fitting : LogLine
  pub after : Place
  pub fits : FitsAt at text fitting after
  pub error : e ≡ error.BadLog number 4

-- the text begins with a line that doesn't fit at this place
abbrev pub LineFails : Place → List ℕ → ℕ → LogError → Type 0
LineFails at text number e = IsMissing at text number e
    ⊎ (IsMisfit at text number e ⊎ IsUnended at text number e)

-- Some lines of the text fit one behind another, and the one behind them is the first that doesn't.
pub record FaultFrom (at : Place) (text : List ℕ) (number : ℕ) (e : LogError) : Type 0 where
  pub earlier : List LogLine
  pub to : Place
  pub left : List ℕ
  pub leads : Leads at earlier to
  pub parts : text ≡ text_of earlier ++ left
  pub fails : LineFails to left (number + length earlier) e

-- the first line that doesn't fit in the text of a log, and how
abbrev pub FirstFault : List ℕ → LogError → Type 0
FirstFault text e = FaultFrom (place.First kind.Log) text 1 e
