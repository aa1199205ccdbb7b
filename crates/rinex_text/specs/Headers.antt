-- The header of a file: the version line, and the lines up to END OF HEADER.
use Rattle.std.specs.Prelude.{ℕ, ◌≡◌, ◌≤◌, ◌+◌, ◌⊎◌, ℤ, pos, Bool, true, false, List, [], ◌∷◌}
use Rattle.std.specs.Prelude.{Result, Ok, Err, codes}
use Rattle.exact_decimal.specs.NumberFields.{IsFixed}
use Rattle.exact_decimal.specs.Units.{LiesBetween}
use Rattle.exact_decimal.specs.declared.unit.Unit.TheVariants.{Ratio}
use Rattle.rinex_text.specs.declared.fault.Fault.{Fault}
use Rattle.rinex_text.specs.declared.fault.Fault.TheVariants as fault
use Rattle.rinex_text.specs.declared.fault.Refusal.{Refusal}
use Rattle.rinex_text.specs.Columns.{column_of, columns_of, label_of}
use Rattle.rinex_text.specs.Faults.{refusal, test, gives, line_gives}
use Rattle.rinex_text.specs.Lines.{TextLine}

-- at most 4,096 bytes
abbrev pub IsShort : TextLine → Type 0
IsShort line = line.size ≤ 4096

-- a number from 3.00 to 3.05, in units of 10^-16
pub record IsVersion (field : List ℕ) : Type 0 where
  pub digits : ℤ
  pub ten : ℤ
  pub number : IsFixed field digits ten
  pub lies : LiesBetween digits ten Ratio (pos 30000000000000000) (pos 30500000000000000)

-- GPS, mixed, or blank
abbrev pub IsSystem : ℕ → Type 0
IsSystem byte = (byte ≡ 71) ⊎ ((byte ≡ 77) ⊎ ((byte ≡ 32) ⊎ (byte ≡ 9)))

-- the same, and where both systems are read also Galileo
abbrev pub IsSystemOf : Bool → ℕ → Type 0
IsSystemOf false byte = IsSystem byte
IsSystemOf true byte = IsSystem byte ⊎ (byte ≡ 69)

-- the tests of the version line of a file of a kind, `N` or `O`
abbrev pub version_line_of : Bool → ℕ → TextLine → Result (Unit {0}) Fault → Type 0
version_line_of both kind line =
    test (IsShort line) fault.LongLine
    (test (label_of line.text ≡ codes "RINEX VERSION / TYPE") fault.NotRinex
    (test (IsVersion (columns_of line.text 1 9)) fault.Version
    (test (column_of line.text 21 ≡ kind) fault.Kind
    (test (IsSystemOf both (column_of line.text 41)) fault.System
    (gives tt)))))

abbrev pub IsHeaderEnd : TextLine → Type 0
IsHeaderEnd line = label_of line.text ≡ codes "END OF HEADER"

-- what stands behind a header: the number of its first line, and the lines
pub record Behind : Type 0 where
  pub number : ℕ
  pub lines : List TextLine

-- the header ends with the first line that says so
abbrev pub header_from : ℕ → List TextLine → Result Behind Refusal → Type 0
header_from number [] answer = answer ≡ Err (refusal fault.NoEndOfHeader number)
header_from number (line ∷ more) answer =
    test (IsShort line) (refusal fault.LongLine number)
    (λ later. (IsHeaderEnd line × (later ≡ Ok (record { number = number + 1; lines = more })))
    ⊎ ((IsHeaderEnd line → ⊥) × header_from (number + 1) more later))
    answer

-- the version line of a file, and the lines behind it
abbrev pub version_by : Bool → ℕ → List TextLine → Result Behind Refusal → Type 0
version_by both kind [] answer = answer ≡ Err (refusal fault.NotRinex 1)
version_by both kind (line ∷ more) answer = line_gives (version_line_of both kind line) 1
    (λ passed. gives (record { number = 2; lines = more })) answer

-- where the satellites of GPS are read
abbrev pub version_line : ℕ → TextLine → Result (Unit {0}) Fault → Type 0
version_line kind line answer = version_line_of false kind line answer

abbrev pub version_of : ℕ → List TextLine → Result Behind Refusal → Type 0
version_of kind lines answer = version_by false kind lines answer
