-- What stands behind the header: all lines but the blank ones at the end of the file.
use Rattle.std.specs.Prelude.{ℕ, suc, ◌≡◌, ◌+◌, Bool, ◌&&◌, nat_le, List, [], ◌∷◌, cond, Result}
use Rattle.std.specs.Prelude.{Err}
use Rattle.std.specs.List.{list_all}
use Rattle.exact_decimal.specs.NumberFields.{is_blank}
use Rattle.rinex_text.specs.Faults.{refusal, line_gives}
use Rattle.rinex_text.specs.Headers.{Behind}
use Rattle.rinex_text.specs.Lines.{TextLine}
use Rattle.rinex_text.specs.declared.fault.Fault.{Fault}
use Rattle.rinex_text.specs.declared.fault.Fault.TheVariants.{Truncated}
use Rattle.rinex_text.specs.declared.fault.Refusal.{Refusal}

-- a line of blanks alone
abbrev pub is_blank_line : TextLine → Bool
is_blank_line line = list_all is_blank line.text

-- a line before the lines that count, which counts itself unless it is blank and none does
abbrev pub counted_with : TextLine → List TextLine → List TextLine
counted_with line [] = cond (is_blank_line line) [] (line ∷ [])
counted_with line (next ∷ more) = line ∷ next ∷ more

-- the lines without the blank ones at the end
abbrev pub counted : List TextLine → List TextLine
counted [] = []
counted (line ∷ more) = counted_with line (counted more)

-- a byte of printable ASCII, the space among them
abbrev pub is_printable : ℕ → Bool
is_printable byte = nat_le 32 byte && nat_le byte 126

-- the first of the lines, which the file may not lack, and what comes later
abbrev pub first_of : {V X : Type 0} → (TextLine → Result V Fault → Type 0) → ℕ → List TextLine →
    (V → Behind → Result X Refusal → Type 0) → Result X Refusal → Type 0
first_of line number [] later answer = answer ≡ Err (refusal Truncated number)
first_of line number (next ∷ more) later answer = line_gives (line next) number
    (λ v. later v (record { number = number + 1; lines = more })) answer

abbrev pub needs : {V X : Type 0} → (TextLine → Result V Fault → Type 0) → Behind →
    (V → Behind → Result X Refusal → Type 0) → Result X Refusal → Type 0
needs line from later answer = first_of line from.number from.lines later answer

-- How many lines there are up to the last that isn't blank, behind `seen` lines of which `kept`
-- count. The reader finds it from the first line to the last; no public clause cites it.
abbrev pub counted_behind : ℕ → ℕ → List TextLine → ℕ
counted_behind seen kept [] = kept
counted_behind seen kept (line ∷ more) =
    counted_behind (suc seen) (cond (is_blank_line line) kept (suc seen)) more
