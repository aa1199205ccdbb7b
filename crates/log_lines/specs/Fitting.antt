-- A line at its place.
use Rattle.std.specs.Prelude.{ℕ, ◌≡◌, true, List, [], ◌∷◌, Some}
use Rattle.log_lines.specs.declared.line.Fault.{Fault}
use Rattle.log_lines.specs.declared.line.Fault.TheVariants as fault
use Rattle.log_lines.specs.declared.line.LineName.{LineName}
use Rattle.log_lines.specs.declared.line.LogLine.{LogLine}
use Rattle.log_lines.specs.declared.line.Place.{Place}
use Rattle.log_tokens.specs.Words.{words}
use Rattle.log_lines.specs.Lines.{LineFits, spelled, line_words}
use Rattle.log_lines.specs.Order.{may_come, next}

-- the bytes are the line, which may come here, and what may come behind it
pub record FitsAt (at : Place) (here : List ℕ) (l : LogLine) (after : Place) : Type 0 where
  pub spelled : words here ≡ line_words l
  pub fits : LineFits l
  pub next : next at l ≡ Some after

abbrev pub head_of : List (List ℕ) → List ℕ
head_of [] = []
head_of (word ∷ more) = word

-- the bytes up to the first blank
abbrev pub first_word : List ℕ → List ℕ
first_word here = head_of (words here)

-- the first word is the name, and its lines may come here
pub record Begins (at : Place) (here : List ℕ) (n : LineName) : Type 0 where
  pub word : first_word here ≡ spelled n
  pub may_come : may_come at n ≡ true

-- Why the bytes are no line that may come here.
abbrev pub Misfit : Place → List ℕ → Fault → Type 0
-- no line that begins with the first word may come here
Misfit at here fault.Word = (n : LineName) → Begins at here n → ⊥
-- one may come here, and none that fits and may come here has these words
Misfit at here fault.Fields = (n : LineName) × Begins at here n
    × ((l : LogLine) (after : Place) → FitsAt at here l after → ⊥)
