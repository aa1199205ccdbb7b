-- A line whose fields fit and which may not come.
use Rattle.std.proofs.Common.{◌≡◌, ℕ, true, List, ◌∷◌, Some, None, sym, ap, ◌∙◌}
use Rattle.log_lines.specs.declared.line.Fault.TheVariants as fault
use Rattle.log_lines.specs.declared.line.LineName.{LineName}
use Rattle.log_lines.specs.declared.line.LogLine.{LogLine}
use Rattle.log_lines.specs.declared.line.Place.{Place}
use Rattle.log_tokens.specs.Words.{words}
use Rattle.log_lines.specs.Lines.{spelled, name_of, fields, LineFits, line_words}
use Rattle.log_lines.specs.Order.{may_come, next}
use Rattle.log_lines.specs.Fitting.{head_of, Misfit}
use Rattle.log_lines.proofs.ValueLemmas.{same_words}

-- where the line that has these words may not come, none may that has them
pub none_behind : (at : Place) (here word : List ℕ) (rest : List (List ℕ)) (name : LineName) (l : LogLine)
    → words here ≡ word ∷ rest → word ≡ spelled name → may_come at name ≡ true
    → LineFits l → name_of l ≡ name → rest ≡ fields l → next at l ≡ None
    → Misfit at here fault.Fields
none_behind at here word rest name l front is may fits named told none = (
  name,
  record { word = ap head_of front ∙ is; may_come = may },
  λ other after there.
      let all : word ∷ rest ≡ line_words l = ap (λ (w : List ℕ). w ∷ rest) (is ∙ ap spelled (sym named)) ∙ ap (λ (ws : List (List ℕ)). spelled (name_of l) ∷ ws) told in
      let same : line_words other ≡ line_words l = sym there.spelled ∙ front ∙ all in
      let some : Some after ≡ None = sym there.next ∙ ap (next at) (same_words other l there.fits fits same) ∙ none in
      cc,
)
