-- How many lines count.
use Rattle.std.proofs.Common.{◌≡◌, ℕ, suc, ◌+◌, List, [], ◌∷◌, length, take, arith, refl, ap, sym, ◌∙◌, inl, inr}
use Rattle.std.proofs.lemmas.Bool.{cases_Bool}
use Rattle.std.specs.Prelude.{cond}
use Rattle.rinex_text.specs.Lines.{TextLine}
use Rattle.rinex_text.specs.Bodies.{is_blank_line, counted_with, counted, counted_behind}

-- where none of the further lines counts, those before stay
abbrev kept_or : ℕ → ℕ → List TextLine → ℕ
kept_or kept seen [] = kept
kept_or kept seen (line ∷ more) = seen + length (line ∷ more)

one_more : (seen kept : ℕ) (line : TextLine) (counting : List TextLine)
    → kept_or (cond (is_blank_line line) kept (suc seen)) (suc seen) counting ≡ kept_or kept seen (counted_with line counting)
one_more seen kept line [] = elim (cases_Bool (is_blank_line line)) [
  | inl h ↦ rw h refl
  | inr h ↦ rw h (omega arith)
]
one_more seen kept line (next ∷ more) = omega arith

counted_are : (seen kept : ℕ) (lines : List TextLine)
    → counted_behind seen kept lines ≡ kept_or kept seen (counted lines)
counted_are seen kept [] = refl
counted_are seen kept (line ∷ more) = counted_are (suc seen) (cond (is_blank_line line) kept (suc seen)) more ∙ one_more seen kept line (counted more)

none_kept : (counting : List TextLine) → kept_or 0 0 counting ≡ length counting
none_kept [] = refl
none_kept (line ∷ more) = omega arith

front_with : (line : TextLine) (more counting : List TextLine)
    → take (length counting) more ≡ counting
    → take (length (counted_with line counting)) (line ∷ more) ≡ counted_with line counting
front_with line more [] e = elim (cases_Bool (is_blank_line line)) [
  | inl h ↦ rw h refl
  | inr h ↦ rw h refl
]
front_with line more (next ∷ counting) e = ap (λ (l : List TextLine). line ∷ l) e

front_counts : (lines : List TextLine) → take (length (counted lines)) lines ≡ counted lines
front_counts [] = refl
front_counts (line ∷ more) = front_with line more (counted more) (front_counts more)

pub counted_front : (lines : List TextLine) (left : ℕ) → counted_behind 0 0 lines ≡ left
    → take left lines ≡ counted lines
counted_front lines left e =
    ap (λ (n : ℕ). take n lines) (sym e ∙ (counted_are 0 0 lines ∙ none_kept (counted lines))) ∙ front_counts lines
