-- The lines of a text that is made of printable lines.
use Rattle.std.proofs.Common.{◌≡◌, ℕ, true, false, List, [], ◌∷◌, ◌++◌, length, map, refl, ap, arith}
use Rattle.std.specs.Prelude.{◌==◌}
use Rattle.std.specs.List.{list_all, AllByRecursion}
use Rattle.std.proofs.lemmas.Bool.{and_parts}
use Rattle.rinex_text.specs.Bodies.{is_printable, is_blank_line, counted}
use Rattle.rinex_text.specs.Lines.{TextLine, with_ends, without_end, without_lf, lines_of}
use Rattle.made_texts.specs.TextLines.{text_of}

abbrev pub plain : List ℕ → TextLine
plain text = record { text = text; size = length text }

abbrev pub IsPrintable : List ℕ → Type 0
IsPrintable line = list_all is_printable line ≡ true

record NoEnd (byte : ℕ) : Type 0 where
  lf : (byte == 10) ≡ false
  cr : (byte == 13) ≡ false

no_end : (byte : ℕ) → is_printable byte ≡ true → NoEnd byte
no_end byte h = record { lf = grind arith; cr = grind arith }

ended : (line more : List ℕ) → IsPrintable line
    → with_ends (line ++ 10 ∷ more) ≡ (line ++ 10 ∷ []) ∷ with_ends more
ended [] more all = refl
ended (byte ∷ bytes) more all =
    let parts = and_parts _ _ all in
    rw ((no_end byte parts.0).lf, ended bytes more parts.1) refl

lf_end : (line : List ℕ) → IsPrintable line → without_lf (line ++ 10 ∷ []) ≡ line
lf_end [] all = refl
lf_end (byte ∷ bytes) all =
    let parts = and_parts _ _ all in
    rw ((no_end byte parts.0).lf, lf_end bytes parts.1) refl

text_end : (line : List ℕ) → IsPrintable line → without_end (line ++ 10 ∷ []) ≡ line
text_end [] all = refl
text_end (byte ∷ []) all =
    let parts = and_parts _ _ all in
    rw (no_end byte parts.0).cr refl
text_end (byte ∷ next ∷ []) all = ap (λ (l : List ℕ). byte ∷ l) (text_end (next ∷ []) (and_parts _ _ all).1)
text_end (byte ∷ next ∷ other ∷ bytes) all = ap (λ (l : List ℕ). byte ∷ l) (text_end (next ∷ other ∷ bytes) (and_parts _ _ all).1)

pub lines_are : (lines : List (List ℕ)) → AllByRecursion IsPrintable lines
    → lines_of (text_of lines) ≡ map plain lines
lines_are [] all = refl
lines_are (line ∷ lines) all =
    rw (ended line (text_of lines) all.0, text_end line all.0, lf_end line all.0) (ap (λ (l : List TextLine). plain line ∷ l) (lines_are lines all.1))

-- no line is blank, so all are counted
pub all_counted : (lines : List TextLine)
    → AllByRecursion (λ (line : TextLine). is_blank_line line ≡ false) lines → counted lines ≡ lines
all_counted [] all = refl
all_counted (line ∷ []) all = rw all.0 refl
all_counted (line ∷ next ∷ more) all = rw (all_counted (next ∷ more) all.1) refl
