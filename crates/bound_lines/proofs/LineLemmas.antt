-- A line is read as the value of which it is the spelling, and as no other.
use Rattle.std.proofs.Common.{◌≡◌, ℕ, List, ◌∷◌, drop, sym, ap, ◌∙◌}
use Rattle.std.specs.Prelude.{◌↔◌, Option, None, Some}
use Rattle.log_tokens.specs.Words.{words, joined, Reads}
use Rattle.log_tokens.proofs.JoinedLemmas.{words-joined}
use Rattle.log_tokens.proofs.WordLemmas.{joined-words}
use Rattle.step_lines.specs.OneSpelling.{IsWord, AreWords, not_blank, none_blank}
use Rattle.bound_lines.specs.BoundLines.{Any}

-- the words of a line are those that its spelling was joined of
spelled_words : (line name : List ℕ) (ws : List (List ℕ)) → IsWord name → AreWords ws
    → line ≡ joined (name ∷ ws) → words line ≡ name ∷ ws
spelled_words line name ws first more is = ap words is ∙ words-joined name ws (not_blank name first) (none_blank ws more)

-- behind the first word of these lines
pub read_fields : {X : Type 0} (spelled : X → List (List ℕ)) (name : List ℕ) → IsWord name
    → ((x : X) → AreWords (spelled x)) → ((a b : X) → spelled a ≡ spelled b → a ≡ b)
    → (line word : List ℕ) (rest : List (List ℕ)) (read : Option X)
    → words line ≡ word ∷ rest → word ≡ name → Reads Any spelled rest read
    → (x : X) → (read ≡ Some x) ↔ (line ≡ joined (name ∷ spelled x))
read_fields spelled name first are one line word rest None front named none x = (
  λ some. cc,
  λ is. absurd (none x tt (ap (drop 1) (sym front ∙ spelled_words line name (spelled x) first (are x) is))),
)
read_fields spelled name first are one line word rest (Some value) front named (fits, told) x = (
  λ some.
      let same : value ≡ x = cc in
      let all : words line ≡ name ∷ spelled x = cc (front, named, told, ap spelled same) in
      sym (joined-words line) ∙ ap joined all,
  λ is.
      let all : word ∷ rest ≡ name ∷ spelled x = sym front ∙ spelled_words line name (spelled x) first (are x) is in
      let same : rest ≡ spelled x = ap (drop 1) all in
      ap Some (one value x (sym told ∙ same)),
)
