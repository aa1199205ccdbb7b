-- The words of a line that was joined of words without blanks.
use Rattle.std.proofs.Common.{◌≡◌, ℕ, false, List, [], ◌∷◌, ◌++◌, refl, ap, ◌∙◌}
use Rattle.std.specs.Prelude.{nat_eq}
use Rattle.std.specs.List.{AllByRecursion}
use Rattle.log_tokens.specs.Words.{words, joined}

abbrev pub HasNoBlank : List ℕ → Type 0
HasNoBlank word = AllByRecursion (λ byte. nat_eq byte 32 ≡ false) word

words-single : (word : List ℕ) → HasNoBlank word → words word ≡ word ∷ []
words-single [] none = refl
words-single (byte ∷ bytes) none =
    let here = none.0 in
    let later = words-single bytes none.1 in
    rw (here, later) refl

words-behind : (word rest : List ℕ) → HasNoBlank word
    → words (word ++ 32 ∷ rest) ≡ word ∷ words rest
words-behind [] rest none = refl
words-behind (byte ∷ bytes) rest none =
    let here = none.0 in
    let later = words-behind bytes rest none.1 in
    rw (here, later) refl

-- what was joined has the words that it was joined of
pub words-joined : (word : List ℕ) (more : List (List ℕ)) → HasNoBlank word
    → AllByRecursion HasNoBlank more → words (joined (word ∷ more)) ≡ word ∷ more
words-joined word [] none rest = words-single word none
words-joined word (next ∷ more) none rest =
    words-behind word (joined (next ∷ more)) none ∙ ap (λ (ws : List (List ℕ)). word ∷ ws) (words-joined next more rest.0 rest.1)
