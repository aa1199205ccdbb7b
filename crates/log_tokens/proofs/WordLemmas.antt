-- Where the first blank divides a line.
use Rattle.std.proofs.Common.{◌≡◌, ℕ, zero, suc, ◌<◌, Bool, true, false, cond, List, [], ◌∷◌, ◌++◌, length, get_or, take, drop, refl, sym, ap, ◌∙◌, arith}
use Rattle.std.specs.Prelude.{nat_eq, Option, Some, None, IsTrue, ◌↔◌, is_some, not}
use Rattle.std.specs.Borrow.{Bor}
use Rattle.std.proofs.lemmas.Bool.{eqb-true, false_from_ne_true as not_true}
use Rattle.log_tokens.specs.Words.{words, longer, joined, words_left}

-- a line with no blank is one word
pub words-only : (line : List ℕ)
    → ((k : ℕ) → k < length line → nat_eq (get_or line k 0) 32 ≡ true → ⊥) → words line ≡ line ∷ []
words-only [] none = refl
words-only (byte ∷ bytes) none =
    let here : nat_eq byte 32 ≡ false = not_true _ (none 0 (omega arith)) in
    let later : words bytes ≡ bytes ∷ [] = words-only bytes (λ k lt. none (suc k) (omega arith)) in
    rw (here, later) refl

-- the first blank ends the first word
pub words-first : (line : List ℕ) (end : ℕ)
    → ((k : ℕ) → k < end → nat_eq (get_or line k 0) 32 ≡ true → ⊥) → end < length line
    → nat_eq (get_or line end 0) 32 ≡ true
    → words line ≡ take end line ∷ words (drop (suc end) line)
words-first [] end none lt blank = absurd (omega arith)
words-first (byte ∷ bytes) zero none lt blank = rw blank refl
words-first (byte ∷ bytes) (suc end) none lt blank =
    let here : nat_eq byte 32 ≡ false = not_true _ (none 0 (omega arith)) in
    let later : words bytes ≡ take end bytes ∷ words (drop (suc end) bytes) = words-first bytes end (λ k below. none (suc k) (omega arith)) (omega arith) blank in
    rw (here, later) refl

pub longer-some : (byte : ℕ) (line : List (List ℕ)) → longer byte line ≡ [] → ⊥
longer-some byte [] e = cc
longer-some byte (word ∷ more) e = cc

-- the words of a byte and what follows it
pub begun : (blank : Bool) (byte : ℕ) (line : List (List ℕ))
    → cond blank ([] ∷ line) (longer byte line) ≡ [] → ⊥
begun true byte line e = cc
begun false byte line e = longer-some byte line e

-- a line has a word
pub words-some : (line : List ℕ) → words line ≡ [] → ⊥
words-some [] e = cc
words-some (byte ∷ bytes) e = begun (nat_eq byte 32) byte (words bytes) e

-- no word is left exactly where no bytes are
pub ended : (rest : Option (Bor (List ℕ))) (none : Bool) → is_some rest ≡ not none
    → IsTrue none ↔ (words_left rest ≡ [])
ended None true is = (λ _. refl, λ _. refl)
ended None false is = absurd cc
ended (Some line) true is = absurd cc
ended (Some line) false is = (λ yes. absurd cc, λ e. absurd (words-some line.now e))

-- what stands behind as many words is the same
pub same_rest : {A : Type 0} (line front other rest more : List A) → length front ≡ length other
    → line ≡ front ++ rest → line ≡ other ++ more → rest ≡ more
same_rest line [] [] rest more len e f = cc
same_rest line [] (o ∷ other) rest more len e f = absurd (omega arith)
same_rest line (x ∷ front) [] rest more len e f = absurd (omega arith)
same_rest line (x ∷ front) (o ∷ other) rest more len e f =
    let whole : x ∷ (front ++ rest) ≡ o ∷ (other ++ more) = sym e ∙ f in
    let later : front ++ rest ≡ other ++ more = cc in
    same_rest (front ++ rest) front other rest more (omega arith) refl later

joined-longer : (byte : ℕ) (line : List (List ℕ)) → joined (longer byte line) ≡ byte ∷ joined line
joined-longer byte [] = refl
joined-longer byte (word ∷ []) = refl
joined-longer byte (word ∷ next ∷ more) = refl

joined-step : (blank : Bool) (byte : ℕ) (line : List (List ℕ)) → (blank ≡ true → byte ≡ 32)
    → (line ≡ [] → ⊥) → joined (cond blank ([] ∷ line) (longer byte line)) ≡ byte ∷ joined line
joined-step false byte line is some = joined-longer byte line
joined-step true byte [] is some = absurd (some refl)
joined-step true byte (word ∷ more) is some = ap (λ (b : ℕ). b ∷ joined (word ∷ more)) (sym (is refl))

-- a line is its words, joined
pub joined-words : (line : List ℕ) → joined (words line) ≡ line
joined-words [] = refl
joined-words (byte ∷ bytes) =
    joined-step (nat_eq byte 32) byte (words bytes) (λ e. eqb-true byte 32 e) (words-some bytes) ∙ ap (λ (more : List ℕ). byte ∷ more) (joined-words bytes)
