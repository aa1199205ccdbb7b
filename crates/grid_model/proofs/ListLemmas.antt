-- Lists from an item on, and filtered.
use Rattle.std.proofs.Common.{◌≡◌, ℕ, zero, suc, ◌+◌, ◌-◌, ◌<◌, ◌≤◌, arith, Bool, true, false, List, [], ◌∷◌, ◌++◌, length, get_or, take, drop, refl, sym, ap, ◌∙◌, add-one}
use Rattle.std.specs.List.{filter}
use Rattle.std.proofs.Math.Seq.{drop-cons}
use Rattle.std.proofs.lemmas.Grind.{common_steps}

pub next_item : {X : Type 0} (xs : List X) (i : ℕ) (x : X) → i < length xs → x ≡ get_or xs i x
    → drop i xs ≡ x ∷ drop (i + 1) xs
next_item xs i x within is = rw add-one (drop-cons xs i x within ∙ ap (λ y. y ∷ drop (suc i) xs) (sym is))

pub no_item : {X : Type 0} (xs : List X) (i : ℕ) → length xs ≤ i → drop i xs ≡ []
no_item xs i h = grind (arith, common_steps)

pub all_dropped : (text : List ℕ) (n : ℕ) → take (length text - n) (drop n text) ≡ drop n text
all_dropped text n = grind (arith, common_steps)

pub cut_at : (text : List ℕ) (end byte : ℕ) → end < length text → get_or text end 0 ≡ byte
    → text ≡ take end text ++ byte ∷ drop (suc end) text
cut_at [] end byte lt is = absurd (omega arith)
cut_at (first ∷ more) zero byte lt is = ap (λ (b : ℕ). b ∷ more) is
cut_at (first ∷ more) (suc end) byte lt is = ap (λ (later : List ℕ). first ∷ later) (cut_at more end byte (omega arith) is)

pub filter_yes : {X : Type 0} (p : X → Bool) (x : X) (xs : List X) → p x ≡ true
    → filter p (x ∷ xs) ≡ x ∷ filter p xs
filter_yes p x xs e = rw e refl

pub filter_no : {X : Type 0} (p : X → Bool) (x : X) (xs : List X) → p x ≡ false
    → filter p (x ∷ xs) ≡ filter p xs
filter_no p x xs e = rw e refl
