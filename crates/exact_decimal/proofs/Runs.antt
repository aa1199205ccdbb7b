-- The longest front of bytes that pass a test.
use Rattle.std.proofs.Common.{◌≡◌, ℕ, suc, ◌+◌, ◌<◌, Bool, true, false, List, [], ◌∷◌, ◌++◌, take, arith, ◌∙◌, sym, ap, refl, subst}
use Rattle.std.specs.List.{prefix_len, AllPass}
use Rattle.std.proofs.lemmas.List.{get_or-take, take-append-drop, append-nil}
use Rattle.std.proofs.lemmas.List.Folds.{length-prefix_len}
use Rattle.std.proofs.lemmas.List.Sums.{prefix_len_passes}
use Rattle.exact_decimal.specs.Parts.{front, behind}

pub passes_front : (p : ℕ → Bool) (text : List ℕ) → AllPass p (front p text)
passes_front p text k d within =
    let inside : k < prefix_len p text = omega (arith, within, length-prefix_len p text) in
    ap p (get_or-take (prefix_len p text) text k d inside) ∙ prefix_len_passes p text k d inside

pub front_passes : (p : ℕ → Bool) (text taken : List ℕ) (n : ℕ) → n ≡ prefix_len p text
    → taken ≡ take n text → AllPass p taken
front_passes p text taken n e f = subst (AllPass p) (sym (f ∙ ap (λ m. take m text) e)) (passes_front p text)

pub front_and_behind : (p : ℕ → Bool) (text : List ℕ) → text ≡ front p text ++ behind p text
front_and_behind p text = sym (take-append-drop (prefix_len p text) text)

tail_passes : (p : ℕ → Bool) (x : ℕ) (xs : List ℕ) → AllPass p (x ∷ xs) → AllPass p xs
tail_passes p x xs all k d within = all (suc k) d (omega arith)

pub head_passes : (p : ℕ → Bool) (x : ℕ) (xs : List ℕ) → AllPass p (x ∷ xs) → p x ≡ true
head_passes p x xs all = all 0 0 (omega arith)

-- the test fails at the first byte, where there is one
abbrev pub Stops : (ℕ → Bool) → List ℕ → Type 0
Stops p [] = Unit {0}
Stops p (x ∷ xs) = p x ≡ false

-- a run of bytes that pass, before one that doesn't
pub record IsCutAt (p : ℕ → Bool) (xs ys : List ℕ) : Type 0 where
  pub front : front p (xs ++ ys) ≡ xs
  pub behind : behind p (xs ++ ys) ≡ ys

pub cut_at : (p : ℕ → Bool) (xs ys : List ℕ) → AllPass p xs → Stops p ys → IsCutAt p xs ys
cut_at p [] [] all stops = record { front = refl; behind = refl }
cut_at p [] (y ∷ ys) all stops = record { front = rw stops refl; behind = rw stops refl }
cut_at p (x ∷ xs) ys all stops =
    let here = head_passes p x xs all in
    let more = cut_at p xs ys (tail_passes p x xs all) stops in
    let next : 1 + prefix_len p (xs ++ ys) ≡ suc (prefix_len p (xs ++ ys)) = omega arith in
    record { front = rw (here, next) (ap (λ l. x ∷ l) more.front); behind = rw (here, next) more.behind }

pub all_behind : (p : ℕ → Bool) (text : List ℕ) → AllPass p text → behind p text ≡ []
all_behind p text all = rw (append-nil text) at (cut_at p text [] all tt).behind

pub all_passed : (p : ℕ → Bool) (text : List ℕ) → behind p text ≡ [] → AllPass p text
all_passed p text e =
    let whole : front p text ≡ text = sym (front_and_behind p text ∙ (ap (λ l. front p text ++ l) e ∙ append-nil (front p text))) in
    subst (AllPass p) whole (passes_front p text)
