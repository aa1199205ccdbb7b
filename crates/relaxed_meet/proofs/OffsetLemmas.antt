-- Spans that hold an offset, or lie above or up to it, counted over the front of a list.
use Rattle.std.proofs.Common.{◌≡◌, ℕ, zero, suc, ◌+◌, ◌<◌, ◌≤◌, List, [], ◌∷◌, ◌++◌, length, get_or, take, map, count_by, cond, arith, refl, sym, Bool, true, false, not, ◌&&◌, ap}
use Rattle.std.specs.Prelude.{ℤ, pos, ◌-ℤ◌, ◌≤ℤ◌, ◌<ℤ◌, IsTrue, ◌↔◌}
use Rattle.std.proofs.lemmas.Int.{ints, by_lt_z}
use Rattle.std.proofs.lemmas.List.{map_more}
use Rattle.std.proofs.lemmas.List.Sums.{sum_by-append, sum_by-cons}
use lib.Signed.{le_z}
use Rattle.sat_model.specs.Relaxed.{holds}

-- a span that lies above b doesn't hold it
pub not_held_below : (above : Bool) (lo hi b : ℤ) → above ≡ true → IsTrue above ↔ b <ℤ lo
    → not above ≡ holds (lo, hi) b
not_held_below above lo hi b t p =
    let less : b <ℤ lo = p.0 t in
    let no : le_z lo b ≡ false = grind (arith, ints, less) in
    rw (t, no) refl

-- one that doesn't holds it exactly where it isn't up to the number before
pub held_from : (above up_to : Bool) (lo hi b : ℤ) → above ≡ false → IsTrue above ↔ b <ℤ lo
    → IsTrue up_to ↔ hi ≤ℤ (b -ℤ pos 1) → not up_to ≡ holds (lo, hi) b
held_from above true lo hi b f p q =
    let less : hi ≤ℤ (b -ℤ pos 1) = q.0 refl in
    let no : le_z b hi ≡ false = grind (arith, ints, less) in
    neither (le_z lo b) (le_z b hi) no
  where
    neither : (x y : Bool) → y ≡ false → false ≡ (x && y)
    neither true y e = sym e
    neither false y e = refl
held_from above false lo hi b f p q =
    let from : lo ≤ℤ b = by_lt_z b lo (λ h. absurd (let t = p.1 h in cc)) (λ h. h) in
    let to : b ≤ℤ hi = by_lt_z hi b (λ h. absurd (let t = q.1 (omega (arith, ints, h)) in cc)) (λ h. h) in
    let yes : le_z lo b ≡ true = grind (arith, ints, from) in
    let yes_too : le_z b hi ≡ true = grind (arith, ints, to) in
    rw (yes, yes_too) refl

-- one more of a list is counted where it passes
pub one_more : {X : Type 0} (f : X → ℤ × ℤ) (p : ℤ × ℤ → Bool) (xs : List X) (i : ℕ) (x : X)
    → i < length xs → x ≡ get_or xs i x
    → count_by p (map f (take (i + 1) xs)) ≡ count_by p (map f (take i xs)) + cond (p (f x)) 1 0
one_more f p xs i x within reads =
    let e : map f (take (i + 1) xs) ≡ map f (take i xs) ++ f (get_or xs i x) ∷ [] = map_more f xs i x within in
    let same : f x ≡ f (get_or xs i x) = ap f reads in
    let sum = sum_by-append (λ t. cond (p t) 1 0) (map f (take i xs)) (f (get_or xs i x) ∷ []) in
    let last = sum_by-cons (λ t. cond (p t) 1 0) (f (get_or xs i x)) [] in
    rw (e, same) (omega (arith, sum, last))

-- no more are counted in front than in all
pub in_front : {X : Type 0} (f : X → ℤ × ℤ) (p : ℤ × ℤ → Bool) (xs : List X) (i : ℕ)
    → count_by p (map f (take i xs)) ≤ count_by p (map f xs)
in_front f p [] zero = omega arith
in_front f p [] (suc i) = omega arith
in_front f p (x ∷ xs) zero = omega arith
in_front f p (x ∷ xs) (suc i) =
    omega (arith, sum_by-cons (λ t. cond (p t) 1 0) (f x) (map f (take i xs)), sum_by-cons (λ t. cond (p t) 1 0) (f x) (map f xs), in_front f p xs i)
