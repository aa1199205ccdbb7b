-- Texts of the same bytes, as they are compared.
use Rattle.std.proofs.Common.{◌≡◌, ℕ, List, [], ◌∷◌, true, refl, eqb}
use Rattle.std.proofs.lemmas.Bool.{eq-eqb}
use lib.Pointwise.{pointwise}

pub same_pointwise : (xs ys : List ℕ) → xs ≡ ys → pointwise eqb xs ys ≡ true
same_pointwise xs ys e = rw e (self ys)
  where
    self : (xs : List ℕ) → pointwise eqb xs xs ≡ true
    self [] = refl
    self (x ∷ xs) = rw (eq-eqb x x refl) (self xs)
