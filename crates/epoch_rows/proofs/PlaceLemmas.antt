-- Places in lists.
use Rattle.std.proofs.Common.{◌≡◌, ℕ, zero, suc, List, [], ◌∷◌, subst}
use Rattle.std.specs.Prelude.{Some, slice_get}
use Rattle.std.specs.List.{AllByRecursion}
use Rattle.std.proofs.lemmas.Option.{same_Some}

pub each_at : {X : Type 0} (P : X → Type 0) (xs : List X) (i : ℕ) (x : X) → AllByRecursion P xs
    → slice_get xs i ≡ Some x → P x
each_at P [] i x all is = absurd cc
each_at P (y ∷ xs) zero x all is = subst P (same_Some y x is) all.0
each_at P (y ∷ xs) (suc i) x all is = each_at P xs i x all.1 is

pub each_as : {X : Type 0} (P Q : X → Type 0) (xs : List X) → ((x : X) → P x → Q x)
    → AllByRecursion P xs → AllByRecursion Q xs
each_as P Q [] both all = tt
each_as P Q (x ∷ xs) both all = (both x all.0, each_as P Q xs both all.1)
