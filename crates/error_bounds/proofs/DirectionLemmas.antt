-- Vectors over values as the code holds them.
use Rattle.std.proofs.Common.{◌≡◌, ℤ, pos, Bool, true, false, not, ◌&&◌, length, List, [], ◌∷◌, Option, Some, None, option_and_then, Result, Ok, Err, refl}
use Rattle.std.specs.Prelude.{neg_ℤ}
use Rattle.std.proofs.lemmas.Bool.{and_parts}
use Rattle.grid_model.specs.Sizes.{IsWithin}
use Rattle.toml.specs.Data.{Data}
use Rattle.toml.specs.View.{items_view}
use Rattle.toml.specs.declared.value.Value.{Value}
use Rattle.error_bounds.specs.Forms.{Vectors, all_members, as_integers, as_vector, vector_of, some_vectors, is_few, of_kind, three, each, is_within, is_vector}
use Rattle.error_bounds.specs.declared.fault.Fault.{Fault}
use Rattle.error_bounds.specs.declared.fault.Fault.TheVariants.{Outside}
use Rattle.error_bounds.proofs.FormLemmas.{from_between, members_long}

component : (n : ℤ) → is_within 1000000 n ≡ true → IsWithin 1000000 n
component n h =
    let (low, high) = from_between (neg_ℤ (pos 1000000)) (pos 1000000) n h in
    record { low = low; high = high }

pub components_within : (x y z : ℤ) → is_vector x y z ≡ true
    → IsWithin 1000000 x × IsWithin 1000000 y × IsWithin 1000000 z
components_within x y z h =
    let (within, some) = and_parts (each (is_within 1000000) x y z) (not (each (is_within 0) x y z)) h in
    let (two, third) = and_parts (is_within 1000000 x && is_within 1000000 y) (is_within 1000000 z) within in
    let (first, second) = and_parts (is_within 1000000 x) (is_within 1000000 y) two in
    (component x first, component y second, component z third)

not_both : {V : Type 0} {v : V} {fault : Fault} → ◌≡◌ {A = Result V Fault} (Ok v) (Err fault) → ⊥
not_both e = cc

-- what isn't three whole numbers is no vector
pub no_vector : (d : Data) (fault : Fault)
    → ((passes : ℤ → ℤ → ℤ → Bool) → of_kind (as_integers d) (three passes) ≡ Err fault)
    → None ≡ as_vector d
no_vector d fault h = by_members (as_integers d) h
  where
    by_members : (o : Option (List ℤ))
        → ((passes : ℤ → ℤ → ℤ → Bool) → of_kind o (three passes) ≡ Err fault)
        → None ≡ option_and_then vector_of o
    by_members None h = refl
    by_members (Some []) h = refl
    by_members (Some (x ∷ [])) h = refl
    by_members (Some (x ∷ y ∷ [])) h = refl
    by_members (Some (x ∷ y ∷ z ∷ [])) h = absurd (not_both (h (λ a b c. true)))
    by_members (Some (x ∷ y ∷ z ∷ w ∷ ns)) h = refl

-- ---- how many they are

pub another_number : (vs : List Value) → is_few (length vs) ≡ false
    → Err Outside ≡ some_vectors (all_members as_vector (items_view vs))
another_number vs h = by_members (all_members as_vector (items_view vs)) (members_long as_vector vs)
  where
    by_members : (o : Option (List (ℤ × ℤ × ℤ))) → ((ns : List (ℤ × ℤ × ℤ)) → o ≡ Some ns → length ns ≡ length vs)
        → Err Outside ≡ some_vectors o
    by_members None long = refl
    by_members (Some ns) long = rw (long ns refl, h) refl

pub all_read : (vs : List Value) (ns : List (ℤ × ℤ × ℤ)) → is_few (length vs) ≡ true
    → all_members as_vector (items_view vs) ≡ Some ns
    → Ok (Vectors ns) ≡ some_vectors (all_members as_vector (items_view vs))
all_read vs ns h is = rw (is, members_long as_vector vs ns is, h) refl
