-- A loop over a list, item by item.
use Rattle.std.proofs.Common.{◌≡◌, ℕ, ◌+◌, ◌<◌, ◌≤◌, List, [], ◌∷◌, ◌++◌, length, map, take, drop, get_or, inl, inr, sym, ap, ◌∙◌}
use Rattle.std.specs.Prelude.{◌↔◌}
use Rattle.std.specs.List.{AllByRecursion}
use Rattle.std.proofs.lemmas.List.{take_more, take_all, map-append}
use Rattle.grid_model.specs.Boxes.{grid_box}
use Rattle.grid_model.specs.declared.boxes.Box3.{Box3}
use Rattle.zone_guard.specs.Beyond.{IsSoOfOne}
use Rattle.grid_model.proofs.ListLemmas.{next_item, no_item}

-- what holds of the items from a place on is what holds of all of them
module _ {X Y : Type 0} (f : X → Y) (P : Y → Type 0) (xs : List X) where
  abbrev pub EachFrom : ℕ → Type 0
  EachFrom i = AllByRecursion P (map f (drop i xs)) ↔ AllByRecursion P (map f xs)

  pub each_next : (i : ℕ) (x : X) → i < length xs → x ≡ get_or xs i x → P (f x) → EachFrom i
      → EachFrom (i + 1)
  each_next i x within is holds from =
      let next = next_item xs i x within is in
      (λ rest. from.0 (rw next (holds, rest)), λ all. (rw next at (from.1 all)).1)

  pub each_not : (i : ℕ) (x : X) → i < length xs → x ≡ get_or xs i x → (P (f x) → ⊥) → EachFrom i
      → AllByRecursion P (map f xs) → ⊥
  each_not i x within is fails from all = fails (rw (next_item xs i x within is) at (from.1 all)).0

  pub each_held : (i : ℕ) → length xs ≤ i → EachFrom i → AllByRecursion P (map f xs)
  each_held i ended from = from.0 (rw (no_item xs i ended) tt)

-- and of one of them
module _ {X Y : Type 0} (f : X → Y) (P : Y → Type 0) (xs : List X) where
  abbrev pub OneFrom : ℕ → Type 0
  OneFrom i = IsSoOfOne P (map f (drop i xs)) ↔ IsSoOfOne P (map f xs)

  one_later : (x : X) (more : List X) → (P (f x) → ⊥) → IsSoOfOne P (map f (x ∷ more))
      → IsSoOfOne P (map f more)
  one_later x more not (inl here) = absurd (not here)
  one_later x more not (inr later) = later

  pub one_next : (i : ℕ) (x : X) → i < length xs → x ≡ get_or xs i x → (P (f x) → ⊥) → OneFrom i
      → OneFrom (i + 1)
  one_next i x within is not from =
      let next = next_item xs i x within is in
      (λ rest. from.0 (rw next (inr rest)), λ all. one_later x (drop (i + 1) xs) not (rw next at (from.1 all)))

  pub one_here : (i : ℕ) (x : X) → i < length xs → x ≡ get_or xs i x → P (f x) → OneFrom i
      → IsSoOfOne P (map f xs)
  one_here i x within is holds from = from.0 (rw (next_item xs i x within is) (inl holds))

  pub one_none : (i : ℕ) → length xs ≤ i → OneFrom i → IsSoOfOne P (map f xs) → ⊥
  one_none i ended from all = absurd (rw (no_item xs i ended) at (from.1 all))

-- the boxes up to a place
pub boxes_more : (boxes : List Box3) (i : ℕ) (b : Box3) → i < length boxes → b ≡ get_or boxes i b
    → map grid_box (take (i + 1) boxes) ≡ map grid_box (take i boxes) ++ grid_box b ∷ []
boxes_more boxes i b within is =
    ap (map grid_box) (take_more boxes i b within ∙ ap (λ (x : Box3). take i boxes ++ x ∷ []) (sym is)) ∙ map-append grid_box (take i boxes) (b ∷ [])

pub boxes_all : (boxes : List Box3) (i : ℕ) → length boxes ≤ i
    → map grid_box (take i boxes) ≡ map grid_box boxes
boxes_all boxes i ended = ap (map grid_box) (take_all i boxes ended)
