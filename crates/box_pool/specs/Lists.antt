-- What a caller sees of a pool: 48 lists of items, and how many nodes are spare.
use Rattle.std.specs.Prelude.{◌≡◌, ◌≢◌, ℕ, ◌<◌, List, [], ◌∷◌, ◌++◌, slice_index_or}
use Rattle.box_pool.specs.declared.item.Item.{Item}

pub record PoolLists : Type 0 where
  pub lists : List (List Item)
  pub spare : ℕ

-- the items that wait in a queue, the first one first
abbrev pub list_at : List (List Item) → ℕ → List Item
list_at lists bucket = slice_index_or lists bucket []

abbrev pub AllEmpty : List (List Item) → Type 0
AllEmpty lists = (bucket : ℕ) → list_at lists bucket ≡ []

-- the item is put last into one list
pub record IsPushed (old : List (List Item)) (bucket : ℕ) (item : Item)
    (new : List (List Item)) : Type 0 where
  pub added : list_at new bucket ≡ list_at old bucket ++ item ∷ []
  pub others : (other : ℕ) → other ≢ bucket → list_at new other ≡ list_at old other

-- the first item of one list is taken
pub record IsPopped (old : List (List Item)) (bucket : ℕ) (item : Item)
    (new : List (List Item)) : Type 0 where
  pub taken : list_at old bucket ≡ item ∷ list_at new bucket
  pub others : (other : ℕ) → other ≢ bucket → list_at new other ≡ list_at old other

-- the list has an item, and no list behind it has one
pub record IsGreatest (lists : List (List Item)) (bucket : ℕ) : Type 0 where
  pub filled : list_at lists bucket ≢ []
  pub none_greater : (greater : ℕ) → bucket < greater → list_at lists greater ≡ []
