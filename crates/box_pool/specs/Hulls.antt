-- The hull of items: the least box round the boxes of all of them.
use Rattle.std.specs.Prelude.{◌≡◌, ◌≢◌, ℕ, List, [], ◌∷◌, Option, Some, None}
use Rattle.grid_model.specs.Boxes.{GridBox, grid_box, IsInside}
use Rattle.grid_model.specs.declared.boxes.Box3.{Box3}
use Rattle.box_pool.specs.declared.item.Item.{Item}
use Rattle.box_pool.specs.Lists.{list_at, AllEmpty}

abbrev pub AllItemsInside : List Item → GridBox → Type 0
AllItemsInside [] whole = Unit {0}
AllItemsInside (item ∷ items) whole = IsInside (grid_box item.part) whole × AllItemsInside items whole

-- the least box that the items of all lists lie in
pub record IsHullOfAll (lists : List (List Item)) (hull : GridBox) : Type 0 where
  pub some : AllEmpty lists → ⊥
  pub holds : (bucket : ℕ) → AllItemsInside (list_at lists bucket) hull
  pub least : (whole : GridBox) → ((bucket : ℕ) → AllItemsInside (list_at lists bucket) whole)
      → IsInside hull whole

-- ---- the same for the items of one list. No public clause cites it

pub record IsHull (items : List Item) (hull : GridBox) : Type 0 where
  pub some : items ≢ []
  pub holds : AllItemsInside items hull
  pub least : (whole : GridBox) → AllItemsInside items whole → IsInside hull whole

abbrev pub IsHullOf : List Item → Option Box3 → Type 0
IsHullOf items None = items ≡ []
IsHullOf items (Some hull) = IsHull items (grid_box hull)
