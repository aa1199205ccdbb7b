-- What bounds the live boxes of each group of 512 numbers. No public clause cites this.
use Rattle.std.specs.Prelude.{◌≡◌, ◌≢◌, ℕ, ◌/◌, List, slice_index_or, Option, None, Some}
use Rattle.grid_model.specs.declared.boxes.Box3.{Box3}
use Rattle.grid_model.specs.Boxes.{grid_box, IsInside}

-- a box lies in another
abbrev pub LiesIn : (part whole : Box3) → Type 0
LiesIn part whole = IsInside (grid_box part) (grid_box whole)

-- a bound is there, and the box lies in it
abbrev pub Holds : (bound : Option Box3) → Box3 → Type 0
Holds bound part = (bound ≢ None) × ((hull : Box3) → bound ≡ Some hull → LiesIn part hull)

-- the box of this number is live
abbrev pub IsLiveAt : (boxes : List (Option Box3)) → ℕ → Box3 → Type 0
IsLiveAt boxes id part = slice_index_or boxes id None ≡ Some part

-- a live box doesn't lie in this one
abbrev pub HasBeyond : (whole : Box3) → (boxes : List (Option Box3)) → Type 0
HasBeyond whole boxes =
    (id : ℕ) × (part : Box3) × IsLiveAt boxes id part × (LiesIn part whole → ⊥)

-- where the box of a number is live, it lies in this one
abbrev pub IsIn : (whole : Box3) → (boxes : List (Option Box3)) → ℕ → Type 0
IsIn whole boxes id = (part : Box3) → IsLiveAt boxes id part → LiesIn part whole

-- ... and a bound holds it
abbrev pub IsBoundOf : (bound : Option Box3) → (boxes : List (Option Box3)) → ℕ → Type 0
IsBoundOf bound boxes id = (part : Box3) → IsLiveAt boxes id part → Holds bound part

-- the bound of each number's group does
abbrev pub AreGrouped : (boxes bounds : List (Option Box3)) → Type 0
AreGrouped boxes bounds =
    (id : ℕ) → IsBoundOf (slice_index_or bounds (id / 512) None) boxes id

-- what the bounds held is held
abbrev pub AreWider : (before after : List (Option Box3)) → Type 0
AreWider before after = (group : ℕ) (part : Box3)
    → Holds (slice_index_or before group None) part
    → Holds (slice_index_or after group None) part
