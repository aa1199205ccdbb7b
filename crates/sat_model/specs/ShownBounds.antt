-- Which bounds of an epoch are shown. What fits lies in the kept boxes, so the first bound holds over
-- their hull, and each later one over what the bounds before it leave of that hull: one along an axis
-- moves a face. A bound is shown there by rows that hold there.
use Rattle.std.specs.Prelude.{◌≡◌, ℕ, ◌+◌, ◌⊎◌, List, [], ◌∷◌, Option, Some}
use Rattle.grid_model.specs.Boxes.{GridBox, IsInside}
use Rattle.sat_model.specs.Bounds.{BoundValue, lines_of_bound}
use Rattle.sat_model.specs.Events.{Event, Made, Renewed, RowsOver, steps_in}
use Rattle.sat_model.specs.Fold.{pieces}
use Rattle.sat_model.specs.HalfSpaces.{ShowHalfSpace}
use Rattle.sat_model.specs.KeptHulls.{kept_hull}
use Rattle.sat_model.specs.MovedFaces.{hull_under}

-- the rows in use behind these events: those of the last renewal, or the first ones
abbrev pub rows_behind : RowsOver → List Event → RowsOver
rows_behind rows [] = rows
rows_behind rows (Made step ∷ events) = rows_behind rows events
rows_behind rows (Renewed new ∷ events) = rows_behind new events

-- The rows by which bounds are shown over a hull: those in use at the end, where it lies in their
-- box, and else the first ones.
abbrev pub AreOver : GridBox → RowsOver → List Event → RowsOver → Type 0
AreOver hull first events rows =
    (IsInside hull (rows_behind first events).part × (rows ≡ rows_behind first events))
    ⊎ ((IsInside hull (rows_behind first events).part → ⊥) × (rows ≡ first))

-- where so many satellites may be inconsistent, in an epoch with these first rows, over its root,
-- and these events
module _ (q : ℕ) (first : RowsOver) (events : List Event) where
  -- there is a hull, and the sums show the half-space over it
  pub record IsBoundShown (hull : Option GridBox) (bound : BoundValue) : Type 0 where
    pub part : GridBox
    pub is_hull : hull ≡ Some part
    pub over : RowsOver
    pub are_over : AreOver part first events over
    pub shows : ShowHalfSpace over.rows part q bound.half bound.sums

  abbrev pub AreShownOver : Option GridBox → List BoundValue → Type 0
  AreShownOver hull [] = Unit {0}
  AreShownOver hull (bound ∷ more) =
      IsBoundShown hull bound × AreShownOver (hull_under bound.half hull) more

  -- the line of the first bound that isn't shown is k lines on
  abbrev pub IsFirstUnshownOver : Option GridBox → List BoundValue → ℕ → Type 0
  IsFirstUnshownOver hull [] k = ⊥
  IsFirstUnshownOver hull (bound ∷ more) k = ((IsBoundShown hull bound → ⊥) × (k ≡ 0))
      ⊎ (IsBoundShown hull bound × ((m : ℕ) × (k ≡ lines_of_bound bound + m)
      × IsFirstUnshownOver (hull_under bound.half hull) more m))

  abbrev pub AreBoundsShown : List BoundValue → Type 0
  AreBoundsShown bounds = AreShownOver (kept_hull (pieces first.part (steps_in events))) bounds

  abbrev pub IsFirstUnshown : List BoundValue → ℕ → Type 0
  IsFirstUnshown bounds k =
      IsFirstUnshownOver (kept_hull (pieces first.part (steps_in events))) bounds k
