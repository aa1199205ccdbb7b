-- The bounds of an epoch: at most one in each of the directions that are asked for, and before these
-- at most one each way along each axis.
use Rattle.std.specs.Prelude.{◌≡◌, ℕ, ◌≤◌, ◌⊎◌, ℤ, pos, negsuc, List, [], ◌∷◌, ◌++◌, length, map}
use Rattle.std.specs.Prelude.{Option, None, Some}
use Rattle.std.specs.List.{AllByRecursion}
use Rattle.bound_directions.specs.Directions.{IsDirectionsOf}
use Rattle.bound_directions.specs.declared.direction.Direction.{Direction}
use Rattle.bound_directions.specs.declared.directions.Directions.{Directions}
use Rattle.bound_search.specs.Directions.{IsAlong}
use Rattle.log_lines.specs.Text.{BoundFits}
use Rattle.sat_model.specs.Bounds.{BoundValue}
use Rattle.sat_model.specs.Events.{Event, RowsOver}
use Rattle.sat_model.specs.ShownBounds.{AreBoundsShown}
use Rattle.log_writer.specs.Sizes.{most_bounds}

-- the unit vectors of the axes, each with its opposite
abbrev pub axis_vectors : List (ℤ × ℤ × ℤ)
axis_vectors = (pos 1, pos 0, pos 0) ∷ (negsuc 0, pos 0, pos 0)
    ∷ (pos 0, pos 1, pos 0) ∷ (pos 0, negsuc 0, pos 0)
    ∷ (pos 0, pos 0, pos 1) ∷ (pos 0, pos 0, negsuc 0) ∷ []

-- the directions with these vectors, in this order
abbrev pub AreAxes : List Direction → Type 0
AreAxes axes = map (λ (d : Direction). (d.x, d.y, d.z)) axes ≡ axis_vectors

-- they are along some of the directions, in the same order, at most one along each
abbrev pub AreAlong : List Direction → List BoundValue → Type 0
AreAlong directions [] = Unit {0}
AreAlong [] (bound ∷ bounds) = ⊥
AreAlong (direction ∷ directions) (bound ∷ bounds) =
    (IsAlong direction bound.half × AreAlong directions bounds)
    ⊎ AreAlong directions (bound ∷ bounds)

-- They are along these directions, before which those along the axes may come, fit in lines, and
-- are shown one after another, where so many satellites may be inconsistent, by the first rows and
-- these events.
pub record AreBoundsAlong (directions : Directions) (q : ℕ) (first : RowsOver)
    (events : List Event) (bounds : List BoundValue) : Type 0 where
  pub list : List Direction
  pub are_they : IsDirectionsOf directions list
  pub axes : List Direction
  pub are_axes : AreAxes axes
  pub few : length (axes ++ list) ≤ most_bounds
  pub along : AreAlong (axes ++ list) bounds
  pub fit : AllByRecursion BoundFits bounds
  pub shown : AreBoundsShown q first events bounds

-- where bounds are asked for, and else there are none
abbrev pub AreBoundsFor : Option Directions → ℕ → RowsOver → List Event → List BoundValue
    → Type 0
AreBoundsFor None q first events bounds = bounds ≡ []
AreBoundsFor (Some directions) q first events bounds =
    AreBoundsAlong directions q first events bounds
