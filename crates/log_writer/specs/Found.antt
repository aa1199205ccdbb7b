-- The bounds that were found one after another, from a hull on, and written. No public clause cites
-- it.
use Rattle.std.specs.Prelude.{◌≡◌, ◌⊎◌, ℕ, List, [], ◌∷◌, ◌++◌, map, Some, Result}
use Rattle.std.specs.List.{flat_map, AllByRecursion}
use Rattle.bound_directions.specs.declared.direction.Direction.{Direction}
use Rattle.bound_search.specs.declared.search.Bound.{Bound}
use Rattle.grid_model.specs.Boxes.{GridBox, IsInside}
use Rattle.log_lines.specs.Text.{bound_lines, BoundFits}
use Rattle.sat_model.specs.Bounds.{BoundValue}
use Rattle.sat_model.specs.declared.rows.Row.{Row}
use Rattle.sat_model.specs.Events.{Event, RowsOver, rows_over}
use Rattle.sat_model.specs.MovedFaces.{box_under}
use Rattle.sat_model.specs.Pairs.{FormValue, form_of}
use Rattle.sat_model.specs.ShownBounds.{rows_behind, AreShownOver}
use Rattle.log_writer.specs.declared.fault.WriteFault.{WriteFault}
use Rattle.log_writer.specs.Bounding.{AreAxes, AreAlong}
use Rattle.log_writer.specs.Pieces.{alone}
use Rattle.log_writer.specs.Writing.{Seen, Written}

abbrev pub bound_value : Bound → BoundValue
bound_value bound = record { half = bound.half; sums = bound.sums.items }

-- what bounds leave of a hull, one after another
abbrev pub left_by : GridBox → List BoundValue → GridBox
left_by hull [] = hull
left_by hull (bound ∷ more) = left_by (box_under bound.half hull) more

-- the forms over a hull of the rows in use at the end, where it lies in their box, and else of the
-- first ones
abbrev pub AreFormsOver : (first : List Row) → (used : RowsOver) → GridBox → List FormValue → Type 0
AreFormsOver first used hull forms =
    (IsInside hull used.part × (forms ≡ map (form_of hull) used.rows))
    ⊎ ((IsInside hull used.part → ⊥) × (forms ≡ map (form_of hull) first))

-- At most one along each direction, each shown over what those before leave of the hull, in an epoch
-- with these first rows, at whose end these rows are in use, where so many satellites may be
-- inconsistent.
pub record AreFound (first : List Row) (used : RowsOver) (q : ℕ) (list : List Direction)
    (hull : GridBox) (bounds : List BoundValue) : Type 0 where
  pub along : AreAlong list bounds
  pub fit : AllByRecursion BoundFits bounds
  pub shown : (root : GridBox) → (events : List Event)
      → rows_behind (rows_over root first) events ≡ used
      → AreShownOver q (rows_over root first) events (Some hull) bounds

-- Those that were found were written, or the last of them broke off. So much is left of the hull.
pub record WroteFound {T : Type 0} (first : List Row) (used : RowsOver) (q : ℕ)
    (list : List Direction) (hull left : GridBox) (before : Seen) (result : Result T WriteFault)
    (after : Seen) : Type 0 where
  pub bounds : List BoundValue
  pub found : AreFound first used q list hull bounds
  pub leaves : left ≡ left_by hull bounds
  pub written : Written before (map alone (flat_map bound_lines bounds)) result after

-- the same along the axes, and behind that along these directions
pub record WroteBounds {T : Type 0} (first : List Row) (used : RowsOver) (q : ℕ)
    (list : List Direction) (hull : GridBox) (before : Seen) (result : Result T WriteFault)
    (after : Seen) : Type 0 where
  pub axes : List Direction
  pub are_axes : AreAxes axes
  pub left : GridBox
  pub wrote : WroteFound first used q (axes ++ list) hull left before result after
