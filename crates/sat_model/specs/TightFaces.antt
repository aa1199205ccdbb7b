-- How far one satellite has to contract a box: the box's layer at each face of the answer is tight,
-- that is, some range to it is one that the satellite allows, but for a slack.
use Rattle.std.specs.Prelude.{◌≡◌, ℕ, ◌+◌, ◌⊎◌, ℤ, pos, ◌+ℤ◌, ◌-ℤ◌, None, Some, Bool, true, false}
use Rattle.grid_model.specs.Boxes.{Side, GridBox, side_at, with_side}
use Rattle.grid_model.specs.Amounts.{least_amount, greatest_amount, square}
use Rattle.grid_model.specs.Intervals.{Between}
use Rattle.grid_model.specs.Roots.{root}
use Rattle.grid_model.specs.Rounding.{IsMultipleOf}
use Rattle.sat_model.specs.Contractors.{Contractor}
use Rattle.sat_model.specs.Trees.{LeafValue}

-- ---- faces

-- the end of a side at a low or at a high face
abbrev pub end_of : Bool → Side → ℤ
end_of true s = s.lo
end_of false s = s.hi

abbrev pub face_at : ℕ → Bool → GridBox → ℤ
face_at axis low c = end_of low (side_at axis c)

-- a face of the box, or a multiple of the grain
abbrev pub IsFaceOf : ℤ → ℤ → ℤ → Type 0
IsFaceOf grain old v = (v ≡ old) ⊎ IsMultipleOf grain v

-- the points of the box whose coordinate on the axis is v
abbrev pub layer : ℕ → GridBox → ℤ → GridBox
layer axis part v = with_side axis part (record { lo = v; hi = v })

-- ---- ranges

abbrev pub least_between : Side → Side → ℕ
least_between s c = least_amount s.lo s.hi c.lo c.hi

abbrev pub greatest_between : Side → Side → ℕ
greatest_between s c = greatest_amount s.lo s.hi c.lo c.hi

-- the least and the greatest range from a place of the leaf to a point of the box
unfoldable pub near_leaf : LeafValue → GridBox → ℕ
near_leaf leaf part =
    root (square (least_between leaf.x part.x) + square (least_between leaf.y part.y)
    + square (least_between leaf.z part.z))

unfoldable pub far_leaf : LeafValue → GridBox → ℕ
far_leaf leaf part =
    root (square (greatest_between leaf.x part.x) + square (greatest_between leaf.y part.y)
    + square (greatest_between leaf.z part.z))

-- the least and the greatest range that the leaf allows with an offset of the clock span
abbrev pub least_range : LeafValue → Side → ℤ
least_range leaf clock = leaf.range.lo -ℤ clock.hi -ℤ leaf.err.hi

abbrev pub greatest_range : LeafValue → Side → ℤ
greatest_range leaf clock = leaf.range.hi -ℤ clock.lo -ℤ leaf.err.lo

-- some range to the box is one that the leaf allows, widened by the slack at both ends
pub record IsTight (slack : ℤ) (leaf : LeafValue) (clock : Side) (part : GridBox) : Type 0 where
  pub range : ℤ
  pub reached : Between (pos (near_leaf leaf part)) (pos (far_leaf leaf part)) range
  pub wanted : Between (least_range leaf clock -ℤ slack) (greatest_range leaf clock +ℤ slack) range

-- ---- the answer

abbrev pub HasTightFaces : ℤ → LeafValue → Side → GridBox → GridBox → Type 0
HasTightFaces slack leaf clock part a =
    (axis : ℕ) (low : Bool) → IsTight slack leaf clock (layer axis part (face_at axis low a))

abbrev pub AreFacesOf : ℤ → GridBox → GridBox → Type 0
AreFacesOf grain part a =
    (axis : ℕ) (low : Bool) → IsFaceOf grain (face_at axis low part) (face_at axis low a)

abbrev pub IsTightAnswer : ℤ → ℤ → LeafValue → Side → Contractor
IsTightAnswer grain slack leaf clock part None = Unit {0}
IsTightAnswer grain slack leaf clock part (Some a) =
    HasTightFaces slack leaf clock part a × AreFacesOf grain part a
