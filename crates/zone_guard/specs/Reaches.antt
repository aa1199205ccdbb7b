-- How far some boxes reach along a direction.
use Rattle.std.specs.Prelude.{◌≡◌, ◌⊎◌, true, ℤ, ◌≤ℤ◌, List, [], ◌∷◌, Option, None, Some}
use Rattle.grid_model.specs.Boxes.{GridBox, box_holds}
use Rattle.grid_model.specs.declared.boxes.Pos.{Pos}
use Rattle.zone_guard.specs.Planes.{dot}
use Rattle.zone_guard.specs.declared.planes.Extent.{Extent}

-- one of the boxes holds the point
abbrev pub AreHolding : List GridBox → Pos → Type 0
AreHolding [] p = ⊥
AreHolding (part ∷ more) p = (box_holds part p ≡ true) ⊎ AreHolding more p

-- a point of the boxes has this product
pub record IsProductIn (a : Pos) (boxes : List GridBox) (n : ℤ) : Type 0 where
  pub point : Pos
  pub holding : AreHolding boxes point
  pub product : dot a point ≡ n

-- the least and the greatest product of the direction and a grid point of the boxes, which corners
-- of boxes have
pub record IsExtent (a : Pos) (boxes : List GridBox) (e : Extent) : Type 0 where
  pub all : (p : Pos) → AreHolding boxes p → (e.least ≤ℤ dot a p) × (dot a p ≤ℤ e.greatest)
  pub least : IsProductIn a boxes e.least
  pub greatest : IsProductIn a boxes e.greatest

-- and none where there are no boxes
abbrev pub IsReach : Pos → List GridBox → Option Extent → Type 0
IsReach a boxes None = boxes ≡ []
IsReach a boxes (Some e) = IsExtent a boxes e
