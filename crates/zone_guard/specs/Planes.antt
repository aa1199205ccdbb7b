-- Directions, planes, and which points of the grid lie behind a plane.
use Rattle.std.specs.Prelude.{◌≡◌, true, ℤ, ◌+ℤ◌, ◌*ℤ◌, ◌≤ℤ◌, ◌<ℤ◌, List, map}
use Rattle.std.specs.List.{AllByRecursion}
use Rattle.grid_model.specs.Boxes.{GridBox, box_holds}
use Rattle.grid_model.specs.declared.boxes.Pos.{Pos}
use Rattle.zone_guard.specs.declared.planes.HalfSpace.{HalfSpace}
use Rattle.zone_guard.specs.declared.planes.Plane.{Plane}

-- the product of a direction and a point: AX * x + AY * y + AZ * z
abbrev pub dot : Pos → Pos → ℤ
dot a p = (a.x *ℤ p.x) +ℤ ((a.y *ℤ p.y) +ℤ (a.z *ℤ p.z))

-- a direction, and the greatest product that a point behind the plane has with it
pub record PlaneValue : Type 0 where
  pub along : Pos
  pub most : ℤ

abbrev pub plane_value : HalfSpace → PlaneValue
plane_value s = record { along = s.along.vector; most = s.most }

abbrev pub any_plane : Plane → PlaneValue
any_plane s = record { along = s.along; most = s.most }

abbrev pub plane_values : List HalfSpace → List PlaneValue
plane_values sides = map plane_value sides

abbrev pub IsBehind : Pos → PlaneValue → Type 0
IsBehind p s = dot s.along p ≤ℤ s.most

-- a point of the prism with these sides, or within these bounds, lies behind each of them
abbrev pub IsInPrism : List PlaneValue → Pos → Type 0
IsInPrism sides p = AllByRecursion (IsBehind p) sides

-- no grid point of the box lies behind the plane
abbrev pub LiesBeyond : GridBox → PlaneValue → Type 0
LiesBeyond part s = (p : Pos) → box_holds part p ≡ true → s.most <ℤ dot s.along p
