-- The hull of boxes: the least box that holds them all.
use Rattle.std.specs.Prelude.{◌≡◌, true, List, [], ◌∷◌, Option, None, Some}
use Rattle.grid_model.specs.Boxes.{GridBox, box_holds}
use Rattle.grid_model.specs.declared.boxes.Pos.{Pos}
use Rattle.grid_model.specs.Hulls.{joined_box}
use Rattle.sat_model.specs.Contractors.{LiesIn}

abbrev pub hull_with : Option GridBox → GridBox → Option GridBox
hull_with None part = Some part
hull_with (Some hull) part = Some (joined_box hull part)

-- of a hull and more boxes
abbrev pub hull_behind : Option GridBox → List GridBox → Option GridBox
hull_behind hull [] = hull
hull_behind hull (part ∷ more) = hull_behind (hull_with hull part) more

-- none where there are none
abbrev pub hull_of : List GridBox → Option GridBox
hull_of parts = hull_behind None parts

-- where there is one it lies in this box
abbrev pub HullLies : Option GridBox → GridBox → Type 0
HullLies None box = Unit {0}
HullLies (Some hull) box = LiesIn hull box

-- there is one, and it holds the point
abbrev pub HullHolds : Option GridBox → Pos → Type 0
HullHolds None p = ⊥
HullHolds (Some hull) p = box_holds hull p ≡ true
