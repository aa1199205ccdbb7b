-- The hull of the boxes that the steps of an epoch close inside or at the edge.
use Rattle.std.specs.Prelude.{cond, List, [], ◌∷◌, Option, None, Some}
use Rattle.grid_model.specs.Boxes.{GridBox}
use Rattle.grid_model.specs.Hulls.{joined_box}
use Rattle.sat_model.specs.Fold.{ShownStep}
use Rattle.sat_model.specs.StepKinds.{is_kept_step}

abbrev pub hull_with : Option GridBox → GridBox → Option GridBox
hull_with None part = Some part
hull_with (Some hull) part = Some (joined_box hull part)

-- with the box that a step closes inside or at the edge
abbrev pub hull_after : Option GridBox → ShownStep → Option GridBox
hull_after hull shown = cond (is_kept_step shown.step) (hull_with hull shown.part) hull

abbrev pub hull_behind : Option GridBox → List ShownStep → Option GridBox
hull_behind hull [] = hull
hull_behind hull (shown ∷ more) = hull_behind (hull_after hull shown) more

-- none where no box is kept
abbrev pub kept_hull : List ShownStep → Option GridBox
kept_hull parts = hull_behind None parts
