-- The hull of the boxes that a block keeps.
use Rattle.std.specs.Prelude.{List, [], ◌∷◌, Option, None, Some}
use Rattle.grid_model.specs.Boxes.{GridBox}
use Rattle.sat_model.specs.Events.{steps_in}
use Rattle.sat_model.specs.Fold.{pieces}
use Rattle.sat_model.specs.KeptHulls.{kept_hull}
use Rattle.sat_model.specs.Logs.{Body, Block}

-- of the in and edge boxes of an epoch; none where it has none, or no body
abbrev pub hull_kept : Option Body → Option GridBox
hull_kept None = None
hull_kept (Some body) = kept_hull (pieces body.root (steps_in body.events))

-- of the last block
abbrev pub hull_of_last : Option GridBox → List Block → Option GridBox
hull_of_last hull [] = hull
hull_of_last hull (block ∷ more) = hull_of_last (hull_kept block.body) more
