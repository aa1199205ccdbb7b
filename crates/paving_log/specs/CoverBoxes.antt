-- The cover of a block: the boxes that its steps close inside or at the edge.
use Rattle.std.specs.Prelude.{List, [], map, filter, Option, None, Some}
use Rattle.grid_model.specs.Boxes.{GridBox}
use Rattle.sat_model.specs.Events.{steps_in}
use Rattle.sat_model.specs.Cover.{is_kept}
use Rattle.sat_model.specs.Fold.{first_boxes, ShownStep, pieces}
use Rattle.sat_model.specs.Logs.{Body}
use Rattle.subpaving.specs.Folding.{StepsFold}

-- each step of a block with this body can be taken
abbrev pub BodyFolds : Option Body → Type 0
BodyFolds None = Unit {0}
BodyFolds (Some body) = StepsFold (first_boxes body.root) (steps_in body.events)

-- the boxes of in and edge steps
abbrev pub kept_parts : List ShownStep → List GridBox
kept_parts parts = map (λ piece. piece.part) (filter is_kept parts)

-- the boxes that are closed inside or at the edge, in order of closing
abbrev pub cover_of : Option Body → List GridBox
cover_of None = []
cover_of (Some body) = kept_parts (pieces body.root (steps_in body.events))
