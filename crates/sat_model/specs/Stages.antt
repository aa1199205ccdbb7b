-- The stages of an epoch: which boxes are live, and what boxes are tested by from there on.
use Rattle.grid_model.specs.Boxes.{GridBox}
use Rattle.sat_model.specs.BoxTests.{BoxTest}
use Rattle.sat_model.specs.Events.{Event, Made, Renewed}
use Rattle.sat_model.specs.Fold.{Subpaving, first_boxes, boxes_after}

pub record Stage : Type 0 where
  pub boxes : Subpaving
  pub test : BoxTest

abbrev pub first_stage : BoxTest → GridBox → Stage
first_stage test root = record { boxes = first_boxes root; test = test }

-- a step keeps the test; a renewal keeps the boxes, and puts its rows into the test
abbrev pub after : Stage → Event → Stage
after stage (Made step) = record { boxes = boxes_after stage.boxes step; test = stage.test }
after stage (Renewed new) = record {
  boxes = stage.boxes;
  test = record { rows = new.rows; q = stage.test.q; pairs = stage.test.pairs };
}
