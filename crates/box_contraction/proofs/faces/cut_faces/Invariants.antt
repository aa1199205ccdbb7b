use Rattle.std.proofs.Common.{◌≡◌, ◌+◌, ◌≤◌, map, length}
use Rattle.grid_model.specs.Boxes.{grid_box}
use Rattle.relaxed_meet.specs.TestValues.{test_value}
use Rattle.box_contraction.specs.Cuts.{IsCutTo}
use Rattle.box_contraction.specs.Targets.{bounds_of}
use Rattle.box_contraction.specs.Adding.{step_value}
use Rattle.box_contraction.proofs.FacesUnderway.{FacesUnderway}
use Rattle.box_contraction.proofs.faces.cut_faces.Given as goal

abbrev pub invariant-loop-face : goal.invariant-loop-face
invariant-loop-face l = record {
  underway : FacesUnderway (IsCutTo (test_value l.fn.test) l.id (bounds_of l.target)) l.face (grid_box l.fn.part) (map step_value l.fn.steps.items) (grid_box l.part) (map step_value l.steps.items);
  few : length l.steps.items ≤ length l.fn.steps.items + l.face;
  same : test_value l.test ≡ test_value l.fn.test;
}
