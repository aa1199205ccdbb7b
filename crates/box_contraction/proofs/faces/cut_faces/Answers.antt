use Rattle.std.proofs.Common.{arith, subst, ◌∙◌, map}
use Rattle.grid_model.specs.Boxes.{grid_box}
use Rattle.sat_model.specs.BoxTests.{BoxTest}
use Rattle.relaxed_meet.specs.TestValues.{test_value}
use Rattle.box_contraction.specs.Cuts.{IsCutTo}
use Rattle.box_contraction.specs.Targets.{bounds_of}
use Rattle.box_contraction.specs.Adding.{AddsCuts, step_value}
use Rattle.box_contraction.proofs.FacesUnderway.{one_face, all_cut}
use Rattle.box_contraction.proofs.faces.cut_faces.Goals as goal

pub loop-face-preserved : goal.loop-face-preserved
loop-face-preserved c =
    let done = IsCutTo (test_value c.args.test.now) c.args.id (bounds_of c.args.target.now) in
    let cut : AddsCuts (done c.loop-face.face (grid_box c.loop-face.part)) (map step_value c.loop-face.steps.items) (grid_box c.cut_face.new.part) (map step_value c.cut_face.new.steps.items) =
    subst (λ (t : BoxTest). AddsCuts (IsCutTo t c.args.id (bounds_of c.args.target.now) c.loop-face.face (grid_box c.loop-face.part)) (map step_value c.loop-face.steps.items) (grid_box c.cut_face.new.part) (map step_value c.cut_face.new.steps.items))
    c.loop-face.invariant.same c.cut_face.ensures.cut in
    record {
      underway = one_face done c.loop-face.face (grid_box c.args.part.now) (map step_value c.args.steps.now.items) (grid_box c.loop-face.part) (grid_box c.cut_face.new.part)
          (map step_value c.loop-face.steps.items) (map step_value c.cut_face.new.steps.items) c.loop-face-test.true c.loop-face.invariant.underway cut;
      few = omega (arith, c.loop-face.invariant.few, c.cut_face.ensures.few);
      same = c.cut_face.ensures.same ∙ c.loop-face.invariant.same;
    }

pub returns-clause-cut : goal.returns-clause-cut
returns-clause-cut c = all_cut (IsCutTo (test_value c.args.test.now) c.args.id (bounds_of c.args.target.now)) c.loop-face.face (grid_box c.args.part.now) (map step_value c.args.steps.now.items)
    (grid_box c.loop-face.part) (map step_value c.loop-face.steps.items) c.loop-face-test.false c.loop-face.invariant.underway
