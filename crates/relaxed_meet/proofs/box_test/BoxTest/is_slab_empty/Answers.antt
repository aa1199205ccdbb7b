use Rattle.std.proofs.Common.{refl}
use Rattle.grid_model.specs.Boxes.{grid_box}
use Rattle.relaxed_meet.specs.TestValues.{test_value}
use Rattle.relaxed_meet.proofs.TestLemmas.{empty_by_spans}
use Rattle.relaxed_meet.proofs.box_test.BoxTest.is_slab_empty.Goals as goal

pub returns-then-shown_empty-clause-empty : goal.returns-then-shown_empty-clause-empty
returns-then-shown_empty-clause-empty c =
    (λ t. empty_by_spans (test_value c.args.self.now) (grid_box c.args.slab.now) (c.shown_empty.ensures.0 c.if-shown_empty.true), λ e. refl)
