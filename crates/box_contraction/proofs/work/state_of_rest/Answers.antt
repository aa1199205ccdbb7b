use Rattle.std.proofs.Common.{sym, subst, ◌∙◌}
use Rattle.grid_model.specs.Boxes.{GridBox}
use Rattle.relaxed_meet.specs.BoxStates.{IsBoxState}
use Rattle.relaxed_meet.specs.TestValues.{test_value}
use Rattle.range_contractor.proofs.BoxLemmas.{same_coordinates}
use Rattle.box_contraction.proofs.work.state_of_rest.Goals as goal

pub returns-then-eq-clause-state : goal.returns-then-eq-clause-state
returns-then-eq-clause-state c = subst (λ (b : GridBox). IsBoxState (test_value c.args.test.now) b c.args.state.now)
    (sym (same_coordinates c.args.left.now c.args.part.now (sym c.eq.ensures ∙ c.if-eq.true))) c.requires.before
