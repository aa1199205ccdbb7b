use Rattle.std.proofs.Common.{◌+◌, arith, refl, ◌∙◌, map}
use Rattle.grid_model.specs.Boxes.{grid_box}
use Rattle.relaxed_meet.specs.TestValues.{test_value}
use Rattle.box_contraction.specs.Adding.{step_value}
use Rattle.box_contraction.specs.Cuts.{proposed}
use Rattle.box_contraction.proofs.SomeUnderway.{no_cuts_yet, one_proposal, some_cut}
use Rattle.box_contraction.proofs.proposal.cut_by_pairs.Goals as goal

pub loop-round-init : goal.loop-round-init
loop-round-init c = record {
  underway = no_cuts_yet (test_value c.args.test.now) c.args.id (grid_box c.args.part.now) (map step_value c.args.steps.now.items);
  few = omega arith;
  same = refl;
}

pub returns-then-not-is_much_shorter-clause-cut : goal.returns-then-not-is_much_shorter-clause-cut
returns-then-not-is_much_shorter-clause-cut c =
    let test = test_value c.args.test.now in
    let start = grid_box c.args.part.now in
    let before = map step_value c.args.steps.now.items in
    let left = grid_box c.cut_faces.new.part in
    let last = map step_value c.cut_faces.new.steps.items in
    some_cut test c.args.id (c.loop-round.round + 1) start before left last (omega (arith, c.loop-round-test.true))
    (one_proposal test (test_value c.proposed_in-proposed.new.test) c.args.id c.loop-round.round (proposed (grid_box c.proposed_in-proposed.result)) start before (grid_box c.loop-round.part) left
    (map step_value c.loop-round.steps.items) last (c.proposed_in-proposed.ensures.same ∙ c.loop-round.invariant.same) c.loop-round.invariant.underway c.cut_faces.ensures.cut)

pub loop-round-preserved : goal.loop-round-preserved
loop-round-preserved c = record {
  underway = one_proposal (test_value c.args.test.now) (test_value c.proposed_in-proposed.new.test) c.args.id c.loop-round.round (proposed (grid_box c.proposed_in-proposed.result))
      (grid_box c.args.part.now) (map step_value c.args.steps.now.items) (grid_box c.loop-round.part) (grid_box c.cut_faces.new.part) (map step_value c.loop-round.steps.items)
      (map step_value c.cut_faces.new.steps.items) (c.proposed_in-proposed.ensures.same ∙ c.loop-round.invariant.same) c.loop-round.invariant.underway c.cut_faces.ensures.cut;
  few = omega (arith, c.loop-round.invariant.few, c.cut_faces.ensures.few);
  same = c.cut_faces.ensures.same ∙ c.proposed_in-proposed.ensures.same ∙ c.loop-round.invariant.same;
}
