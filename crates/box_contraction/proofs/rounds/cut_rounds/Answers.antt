use Rattle.std.proofs.Common.{◌≢◌, arith, refl, subst, ◌∙◌, map, length}
use Rattle.std.proofs.lemmas.List.{length-map}
use Rattle.grid_model.specs.Boxes.{grid_box}
use Rattle.sat_model.specs.BoxTests.{BoxTest}
use Rattle.relaxed_meet.specs.TestValues.{test_value}
use Rattle.box_contraction.specs.Cuts.{eighths, all_faces, AreFacesCut}
use Rattle.box_contraction.specs.Adding.{AddsCuts, step_value}
use Rattle.box_contraction.proofs.BoxLemmas.{grid_part}
use Rattle.box_contraction.proofs.RoundsUnderway.{no_rounds_yet, rounds_so_far_few, one_round, last_round, grown}
use Rattle.box_contraction.proofs.rounds.cut_rounds.Goals as goal

pub rounds-init : goal.rounds-init
rounds-init c = record {
  underway = no_rounds_yet (test_value c.args.test.now) c.args.id (grid_box c.args.part.now) (map step_value c.args.steps.now.items) (grid_part c.args.part.now);
  few = omega arith;
  same = refl;
}

pub returns-then-len-before-clause-cut : goal.returns-then-len-before-clause-cut
returns-then-len-before-clause-cut c =
    last_round (test_value c.args.test.now) c.args.id (grid_box c.args.part.now) (map step_value c.args.steps.now.items)
    (grid_box c.rounds.part) (grid_box c.cut_faces.new.part) (map step_value c.rounds.steps.items) (map step_value c.cut_faces.new.steps.items) c.rounds.invariant.underway
    (subst (λ (t : BoxTest). AddsCuts (AreFacesCut t c.args.id eighths all_faces (grid_box c.rounds.part)) (map step_value c.rounds.steps.items) (grid_box c.cut_faces.new.part) (map step_value c.cut_faces.new.steps.items))
    c.rounds.invariant.same c.cut_faces.ensures.cut)
    (omega (arith, length-map c.rounds.steps.items step_value, length-map c.cut_faces.new.steps.items step_value, c.if-len-before.true, c.len.ensures.value, c.len-before.ensures.value))

pub rounds-smaller : goal.rounds-smaller
rounds-smaller c =
    let test = test_value c.args.test.now in
    let before = map step_value c.args.steps.now.items in
    let now = map step_value c.rounds.steps.items in
    let last = map step_value c.cut_faces.new.steps.items in
    let cut : AddsCuts (AreFacesCut test c.args.id eighths all_faces (grid_box c.rounds.part)) now (grid_box c.cut_faces.new.part) last =
    subst (λ (t : BoxTest). AddsCuts (AreFacesCut t c.args.id eighths all_faces (grid_box c.rounds.part)) now (grid_box c.cut_faces.new.part) last) c.rounds.invariant.same c.cut_faces.ensures.cut in
    let grew : length last ≢ length now = omega (arith, length-map c.rounds.steps.items step_value, length-map c.cut_faces.new.steps.items step_value, c.if-len-before.false, c.len.ensures.value, c.len-before.ensures.value) in
    let next = one_round test c.args.id (grid_box c.args.part.now) before (grid_box c.rounds.part) (grid_box c.cut_faces.new.part) now last c.rounds.invariant.underway cut grew in
    let few = rounds_so_far_few test c.args.id (grid_box c.args.part.now) before (grid_box c.cut_faces.new.part) last next in
    let more = grown now last cut.cuts cut.added in
    omega (arith, grew, few, more, length-map c.args.steps.now.items step_value, length-map c.rounds.steps.items step_value, length-map c.cut_faces.new.steps.items step_value)

pub rounds-preserved : goal.rounds-preserved
rounds-preserved c =
    let test = test_value c.args.test.now in
    let before = map step_value c.args.steps.now.items in
    let now = map step_value c.rounds.steps.items in
    let last = map step_value c.cut_faces.new.steps.items in
    let cut : AddsCuts (AreFacesCut test c.args.id eighths all_faces (grid_box c.rounds.part)) now (grid_box c.cut_faces.new.part) last =
    subst (λ (t : BoxTest). AddsCuts (AreFacesCut t c.args.id eighths all_faces (grid_box c.rounds.part)) now (grid_box c.cut_faces.new.part) last) c.rounds.invariant.same c.cut_faces.ensures.cut in
    let grew : length last ≢ length now = omega (arith, length-map c.rounds.steps.items step_value, length-map c.cut_faces.new.steps.items step_value, c.if-len-before.false, c.len.ensures.value, c.len-before.ensures.value) in
    let next = one_round test c.args.id (grid_box c.args.part.now) before (grid_box c.rounds.part) (grid_box c.cut_faces.new.part) now last c.rounds.invariant.underway cut grew in
    record {
      underway = next;
      few = omega (arith, rounds_so_far_few test c.args.id (grid_box c.args.part.now) before (grid_box c.cut_faces.new.part) last next, length-map c.args.steps.now.items step_value, length-map c.cut_faces.new.steps.items step_value);
      same = c.cut_faces.ensures.same ∙ c.rounds.invariant.same;
    }
