use Rattle.std.proofs.Common.{◌≡◌, ℕ, ◌-◌, arith, sym, subst, refl, [], ◌∷◌, ◌++◌, option_map, ap, ◌∙◌, take, length}
use Rattle.std.proofs.lemmas.List.{take_all}
use Rattle.grid_model.specs.Boxes.{grid_box, side_at, span_side}
use Rattle.sat_model.specs.Trees.{TreeValue, Relaxed, count_trees}
use Rattle.sat_model.specs.Contractors.{Contractor, sides_of}
use Rattle.sat_model.specs.Proposals.{IsTied}
use Rattle.range_contractor.specs.Hulls.{AreInside}
use Rattle.range_contractor.specs.Views.{tree_value, tree_values}
use Rattle.range_contractor.proofs.KidLemmas.{repeat_more, repeat_same, repeat_none, repeat_done, turn_more, turn_none, sound_from, count_kids, whole_hulls, whole_more, smaller_more, tied_more, sides_append, answers_inside, relaxed_answer}
use Rattle.range_contractor.proofs.ViewLemmas.{view_relaxed}
use Rattle.range_contractor.proofs.BoxLemmas.{box_lies, same_coordinates}
use Rattle.range_contractor.proofs.contraction.+contraction.Goals as goal
use Rattle.range_contractor.proofs.contraction.+contraction.Goals.{most_leave_all-then-not-is_all+else-smaller-q, most_leave_all-else-not-is_all}

pub again-returns-in_default : goal.again-returns-in_default
again-returns-in_default g t c =
    let I = g.I.Interval in
    let Run : Contractor = λ b a. IsTied (tree_value I.low I.high c.args.kid.now) I.GRAIN I.SLACK (span_side c.args.clock.now) b a in
    repeat_none c.args.rounds c.loop-round.round Run (grid_box c.args.part.now) (grid_box c.loop-round.left) c.loop-round-test.true (c.in_default.ensures) c.loop-round.invariant

pub again-returns-then-eq : goal.again-returns-then-eq
again-returns-then-eq g t c =
    let I = g.I.Interval in
    let Run : Contractor = λ b a. IsTied (tree_value I.low I.high c.args.kid.now) I.GRAIN I.SLACK (span_side c.args.clock.now) b a in
    let same : grid_box c.in-Some.kept ≡ grid_box c.loop-round.left = same_coordinates c.in-Some.kept c.loop-round.left (sym c.eq.ensures ∙ c.if-eq.true) in
    repeat_same c.args.rounds c.loop-round.round Run (grid_box c.args.part.now) (grid_box c.loop-round.left) (rw same at c.in-Some.ensures) c.loop-round.invariant

pub again-loop-round-preserved : goal.again-loop-round-preserved
again-loop-round-preserved g t c =
    let I = g.I.Interval in
    let Run : Contractor = λ b a. IsTied (tree_value I.low I.high c.args.kid.now) I.GRAIN I.SLACK (span_side c.args.clock.now) b a in
    repeat_more c.args.rounds c.loop-round.round Run (grid_box c.args.part.now) (grid_box c.loop-round.left) (grid_box c.in-Some.kept) c.loop-round-test.true c.in-Some.ensures c.loop-round.invariant

pub again-returns : goal.again-returns
again-returns g t c =
    let I = g.I.Interval in
    let Run : Contractor = λ b a. IsTied (tree_value I.low I.high c.args.kid.now) I.GRAIN I.SLACK (span_side c.args.clock.now) b a in
    repeat_done c.args.rounds c.loop-round.round Run (grid_box c.args.part.now) (grid_box c.loop-round.left) c.loop-round-test.false c.loop-round.invariant

pub in_turn-returns-in-None : goal.in_turn-returns-in-None
in_turn-returns-in-None g t c =
    let I = g.I.Interval in
    turn_none (tree_value I.low I.high) c.args.kids.now I.GRAIN I.SLACK (span_side c.args.clock.now) (grid_box c.args.part.now) c.loop-kid.kid-index c.kid-item.result (grid_box c.loop-kid.left)
    c.loop-kid-test.true c.kid-item.is c.in-None.ensures c.loop-kid.invariant.goes_on

pub in_turn-loop-kid-preserved : goal.in_turn-loop-kid-preserved
in_turn-loop-kid-preserved g t c =
    let I = g.I.Interval in
    record {
      sound = (sound_from (tree_value I.low I.high) c.args.kids.now c.loop-kid.kid-index c.kid-item.result c.loop-kid-test.true c.kid-item.is c.loop-kid.invariant.sound).1;
      goes_on = turn_more (tree_value I.low I.high) c.args.kids.now I.GRAIN I.SLACK (span_side c.args.clock.now) (grid_box c.args.part.now) c.loop-kid.kid-index c.kid-item.result (grid_box c.loop-kid.left) (grid_box c.in-Some.kept)
          c.loop-kid-test.true c.kid-item.is c.in-Some.ensures c.loop-kid.invariant.goes_on;
    }

pub contraction-returns-in-Relaxed : goal.contraction-returns-in-Relaxed
contraction-returns-in-Relaxed g t c =
    let I = g.I.Interval in
    let e = ap (λ T. tree_value I.low I.high T) c.in-Relaxed.is ∙ view_relaxed I.low I.high c.in-Relaxed.q c.in-Relaxed.kids ∙ ap (λ l. Relaxed c.in-Relaxed.q (tree_values I.low I.high l)) (sym c.deref-in-Relaxed.ensures.value) in
    subst (λ (v : TreeValue). IsTied v I.GRAIN I.SLACK (span_side c.args.clock.now) (grid_box c.args.part.now) (option_map grid_box c.relaxed_part.result)) (sym e) c.relaxed_part.ensures

pub most_leave_all-returns : goal.most_leave_all-returns
most_leave_all-returns g t c = λ yes.
    let I = g.I.Interval in
    let i = c.loop-kid.invariant in
    let part = grid_box c.args.part.now in
    let n = count_kids (tree_value I.low I.high) c.args.kids.now in
    let lies = box_lies c.args.part.now in
    let all : take c.loop-kid.kid-index c.args.kids.now ≡ c.args.kids.now = take_all c.loop-kid.kid-index c.args.kids.now c.loop-kid-test.false in
    let inside : (axis : ℕ) → AreInside (side_at axis part) (sides_of axis i.answers) = λ axis.
    answers_inside axis (tree_values I.low I.high (take c.loop-kid.kid-index c.args.kids.now)) I.GRAIN I.SLACK (span_side c.args.clock.now) part i.answers lies i.tied in
    let q = c.requires.0 in
    let done = c.loop-kid-test.false in
    let few = i.few in
    (i.answers, rw all at i.tied, whole_hulls i.answers (count_trees (tree_values I.low I.high c.args.kids.now) - c.args.q) c.loop-kid.kid-index c.loop-kid.smaller part lies (omega arith) (omega arith) inside i.most)

pub most_leave_all-loop-kid-preserved : goal.most_leave_all-loop-kid-preserved
most_leave_all-loop-kid-preserved g t c =
    let I = g.I.Interval in
    let i = c.loop-kid.invariant in
    let part = grid_box c.args.part.now in
    let answer = option_map grid_box c.contraction.result in
    let sound = (sound_from (tree_value I.low I.high) c.args.kids.now c.loop-kid.kid-index c.kid-item.result c.loop-kid-test.true c.kid-item.is i.sound).1 in
    let tied = tied_more (tree_value I.low I.high) c.args.kids.now c.loop-kid.kid-index c.kid-item.result I.GRAIN I.SLACK (span_side c.args.clock.now) part i.answers answer
    c.loop-kid-test.true c.kid-item.is i.tied c.contraction.ensures in
    elim c.if-not-is_all.branch [
      | most_leave_all-then-not-is_all+else-smaller-q w ↦
          record {
            sound = sound;
            few = omega (arith, i.few, w.smaller-is, w.if-smaller-q.false);
            answers = i.answers ++ answer ∷ [];
            tied = tied;
            most = rw w.smaller-is (smaller_more i.answers answer c.loop-kid.kid-index c.loop-kid.smaller part i.most);
          }
      | most_leave_all-else-not-is_all w ↦
          record {
            sound = sound;
            few = omega (arith, i.few, w.smaller-is);
            answers = i.answers ++ answer ∷ [];
            tied = tied;
            most = rw w.smaller-is (whole_more i.answers answer c.loop-kid.kid-index c.loop-kid.smaller part (w.if-not-is_all.ensures refl) i.most);
          }
    ]

pub relaxed_part-add_sides-requires : goal.relaxed_part-add_sides-requires
relaxed_part-add_sides-requires g t c =
    let I = g.I.Interval in
    let n = count_kids (tree_value I.low I.high) c.args.kids.now in
    let few = c.requires.1 in
    let i = c.loop-kid.invariant.few in
    let h = c.loop-kid-test.true in
    (omega (arith, i.0), omega (arith, i.1), omega (arith, i.2))

pub relaxed_part-overflow_cast-kids : goal.relaxed_part-overflow_cast-kids
relaxed_part-overflow_cast-kids g t c =
    let I = g.I.Interval in
    let n = count_kids (tree_value I.low I.high) c.args.kids.now in
    let few = c.requires.1 in
    record { fits = omega arith }

pub relaxed_part-overflow_sub-kids : goal.relaxed_part-overflow_sub-kids
relaxed_part-overflow_sub-kids g t c =
    let I = g.I.Interval in
    let n = count_kids (tree_value I.low I.high) c.args.kids.now in
    let q = c.requires.0 in
    omega arith

pub relaxed_part-hull_box-requires : goal.relaxed_part-hull_box-requires
relaxed_part-hull_box-requires g t c =
    let I = g.I.Interval in
    let n = count_kids (tree_value I.low I.high) c.args.kids.now in
    let q = c.requires.0 in
    let few = c.requires.1 in
    let i = c.loop-kid.invariant.few in
    let lies = box_lies c.args.part.now in
    let e = c.loop-kid.auto.kid-index-end in
    let inside : (axis : ℕ) → AreInside (side_at axis (grid_box c.args.part.now)) (sides_of axis c.loop-kid.invariant.answers) = λ axis.
    answers_inside axis (tree_values I.low I.high (take c.loop-kid.kid-index c.args.kids.now)) I.GRAIN I.SLACK (span_side c.args.clock.now) (grid_box c.args.part.now) c.loop-kid.invariant.answers lies c.loop-kid.invariant.tied in
    record {
      need = omega arith;
      few = (omega (arith, i.0), omega (arith, i.1), omega (arith, i.2));
      x_inside = rw c.loop-kid.invariant.x (inside 0);
      y_inside = rw c.loop-kid.invariant.y (inside 1);
      z_inside = rw c.loop-kid.invariant.z (inside 2);
    }

pub relaxed_part-loop-kid-preserved : goal.relaxed_part-loop-kid-preserved
relaxed_part-loop-kid-preserved g t c =
    let I = g.I.Interval in
    let i = c.loop-kid.invariant in
    let answer = option_map grid_box c.contraction.result in
    record {
      sound = (sound_from (tree_value I.low I.high) c.args.kids.now c.loop-kid.kid-index c.kid-item.result c.loop-kid-test.true c.kid-item.is i.sound).1;
      few = (omega (arith, i.few.0, c.add_sides.ensures.few.0), omega (arith, i.few.1, c.add_sides.ensures.few.1), omega (arith, i.few.2, c.add_sides.ensures.few.2));
      answers = i.answers ++ answer ∷ [];
      tied = tied_more (tree_value I.low I.high) c.args.kids.now c.loop-kid.kid-index c.kid-item.result I.GRAIN I.SLACK (span_side c.args.clock.now) (grid_box c.args.part.now) i.answers answer
          c.loop-kid-test.true c.kid-item.is i.tied c.contraction.ensures;
      x = c.add_sides.ensures.x ∙ ap (λ l. l ++ sides_of 0 (answer ∷ [])) i.x ∙ sym (sides_append 0 i.answers (answer ∷ []));
      y = c.add_sides.ensures.y ∙ ap (λ l. l ++ sides_of 1 (answer ∷ [])) i.y ∙ sym (sides_append 1 i.answers (answer ∷ []));
      z = c.add_sides.ensures.z ∙ ap (λ l. l ++ sides_of 2 (answer ∷ [])) i.z ∙ sym (sides_append 2 i.answers (answer ∷ []));
    }

pub relaxed_part-returns : goal.relaxed_part-returns
relaxed_part-returns g t c =
    let I = g.I.Interval in
    let i = c.loop-kid.invariant in
    let n = count_kids (tree_value I.low I.high) c.args.kids.now in
    let all : take c.loop-kid.kid-index c.args.kids.now ≡ c.args.kids.now = take_all c.loop-kid.kid-index c.args.kids.now c.loop-kid-test.false in
    let hulls = rw (i.x, i.y, i.z) at c.hull_box.ensures in
    let need : length c.args.kids.now - c.args.q ≡ count_trees (tree_values I.low I.high c.args.kids.now) - c.args.q = omega arith in
    (i.answers, rw all at i.tied, rw need at (relaxed_answer i.answers (length c.args.kids.now - c.args.q) _ hulls))
