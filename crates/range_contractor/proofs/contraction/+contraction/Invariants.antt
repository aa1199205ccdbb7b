use Rattle.std.proofs.Common.{◌≡◌, ◌-◌, ◌≤◌, List, Option, map, take, drop, length}
use Rattle.grid_model.specs.Boxes.{GridBox, grid_box, span_side}
use Rattle.sat_model.specs.Relaxed.{ends}
use Rattle.sat_model.specs.Trees.{HaveSoundNodes}
use Rattle.sat_model.specs.Contractors.{Repeats, sides_of}
use Rattle.sat_model.specs.Proposals.{InTurn, AreTied, IsTied}
use Rattle.range_contractor.specs.Views.{tree_value, tree_values}
use Rattle.range_contractor.proofs.KidLemmas.{HoldMost}
use Rattle.range_contractor.proofs.contraction.+contraction.Given as goal

abbrev pub invariant-in_turn-loop-kid : goal.invariant-in_turn-loop-kid
invariant-in_turn-loop-kid g l =
    let I = g.I.Interval in
    record {
      sound : HaveSoundNodes (tree_values I.low I.high (drop l.kid-index l.kids));
      goes_on : (answer : Option GridBox)
          → InTurn (tree_values I.low I.high (drop l.kid-index l.kids)) I.GRAIN I.SLACK (span_side l.clock) (grid_box l.left) answer
          → InTurn (tree_values I.low I.high l.kids) I.GRAIN I.SLACK (span_side l.clock) (grid_box l.part) answer;
    }

abbrev pub invariant-again-loop-round : goal.invariant-again-loop-round
invariant-again-loop-round g l =
    let I = g.I.Interval in
    (answer : Option GridBox) → Repeats (l.rounds - l.round) (λ c a. IsTied (tree_value I.low I.high l.kid) I.GRAIN I.SLACK (span_side l.clock) c a) (grid_box l.left) answer
    → Repeats l.rounds (λ c a. IsTied (tree_value I.low I.high l.kid) I.GRAIN I.SLACK (span_side l.clock) c a) (grid_box l.part) answer

abbrev pub invariant-relaxed_part-loop-kid : goal.invariant-relaxed_part-loop-kid
invariant-relaxed_part-loop-kid g l =
    let I = g.I.Interval in
    record {
      sound : HaveSoundNodes (tree_values I.low I.high (drop l.kid-index l.kids));
      few : (length l.x.items ≤ l.kid-index) × (length l.y.items ≤ l.kid-index) × (length l.z.items ≤ l.kid-index);
      answers : List (Option GridBox);
      tied : AreTied (tree_values I.low I.high (take l.kid-index l.kids)) I.GRAIN I.SLACK (span_side l.clock) (grid_box l.part) answers;
      x : map ends l.x.items ≡ sides_of 0 answers;
      y : map ends l.y.items ≡ sides_of 1 answers;
      z : map ends l.z.items ≡ sides_of 2 answers;
    }

abbrev pub invariant-most_leave_all-loop-kid : goal.invariant-most_leave_all-loop-kid
invariant-most_leave_all-loop-kid g l =
    let I = g.I.Interval in
    record {
      sound : HaveSoundNodes (tree_values I.low I.high (drop l.kid-index l.kids));
      few : l.smaller ≤ l.q;
      answers : List (Option GridBox);
      tied : AreTied (tree_values I.low I.high (take l.kid-index l.kids)) I.GRAIN I.SLACK (span_side l.clock) (grid_box l.part) answers;
      most : HoldMost answers l.kid-index l.smaller (grid_box l.part);
    }
