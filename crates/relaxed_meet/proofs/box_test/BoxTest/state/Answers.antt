use Rattle.std.proofs.Common.{refl}
use Rattle.relaxed_meet.specs.TestValues.{test_value}
use Rattle.relaxed_meet.proofs.TestLemmas.{decided_by_spans, not_by_spans, undecided_by_both}
use Rattle.relaxed_meet.proofs.box_test.BoxTest.state.Goals as goal

pub returns-in_default : goal.returns-in_default
returns-in_default c = record {
  state = decided_by_spans (test_value c.args.self.now) c.args.part.now c.box_state-state.result c.box_state-state.ensures c.in_default.not-Undecided;
  same = refl;
}

pub returns-clause-state : goal.returns-clause-state
returns-clause-state c =
    let test = test_value c.args.self.now in
    let by_pairs = c.pairs_show_empty.ensures.shows (not_by_spans test c.args.part.now c.box_state-state.result c.in-Undecided.hull c.in-Undecided.is c.box_state-state.ensures) in
    undecided_by_both test c.args.part.now c.box_state-state.result c.in-Undecided.hull c.in-Undecided.is c.box_state-state.ensures
    (λ e. let t = by_pairs.1 e in let f = c.if-pairs_show_empty.false in absurd cc)
