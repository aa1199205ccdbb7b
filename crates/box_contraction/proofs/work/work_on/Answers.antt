use Rattle.std.proofs.Common.{◌≡◌, List, [], ◌∷◌, ◌++◌, arith, inl, inr, refl, sym, subst, ◌∙◌, map, ap, length}
use Rattle.std.proofs.lemmas.List.{map-append, length-append}
use Rattle.std.specs.Prelude.{ℤ}
use Rattle.grid_model.specs.Boxes.{GridBox, grid_box}
use Rattle.grid_model.specs.declared.spans.Span.{Span}
use Rattle.sat_model.specs.BoxTests.{BoxTest}
use Rattle.sat_model.specs.Fold.{ShownStep}
use Rattle.sat_model.specs.Waiting.{WaitingBox, IsUndecided}
use Rattle.relaxed_meet.specs.BoxStates.{IsBoxState}
use Rattle.relaxed_meet.specs.TestValues.{test_value}
use Rattle.relaxed_meet.specs.declared.shown.BoxState.{BoxState}
use Rattle.relaxed_meet.specs.declared.shown.BoxState.TheVariants.{Undecided}
use Rattle.box_contraction.specs.BoxSteps.{IsCut}
use Rattle.box_contraction.specs.Adding.{AddsCuts, step_value}
use Rattle.box_contraction.specs.declared.box_step.BoxStep.{BoxStep}
use Rattle.box_contraction.proofs.BoxLemmas.{box_steps_are, not_undecided, state_at, undecided_of}
use Rattle.box_contraction.proofs.work.work_on.Goals as goal

all_of : (before : List BoxStep) (cuts : List ShownStep) (last : BoxStep) (now after : List BoxStep)
    → before ≡ [] → map step_value now ≡ map step_value before ++ cuts → after ≡ now ++ last ∷ []
    → map step_value after ≡ cuts ++ step_value last ∷ []
all_of before cuts last now after empty put pushed =
    ap (λ (l : List BoxStep). map step_value l) pushed ∙ map-append step_value now (last ∷ []) ∙ ap (λ (l : List ShownStep). l ++ step_value last ∷ []) (put ∙ ap (λ (l : List BoxStep). map step_value l ++ cuts) empty)

pub returns-in_default : goal.returns-in_default
returns-in_default g c =
    let test = test_value c.args.test.now in
    let box : WaitingBox = record { id = c.args.next.now.id; part = grid_box c.args.next.now.part } in
    let not = not_undecided test box.part c.state-state.result c.in_default.not-Undecided c.state-state.ensures.state in
    record {
      steps = box_steps_are g.I.Interval.GRAIN g.I.Interval.SLACK test c.args.rules.now c.args.splits box box.part c.closing_step-step.result [] (map step_value c.push.new.self.items)
          (inr (not, refl, refl)) (c.closing_step-step.ensures test c.state-state.ensures.state)
          (ap (λ (l : List BoxStep). map step_value l) (c.push.ensures.items ∙ ap (λ (l : List BoxStep). l ++ record { step = c.closing_step-step.result; part = c.args.next.now.part } ∷ []) c.requires.empty));
      few = omega (arith, ap length c.push.ensures.items, ap length c.requires.empty, length-append c.args.steps.now.items (record { step = c.closing_step-step.result; part = c.args.next.now.part } ∷ []));
      same = c.state-state.ensures.same;
    }

pub state_of_rest-state-requires : goal.state_of_rest-state-requires
state_of_rest-state-requires g c =
    record {
      before = subst (λ (s : BoxState). IsBoxState (test_value c.cut_box.new.test) (grid_box c.args.next.now.part) s) c.in-Undecided.is
          (state_at (test_value c.args.test.now) (test_value c.cut_box.new.test) (grid_box c.args.next.now.part) c.state-state.result
          (sym (c.cut_box.ensures.same ∙ c.state-state.ensures.same)) c.state-state.ensures.state);
    }

pub returns-clause-steps : goal.returns-clause-steps
returns-clause-steps g c =
    let test = test_value c.args.test.now in
    let box : WaitingBox = record { id = c.args.next.now.id; part = grid_box c.args.next.now.part } in
    let left = grid_box c.cut_box.new.part in
    let undecided = undecided_of test box.part c.state-state.result c.in-Undecided.hull c.in-Undecided.is c.state-state.ensures.state in
    let rest = state_at (test_value c.cut_box.new.test) test left c.state_of_rest-state.result (c.cut_box.ensures.same ∙ c.state-state.ensures.same) c.state_of_rest-state.ensures.state in
    let cut : AddsCuts (IsCut g.I.Interval.GRAIN g.I.Interval.SLACK test box.id box.part) (map step_value c.args.steps.now.items) left (map step_value c.cut_box.new.steps.items) =
    subst (λ (t : BoxTest). AddsCuts (IsCut g.I.Interval.GRAIN g.I.Interval.SLACK t box.id box.part) (map step_value c.args.steps.now.items) left (map step_value c.cut_box.new.steps.items)) c.state-state.ensures.same c.cut_box.ensures.cut in
    box_steps_are g.I.Interval.GRAIN g.I.Interval.SLACK test c.args.rules.now c.args.splits box left c.closing_step-step-2.result cut.cuts (map step_value c.push-2.new.self.items)
    (inl (undecided, cut.are)) (c.closing_step-step-2.ensures test rest)
    (all_of c.args.steps.now.items cut.cuts (record { step = c.closing_step-step-2.result; part = c.cut_box.new.part }) c.cut_box.new.steps.items c.push-2.new.self.items c.requires.empty cut.added c.push-2.ensures.items)
