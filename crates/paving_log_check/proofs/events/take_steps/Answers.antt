use Rattle.std.proofs.Common.{ℕ, suc, ◌≡◌, ◌+◌, ◌∷◌, ◌++◌, [], List, arith, length, take, drop, sym, ap, subst, ◌∙◌}
use Rattle.step_lines.specs.Steps.{steps_left}
use Rattle.sat_model.specs.Events.{Made}
use Rattle.sat_model.specs.Stages.{Stage, after}
use Rattle.sat_model.specs.Verdicts.{StepPasses, StepFails}
use Rattle.sat_model.specs.declared.steps.Step.{Step}
use Rattle.paving_log_check.specs.Steps.{stage_of, StepsPass, StepsFail, stage_behind}
use Rattle.paving_log_check.proofs.StepLemmas.{passes_more, stage_more, fails_next, is_next, some_taken, none_left}
use Rattle.paving_log_check.proofs.events.take_steps.Goals as goal

pub returns-in_default-clause-found : goal.returns-in_default-clause-found
returns-in_default-clause-found c =
    let old = steps_left c.args.ahead.now in
    let all = none_left old c.loop-i.i c.args.count (sym c.loop-i.invariant.left ∙ c.in_default.ensures.steps.0) (omega (arith, c.loop-i-test.true)) in
    subst (λ (l : List Step). StepsPass c.args.rules.now (stage_of c.args.live.now c.args.test.now) l) (sym all.0) c.loop-i.invariant.pass

pub returns-in_default-clause-stage : goal.returns-in_default-clause-stage
returns-in_default-clause-stage c =
    let old = steps_left c.args.ahead.now in
    let all = none_left old c.loop-i.i c.args.count (sym c.loop-i.invariant.left ∙ c.in_default.ensures.steps.0) (omega (arith, c.loop-i-test.true)) in
    c.loop-i.invariant.stage ∙ ap (λ l. stage_behind (stage_of c.args.live.now c.args.test.now) l) (sym all.0)

pub returns-in_default-clause-left : goal.returns-in_default-clause-left
returns-in_default-clause-left c =
    let old = steps_left c.args.ahead.now in
    let all = none_left old c.loop-i.i c.args.count (sym c.loop-i.invariant.left ∙ c.in_default.ensures.steps.0) (omega (arith, c.loop-i-test.true)) in
    c.in_default.ensures.steps.1 ∙ sym all.1

pub returns-in-Some-step_fault-clause-found : goal.returns-in-Some-step_fault-clause-found
returns-in-Some-step_fault-clause-found c =
    let old = steps_left c.args.ahead.now in
    let rules = c.args.rules.now in
    let first = stage_of c.args.live.now c.args.test.now in
    let i = c.loop-i.i in
    let number = c.in-Some-step_fault.number in
    let e : drop i old ≡ c.in-Some.step ∷ steps_left c.next.new.self = sym c.loop-i.invariant.left ∙ c.in-Some.ensures.steps in
    let at = is_next old i c.in-Some.step (steps_left c.next.new.self) e in
    let (rest, is) = some_taken old i c.args.count c.in-Some.step (steps_left c.next.new.self) e c.loop-i-test.true in
    let fails = fails_next rules first (take i old) rest c.in-Some.step number c.loop-i.invariant.pass
    (subst (λ (s : Stage). StepFails rules s c.in-Some.step number) c.loop-i.invariant.stage c.in-Some-step_fault.ensures.fault) in (
      i,
      rw c.plain_fault.ensures.number (subst (λ (k : ℕ). StepsFail rules first (take c.args.count old) k number) at.many
          (subst (λ (l : List Step). StepsFail rules first l (length (take i old)) number) (sym is) fails)),
      c.plain_fault.ensures.no_spans,
      c.plain_fault.ensures.line,
    )

pub loop-i-preserved : goal.loop-i-preserved
loop-i-preserved c =
    let old = steps_left c.args.ahead.now in
    let rules = c.args.rules.now in
    let first = stage_of c.args.live.now c.args.test.now in
    let inv = c.loop-i.invariant in
    let i = c.loop-i.i in
    let e : drop i old ≡ c.in-Some.step ∷ steps_left c.next.new.self = sym inv.left ∙ c.in-Some.ensures.steps in
    let at = is_next old i c.in-Some.step (steps_left c.next.new.self) e in
    let one : i + 1 ≡ suc i = omega arith in
    let takes : take (i + 1) old ≡ take i old ++ c.in-Some.step ∷ [] = ap (λ (n : ℕ). take n old) one ∙ at.taken in
    let here = subst (λ (s : Stage). StepPasses rules s c.in-Some.step) inv.stage c.in_default-step_fault.ensures.fault in
    record {
      pass = subst (λ (l : List Step). StepsPass rules first l) (sym takes) (passes_more rules first (take i old) c.in-Some.step inv.pass here);
      stage = rw (c.in_ok-take.ensures.ok, c.in_default-step_fault.ensures.same) (ap (λ (s : Stage). after s (Made c.in-Some.step)) inv.stage) ∙ sym (stage_more first (take i old) c.in-Some.step)
          ∙ ap (λ (l : List Step). stage_behind first l) (sym takes);
      left = sym (ap (λ (n : ℕ). drop n old) one ∙ at.left);
    }
