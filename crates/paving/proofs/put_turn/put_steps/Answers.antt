use Rattle.std.proofs.Common.{List, [], ◌∷◌, map, take, drop, suc, arith, refl, sym, subst}
use Rattle.std.proofs.lemmas.Result.{err_from_is_err_and}
use Rattle.sat_model.specs.Fold.{ShownStep}
use Rattle.box_contraction.specs.Adding.{step_value}
use Rattle.paving.specs.Taken.{TookAll}
use Rattle.paving.specs.declared.steps.StepFault.TheVariants.{Full}
use Rattle.paving.proofs.TakingLemmas.{took_both, same_fault}
use Rattle.paving.proofs.TakingLemmas.{steps_whole, steps_longer, counted_one, has_room}
use Rattle.paving.proofs.put_turn.put_steps.Goals as goal

pub returns-in_err-step-clause-broken : goal.returns-in_err-step-clause-broken
returns-in_err-step-clause-broken g c =
    let p = err_from_is_err_and c.from_residual.result c.from_residual.ensures.1 in
    let fault = c.in_err-step.field-0.0 in
    rw (p.1, p.2) (record {
      steps = map step_value (take c.loop-shown.shown-index c.args.steps.now);
      next = step_value c.shown-item.result;
      more = map step_value (drop (suc c.loop-shown.shown-index) c.args.steps.now);
      whole = steps_whole c.args.steps.now c.loop-shown.shown-index c.shown-item.result c.loop-shown-test.true c.shown-item.is;
      before = c.loop-shown.log;
      taken = c.loop-shown.invariant.taken;
      broken = c.in_err-step.ensures.broke;
      full = same_fault fault Full _ c.in_err-step.ensures.full;
    })

pub add-requires : goal.add-requires
add-requires g c =
    let (before, counted, room) = c.requires.room in
    has_room c.loop-shown.counts c.args.steps.now c.loop-shown.shown-index before c.loop-shown-test.true room (c.loop-shown.invariant.counts before counted)

pub loop-shown-preserved : goal.loop-shown-preserved
loop-shown-preserved g c =
    let i = c.loop-shown.invariant in
    let longer = steps_longer c.args.steps.now c.loop-shown.shown-index c.shown-item.result c.loop-shown-test.true c.shown-item.is in
    record {
      taken = subst (λ (l : List ShownStep). TookAll g.L.Steps.took c.args.log.now l c.step.new.self) (sym longer)
          (took_both g.L.Steps.took (map step_value (take c.loop-shown.shown-index c.args.steps.now)) (step_value c.shown-item.result ∷ []) c.args.log.now c.loop-shown.log c.step.new.self
          i.taken (c.step.new.self, c.in_ok-step.ensures.took, refl));
      counts = λ before is. counted_one c.loop-shown.counts c.add.new.self c.shown-item.result before (map step_value (take c.loop-shown.shown-index c.args.steps.now)) _ (i.counts before is) c.add.ensures longer;
      faults = omega (arith, i.faults, c.in_ok-step.ensures.counted);
    }
