use Rattle.std.proofs.Common.{◌-◌, arith}
use Rattle.std.proofs.lemmas.Result.{err_from_is_err_and}
use Rattle.rinex_obs.proofs.LineLemmas.{event_step, event_fault, leaves_more}
use Rattle.rinex_obs.proofs.event.take_event.Goals as goal

pub returns-in_err-behind-clause-fault : goal.returns-in_err-behind-clause-fault
returns-in_err-behind-clause-fault c =
    let p = err_from_is_err_and c.from_residual.result c.from_residual.ensures.1 in
    rw (p.1, p.2) (c.lines.invariant.lines _ (event_fault c.args.both c.args.labelled c.lines.missing (c.lines.missing - 1) c.lines.left _ (omega (arith, c.lines-test.true)) c.in_err-behind.ensures.failed))

pub lines-preserved : goal.lines-preserved
lines-preserved c = record {
  some = omega (arith, c.lines.invariant.some);
  left = leaves_more _ _ _ _ _ _ _ (omega (arith, c.lines-test.true, c.lines.invariant.some)) c.lines.invariant.left c.in_ok-behind.ensures.took;
  lines = λ answer h. c.lines.invariant.lines answer
      (event_step c.args.both c.args.labelled c.lines.missing (c.lines.missing - 1) c.lines.left c.in_ok-behind.behind _ answer (omega (arith, c.lines-test.true)) c.in_ok-behind.ensures.took h);
}
