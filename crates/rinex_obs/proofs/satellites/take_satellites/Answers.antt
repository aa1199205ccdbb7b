use Rattle.std.proofs.Common.{◌-◌, refl, arith}
use Rattle.std.proofs.lemmas.Result.{err_from_is_err_and}
use Rattle.rinex_obs.specs.Reading.{wanted_of}
use Rattle.rinex_obs.proofs.LineLemmas.{satellite_step, satellite_fault, leaves_more}
use Rattle.rinex_obs.proofs.satellites.take_satellites.Goals as goal

pub returns-in_err-found-clause-fault : goal.returns-in_err-found-clause-fault
returns-in_err-found-clause-fault c =
    let p = err_from_is_err_and c.from_residual.result c.from_residual.ensures.1 in
    rw (p.1, p.2)
    (c.lines.invariant.lines _ (satellite_fault (wanted_of c.args.places.now) c.lines.missing (c.lines.missing - 1) c.lines.sats.items _ c.lines.left _ (omega (arith, c.lines-test.true)) c.deref.ensures.value c.in_err-found.ensures.failed))

pub lines-preserved-in-Continue-branch-2 : goal.lines-preserved-in-Continue-branch-2
lines-preserved-in-Continue-branch-2 c = record {
  some = omega (arith, c.lines.invariant.some);
  few = omega (arith, c.in_ok-push.ensures.len, c.deref.ensures.len, (rw c.in-Some.is at c.in_ok-found.ensures.few));
  left = leaves_more _ _ _ _ _ _ _ (omega (arith, c.lines-test.true, c.lines.invariant.some)) c.lines.invariant.left c.in_ok-found.ensures.took;
  lines = λ answer h. c.lines.invariant.lines answer
      (satellite_step (wanted_of c.args.places.now) c.lines.missing (c.lines.missing - 1) c.lines.sats.items c.deref.result.now c.push.new.self.items c.in_ok-found.found c.lines.left c.in_ok-found.behind answer (omega (arith, c.lines-test.true)) c.deref.ensures.value
      (rw c.in-Some.is c.in_ok-push.ensures.items) c.in_ok-found.ensures.took h);
}

pub lines-preserved : goal.lines-preserved
lines-preserved c = record {
  some = omega (arith, c.lines.invariant.some);
  few = c.lines.invariant.few;
  left = leaves_more _ _ _ _ _ _ _ (omega (arith, c.lines-test.true, c.lines.invariant.some)) c.lines.invariant.left c.in_ok-found.ensures.took;
  lines = λ answer h. c.lines.invariant.lines answer
      (satellite_step (wanted_of c.args.places.now) c.lines.missing (c.lines.missing - 1) c.lines.sats.items c.deref.result.now c.lines.sats.items c.in_ok-found.found c.lines.left c.in_ok-found.behind answer (omega (arith, c.lines-test.true)) c.deref.ensures.value
      (rw c.in_default.is refl) c.in_ok-found.ensures.took h);
}
