use Rattle.std.proofs.Common.{arith, ap, refl, Some, ◌∙◌}
use Rattle.log_writer.proofs.FaultLemmas.{err_is, went_counted, ended_counted, ended_rose}
use Rattle.log_writer.proofs.LinesPut.{full_told, both_ways}
use Rattle.log_writer.proofs.steps.TrackSteps.renew.Goals as goal

pub returns-in-Ok-clause-counted : goal.returns-in-Ok-clause-counted
returns-in-Ok-clause-counted g c =
    let k = went_counted _ _ _ c.in-Ok.ensures.some.1 in omega (arith, k.log, k.out)

pub returns-in-Err-clause-broke : goal.returns-in-Err-clause-broke
returns-in-Err-clause-broke g c =
    let broke = c.in-Err.ensures.broke in
    record {
      lines = broke.0;
      some_left = broke.1;
      broken = (λ fit. (broke.2 fit).ended, refl, c.in-Err.ensures.trust);
      full = λ fit. both_ways (full_told _ _ c.in_paving.ensures) (broke.2 fit).full;
    }

pub returns-in-Err-clause-counted : goal.returns-in-Err-clause-counted
returns-in-Err-clause-counted g c =
    let k = ended_counted _ _ _ _ c.in-Err.ensures.some.1 in omega (arith, k.log, k.out)

pub returns-in-Err-clause-failed : goal.returns-in-Err-clause-failed
returns-in-Err-clause-failed g c is = ended_rose _ _ _ _ (c.in_paving.ensures ∙ ap Some (err_is _ _ is)) c.in-Err.ensures.some.1
