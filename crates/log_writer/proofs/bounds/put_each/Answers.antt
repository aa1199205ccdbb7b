use Rattle.std.proofs.Common.{sym}
use Rattle.std.proofs.lemmas.List.{take_all}
use Rattle.std.proofs.lemmas.Result.{err_from_is_err_and}
use Rattle.log_writer.proofs.AlongLemmas.{wrote_none, wrote_more, wrote_ended}
use Rattle.log_writer.proofs.FaultLemmas.{trusts_none, trusts_more}
use Rattle.log_writer.proofs.SatLemmas.{IsItemAt}
use Rattle.log_writer.proofs.bounds.put_each.Goals as goal

pub loop-direction-init : goal.loop-direction-init
loop-direction-init g c = record { found = wrote_none _ _ _ _ _ _ _; forms = c.requires.forms; trust = trusts_none _ _ }

pub returns-in_err-put_along-clause-written : goal.returns-in_err-put_along-clause-written
returns-in_err-put_along-clause-written g c =
    let p = err_from_is_err_and c.from_residual.result c.from_residual.ensures.1 in
    let at : IsItemAt c.args.directions.now c.loop-direction.direction-index c.direction-item.result = record { within = c.loop-direction-test.true; is = c.direction-item.is } in
    rw (p.1, p.2) (wrote_ended _ _ _ _ _ _ _ _ _ _ _ _ _ _ at c.loop-direction.invariant.found c.in_err-put_along.ensures.written)

pub returns-in_err-put_along-clause-trust : goal.returns-in_err-put_along-clause-trust
returns-in_err-put_along-clause-trust g c =
    let p = err_from_is_err_and c.from_residual.result c.from_residual.ensures.1 in
    rw (p.1, p.2) (trusts_more _ _ _ _ _ c.loop-direction.invariant.trust c.in_err-put_along.ensures.trust)

pub loop-direction-preserved : goal.loop-direction-preserved
loop-direction-preserved g c =
    let h = c.in_ok-put_along.ensures in
    let i = c.loop-direction.invariant in
    let at : IsItemAt c.args.directions.now c.loop-direction.direction-index c.direction-item.result = record { within = c.loop-direction-test.true; is = c.direction-item.is } in
    record {
      found = wrote_more _ _ _ _ _ _ _ _ _ _ _ _ _ _ at i.found h.written;
      forms = h.forms;
      trust = trusts_more _ _ _ _ _ i.trust h.trust;
    }

pub returns-clause-written : goal.returns-clause-written
returns-clause-written g c = rw (sym (take_all c.loop-direction.direction-index c.args.directions.now c.loop-direction-test.false)) c.loop-direction.invariant.found
