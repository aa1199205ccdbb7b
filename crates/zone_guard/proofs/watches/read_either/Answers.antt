use Rattle.std.proofs.lemmas.Result.{err_from_is_err_and}
use Rattle.zone_guard.proofs.WatchTextLemmas.{second_fault}
use Rattle.zone_guard.proofs.watches.read_either.Goals as goal
use Rattle.zone_guard.proofs.WatchLemmas.{told_mapped as told_by}

pub returns-in_err-list-in-Some-clause-fault : goal.returns-in_err-list-in-Some-clause-fault
returns-in_err-list-in-Some-clause-fault c =
    let p = err_from_is_err_and c.from_residual.result c.from_residual.ensures.1 in
    rw (p.1, p.2) (told_by _ _ _ (λ k fails. second_fault c.args.bytes.now c.in-Some.rest.now k c.in-Some.ensures.found fails) c.in_err-list-in-Some.ensures.fault)
