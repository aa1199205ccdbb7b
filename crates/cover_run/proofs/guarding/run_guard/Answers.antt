use Rattle.std.proofs.Common.{refl}
use Rattle.cover_run.proofs.RunLemmas.{run_ok, run_err}
use Rattle.cover_run.proofs.TellingLemmas.{verdict_suits, verdict_known}
use Rattle.cover_run.proofs.guarding.run_guard.Goals as goal

pub returns-in-Ok : goal.returns-in-Ok
returns-in-Ok g c =
    let told = rw c.chosen_in.ensures at c.tell_guarded.ensures in
    run_ok _ _ _ _ c.tell_guarded.result c.in-Ok.found c.in-Ok.ensures.found
    (record { told = told; shelf = c.in-Ok.ensures.only.untouched })
    (verdict_suits _ _ _ _ _ c.tell_guarded.result told)
    (verdict_known c.tell_guarded.result)

pub returns-in-Err : goal.returns-in-Err
returns-in-Err g c =
    run_err _ _ _ _ c.say.result c.in-Err.notice c.in-Err.ensures.found c.in-Err.ensures.only
    c.say.ensures.status c.say.ensures.line refl
