use Rattle.std.proofs.Common.{refl}
use Rattle.paving_log.specs.Values.{log_value}
use Rattle.cover_run.proofs.RunLemmas.{run_ok, run_err}
use Rattle.cover_run.proofs.TellingLemmas.{judged_suits, judged_known}
use Rattle.cover_run.proofs.judging.run_judge.Goals as goal

pub returns-in-Ok : goal.returns-in-Ok
returns-in-Ok g c =
    run_ok _ _ _ _ c.tell_judged.result c.in-Ok.log c.in-Ok.ensures.found
    (record { told = c.tell_judged.ensures; shelf = c.in-Ok.ensures.only.untouched })
    (judged_suits (log_value c.in-Ok.log) _ _ _ c.tell_judged.result c.tell_judged.ensures)
    (judged_known (log_value c.in-Ok.log) c.tell_judged.result)

pub returns-in-Err : goal.returns-in-Err
returns-in-Err g c =
    run_err _ _ _ _ c.say.result c.in-Err.notice c.in-Err.ensures.found c.in-Err.ensures.only
    c.say.ensures.status c.say.ensures.line refl
