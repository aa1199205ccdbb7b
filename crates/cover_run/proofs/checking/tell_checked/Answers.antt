use Rattle.cover_run.proofs.TellingLemmas.{said_no, said_yes, tells_as}
use Rattle.cover_run.specs.Checking.{Accepts, Refuses}
use Rattle.paving_log.specs.Values.{log_value}
use Rattle.cover_run.proofs.checking.tell_checked.Goals as goal

pub returns : goal.returns
returns g c =
    let i = c.args.found.now.inputs in
    let log = log_value c.args.found.now.log in
    let verdict = c.check_verdict-verdict.result in
    let told = c.check_verdict-verdict.ensures in
    tells_as _ _ _ _ _ _ _
    (said_yes verdict (λ boxes. Accepts c.args.chosen i log boxes) told.yes)
    (said_no verdict (λ fault. Refuses c.args.chosen i log fault) told.no)
    c.tell_verdict.result c.tell_verdict.ensures
