use Rattle.cover_run.proofs.TellingLemmas.{said_no, said_yes, tells_as}
use Rattle.cover_run.specs.Rechecking.{AcceptsTrack, RefusesTrack}
use Rattle.paving_log.specs.Values.{log_value}
use Rattle.cover_run.proofs.rechecking.tell_rechecked.Goals as goal

pub returns : goal.returns
returns g c =
    let i = c.args.found.now.inputs in
    let log = log_value c.args.found.now.log in
    let verdict = c.track_verdict-verdict.result in
    let told = c.track_verdict-verdict.ensures in
    tells_as _ _ _ _ _ _ _
    (said_yes verdict (λ boxes. AcceptsTrack c.args.chosen i log boxes) told.yes)
    (said_no verdict (λ fault. RefusesTrack c.args.chosen i log fault) told.no)
    c.tell_verdict.result c.tell_verdict.ensures
