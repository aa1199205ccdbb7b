use Rattle.std.proofs.Common.{subst, sym}
use Rattle.std.specs.Prelude.{IfOk}
use Rattle.cover_run.proofs.RecheckingLemmas.{track_no, track_yes}
use Rattle.cover_run.proofs.SolvingLemmas.{rows_mean}
use Rattle.cover_run.specs.Solving.{meaning_of}
use Rattle.paving_log.specs.Values.{log_value}
use Rattle.paving_log_check.specs.Answers.{IfNo, IfYes}
use Rattle.paving_log_check.specs.Checked.{IsAccepted, IsRefused}
use Rattle.tube_searches.specs.Tubes.{TubeValue, IsInside, tube_searches}
use Rattle.cover_run.proofs.rechecking.track_verdict.Goals as goal

pub check_tube-requires-clause-inside : goal.check_tube-requires-clause-inside
check_tube-requires-clause-inside c =
    subst (λ (t : TubeValue). IsInside t) (sym c.declared_tube-tube.ensures.value)
    (c.requires.ready.enough.inside _ c.declared_tube-tube.ensures.declared.search)

pub returns-clause-yes : goal.returns-clause-yes
returns-clause-yes c =
    let f = c.args.found.now in
    let log = log_value f.log in
    let tube = c.declared_tube-tube.ensures in
    let rows = c.rows_of-source.ensures in
    track_yes c.args.chosen f _ _ tube.declared _
    (subst (λ (t : TubeValue). IfOk c.check_tube.result (λ v. IfYes v (λ boxes.
    IsAccepted (meaning_of f.inputs) (tube_searches t log.blocks) f.inputs.settings.rules log
    boxes))) tube.value
    (rw (rows_mean f.inputs c.rows_of-source.result rows.nav rows.settings rows.station) at c.check_tube.ensures.yes))

pub returns-clause-no : goal.returns-clause-no
returns-clause-no c =
    let f = c.args.found.now in
    let log = log_value f.log in
    let tube = c.declared_tube-tube.ensures in
    let rows = c.rows_of-source.ensures in
    track_no c.args.chosen f _ _ tube.declared _
    (subst (λ (t : TubeValue). IfOk c.check_tube.result (λ v. IfNo v (λ fault.
    IsRefused (meaning_of f.inputs) (tube_searches t log.blocks) f.inputs.settings.rules log
    fault))) tube.value
    (rw (rows_mean f.inputs c.rows_of-source.result rows.nav rows.settings rows.station) at c.check_tube.ensures.no))
