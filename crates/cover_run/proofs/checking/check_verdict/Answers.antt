use Rattle.std.proofs.Common.{subst}
use Rattle.std.specs.Prelude.{IfOk}
use Rattle.paving_log.specs.Values.{log_value}
use Rattle.paving_log_check.specs.Answers.{IfNo, IfYes}
use Rattle.paving_log_check.specs.GpsChecked.{IsFileAccepted, IsFileRefused}
use Rattle.sat_rows.specs.Meanings.{Meaning}
use Rattle.cover_run.proofs.SolvingLemmas.{rows_mean}
use Rattle.cover_run.proofs.checking.check_verdict.Goals as goal

pub returns-clause-yes : goal.returns-clause-yes
returns-clause-yes c =
    let f = c.args.found.now in
    subst (λ (m : Meaning). IfOk c.check_by.result (λ v. IfYes v
    (IsFileAccepted m f.inputs.obs f.inputs.settings c.args.chosen (log_value f.log))))
    (rows_mean f.inputs c.rows_of-source.result c.rows_of-source.ensures.nav
    c.rows_of-source.ensures.settings c.rows_of-source.ensures.station) c.check_by.ensures.yes

pub returns-clause-no : goal.returns-clause-no
returns-clause-no c =
    let f = c.args.found.now in
    subst (λ (m : Meaning). IfOk c.check_by.result (λ v. IfNo v
    (IsFileRefused m f.inputs.obs f.inputs.settings c.args.chosen (log_value f.log))))
    (rows_mean f.inputs c.rows_of-source.result c.rows_of-source.ensures.nav
    c.rows_of-source.ensures.settings c.rows_of-source.ensures.station) c.check_by.ensures.no
