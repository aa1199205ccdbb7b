use Rattle.std.proofs.Common.{refl, ◌∙◌}
use Rattle.paving_log.specs.Values.{log_value}
use Rattle.cover_run.proofs.MakingLemmas.{made_judged, makes_none, makes_told}
use Rattle.cover_run.proofs.making.run_make.Goals as goal

pub made_lines-lines-requires-clause-judged : goal.made_lines-lines-requires-clause-judged
made_lines-lines-requires-clause-judged g c =
    made_judged c.args.limits.now.log c.args.seed c.args.epochs (log_value c.in-Ok.log)
    c.in-Ok.ensures.log

pub returns-in-Ok : goal.returns-in-Ok
returns-in-Ok g c =
    let text =
    c.as_bytes.ensures.value ∙ c.deref.ensures.0 ∙ c.made_lines-lines.ensures in
    makes_told c.args.limits.now.log c.args.seed c.args.epochs _ _ _ (log_value c.in-Ok.log)
    c.tell.result c.in-Ok.ensures.log (rw text at c.tell.ensures)

pub returns-in-Err : goal.returns-in-Err
returns-in-Err g c =
    makes_none c.args.limits.now.log c.args.seed c.args.epochs _ _ _ c.in-Err.notice c.say.result
    c.say.ensures.status c.in-Err.ensures.cut_off c.say.ensures.line refl
