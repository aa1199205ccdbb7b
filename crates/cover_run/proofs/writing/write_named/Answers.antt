use Rattle.std.proofs.Common.{refl, ap, ◌∙◌}
use Rattle.input_files.specs.Statuses.{status_of}
use Rattle.outer_io.specs.declared.shelf.Phase.TheVariants.{Writing}
use Rattle.cover_run.proofs.WritingLemmas.{wrote_all, wrote_first}
use Rattle.cover_run.proofs.writing.write_named.Goals as goal

pub returns-in-Ok-write_log-clause-log : goal.returns-in-Ok-write_log-clause-log
returns-in-Ok-write_log-clause-log g c =
    let made = c.in-Ok.ensures in
    let w = c.in-Ok-write_log.ensures in
    wrote_all c.args.name.now _ _ _ (g.H.Shelf.state c.create.new.self)
    (record { told = made.created; openings = (Writing, made.openings); later = made.cause.later })
    _ _ _ _ w.text w.room refl refl

pub returns-in-Err-write_log-clause-log : goal.returns-in-Err-write_log-clause-log
returns-in-Err-write_log-clause-log g c =
    let made = c.in-Ok.ensures in
    let w = c.in-Err-write_log.ensures in
    let say = c.say-in-Err-write_log.ensures in
    wrote_first c.args.name.now _ _ _ (g.H.Shelf.state c.create.new.self)
    (record { told = made.created; openings = (Writing, made.openings); later = made.cause.later })
    _ _ _ _ _ c.in-Err-write_log.fault w.text w.room w.counts w.trust
    (say.status ∙ ap status_of c.notice_of_fault.ensures) (rw c.notice_of_fault.ensures at say.line)

pub returns-in-Ok-write_log-clause-later : goal.returns-in-Ok-write_log-clause-later
returns-in-Ok-write_log-clause-later g c = c.in-Ok-write_log.ensures.text.3.out_faults

pub returns-in-Err-write_log-clause-later : goal.returns-in-Err-write_log-clause-later
returns-in-Err-write_log-clause-later g c = c.in-Err-write_log.ensures.text.3.out_faults
