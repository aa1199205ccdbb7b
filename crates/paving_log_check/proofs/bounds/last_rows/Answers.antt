use Rattle.std.proofs.Common.{sym, ap, length, ◌-◌, ◌∙◌}
use Rattle.std.specs.Prelude.{slice_get}
use Rattle.grid_model.specs.Boxes.{grid_box}
use Rattle.sat_model.specs.Events.{rows_over}
use Rattle.step_lines.specs.Steps.{steps_of}
use Rattle.paving_log_check.proofs.LastRowsLemmas.{behind_last, behind_none}
use Rattle.paving_log_check.proofs.bounds.last_rows.Goals as goal

pub returns-in-Some : goal.returns-in-Some
returns-in-Some c =
    let body = c.args.body.now in
    let there = ap (λ rs. slice_get rs (length rs - 1)) c.deref.ensures.value in
    rw c.deref-in-Some.ensures.value (sym (behind_last (rows_over (grid_box c.args.root.now) c.args.firsts.now) (steps_of body.steps) body.renewals.items
    c.in-Some.renewal.now (sym there ∙ sym c.in-Some.ensures.value)))

pub returns-in-None : goal.returns-in-None
returns-in-None c =
    let body = c.args.body.now in
    let there = ap (λ rs. slice_get rs (length rs - 1)) c.deref.ensures.value in
    sym (behind_none (rows_over (grid_box c.args.root.now) c.args.firsts.now) (steps_of body.steps) body.renewals.items
    (sym there ∙ sym c.in-None.ensures.value))
