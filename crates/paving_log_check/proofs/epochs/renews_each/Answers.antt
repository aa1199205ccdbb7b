use Rattle.step_lines.specs.Steps.{steps_of}
use Rattle.paving_log_check.proofs.CountLemmas.{as_many, renewals_of_events}
use Rattle.paving_log_check.proofs.epochs.renews_each.Goals as goal

pub returns-in-Some : goal.returns-in-Some
returns-in-Some c =
    let body = c.in-Some.body in
    let many = as_many c.args.epoch.now.n body.renewals.items in
    let found = rw c.deref.ensures.value at c.have_as_many.ensures in
    rw (c.in-Some.is, renewals_of_events 0 (steps_of body.steps) body.renewals.items) (λ t. many.0 (found.0 t), λ h. found.1 (many.1 h))
