use Rattle.std.proofs.Common.{arith, ap}
use Rattle.step_lines.specs.Steps.{steps_of}
use Rattle.paving_log_check.specs.Renewed.{lines_in_renewals}
use Rattle.paving_log_check.proofs.CountLemmas.{lines_counted}
use Rattle.paving_log_check.proofs.counts.event_lines.Goals as goal

pub overflow_cast-result : goal.overflow_cast-result
overflow_cast-result c =
    let body = c.args.body.now in
    omega (arith, c.requires, c.len.ensures, lines_counted 0 (steps_of body.steps) body.renewals.items)

pub renewal_lines-requires : goal.renewal_lines-requires
renewal_lines-requires c =
    let body = c.args.body.now in
    omega (arith, c.requires, lines_counted 0 (steps_of body.steps) body.renewals.items, ap lines_in_renewals c.deref.ensures.value)

pub overflow_add-result : goal.overflow_add-result
overflow_add-result c =
    let body = c.args.body.now in
    omega (
      arith,
      c.requires,
      c.len.ensures,
      c.renewal_lines.ensures,
      lines_counted 0 (steps_of body.steps) body.renewals.items,
      ap lines_in_renewals c.deref.ensures.value,
    )

pub returns : goal.returns
returns c =
    let body = c.args.body.now in
    omega (
      arith,
      c.len.ensures,
      c.renewal_lines.ensures,
      lines_counted 0 (steps_of body.steps) body.renewals.items,
      ap lines_in_renewals c.deref.ensures.value,
    )
