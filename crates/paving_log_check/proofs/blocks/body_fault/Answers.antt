use Rattle.std.proofs.Common.{arith, ap, length, ◌∙◌}
use Rattle.sat_model.specs.Logs.{rows_of, lines_of_body}
use Rattle.paving_log.specs.Values.{body_value, body_option, block_of}
use Rattle.paving_log.proofs.OwnLemmas.{rows_le_lines}
use Rattle.paving_log_check.proofs.GivenLemmas.{body_told}
use Rattle.paving_log_check.proofs.blocks.body_fault.Goals as goal

pub closing_fault-requires-clause-rows : goal.closing_fault-requires-clause-rows
closing_fault-requires-clause-rows c =
    let rows = c.deref-2.ensures.value ∙ c.in_ok-rows.ensures ∙ ap rows_of c.deref.ensures.value in
    omega (arith, ap length rows, rows_le_lines c.args.epoch.now.sats.items, c.args.epoch.now.at_most)

pub closing_fault-requires-clause-numbered : goal.closing_fault-requires-clause-numbered
closing_fault-requires-clause-numbered c =
    omega (arith, c.requires.numbered, ap (λ o. lines_of_body (body_option o)) c.requires.body, c.len.ensures, c.args.epoch.now.at_most)

pub returns : goal.returns
returns c =
    let rows = c.deref-2.ensures.value ∙ c.in_ok-rows.ensures ∙ ap rows_of c.deref.ensures.value in
    body_told _ c.args.rules.now (block_of c.args.epoch.now) (body_value c.args.body.now) c.closing_fault.result _ _ rows c.closing_fault.ensures
    (omega (arith, c.len.ensures, c.args.epoch.now.sats.ok))
