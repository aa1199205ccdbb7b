use Rattle.std.proofs.Common.{arith, ap, length, inl, sym, [], ◌∙◌}
use Rattle.std.proofs.lemmas.Bool.{false≢true}
use Rattle.grid_model.specs.Boxes.{grid_box}
use Rattle.sat_model.specs.Logs.{rows_of, lines_of_body}
use Rattle.paving_log.specs.Values.{body_value, body_option, block_of}
use Rattle.paving_log.proofs.OwnLemmas.{rows_le_lines}
use Rattle.paving_log_check.proofs.BeforeLemmas.{none_before}
use Rattle.paving_log_check.proofs.EpochLemmas.{body_at}
use Rattle.paving_log_check.proofs.epochs.body_fault.Goals as goal

pub returns-then-not-is_same_box : goal.returns-then-not-is_same_box
returns-then-not-is_same_box c = record {
  renewed = [];
  formed = tt;
  many = none_before c.args.given.now.own.now.bases.items _ (body_value c.args.body.now).events [] (omega (arith, c.plain_fault.ensures.line, c.len.ensures));
  fails = inl (record {
    differs = λ is. false≢true (sym c.if-not-is_same_box.true ∙ c.is_same_box.ensures.1 is);
    line = omega (arith, c.plain_fault.ensures.line, c.len.ensures);
    number = c.plain_fault.ensures.number;
    no_spans = c.plain_fault.ensures.no_spans;
  });
}

pub closing_fault-requires-clause-rows : goal.closing_fault-requires-clause-rows
closing_fault-requires-clause-rows c =
    let rows = c.deref-2.ensures.value ∙ c.in_ok-rows.ensures ∙ ap rows_of c.deref.ensures.value in
    omega (arith, ap length rows, rows_le_lines c.args.epoch.now.sats.items, c.args.epoch.now.at_most)

pub closing_fault-requires-clause-ready : goal.closing_fault-requires-clause-ready
closing_fault-requires-clause-ready c = rw c.deref-3.ensures.value c.requires.ready

pub closing_fault-requires-clause-numbered : goal.closing_fault-requires-clause-numbered
closing_fault-requires-clause-numbered c =
    omega (arith, c.requires.numbered, ap (λ o. lines_of_body (body_option o)) c.requires.body, c.args.epoch.now.at_most)

pub returns : goal.returns
returns c =
    let given = c.args.given.now in
    let rows = c.deref-2.ensures.value ∙ c.in_ok-rows.ensures ∙ ap rows_of c.deref.ensures.value in
    let found = rw c.deref-3.ensures.value at c.closing_fault.ensures in
    body_at given.delays c.args.rules.now (grid_box given.root.now) given.own.now.lines.items given.own.now.bases.items (block_of c.args.epoch.now) (body_value c.args.body.now)
    c.closing_fault.result _ _ (c.is_same_box.ensures.0 c.if-not-is_same_box.false) rows found (omega (arith, c.len-2.ensures, c.args.epoch.now.sats.ok))
