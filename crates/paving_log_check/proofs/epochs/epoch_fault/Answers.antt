use Rattle.std.proofs.Common.{arith, ap, inl, inr, length, sym, [], ◌∙◌}
use Rattle.std.proofs.lemmas.Bool.{false≢true}
use Rattle.grid_model.specs.Boxes.{grid_box}
use Rattle.paving_log.specs.Values.{body_value, body_option, block_of}
use Rattle.paving_log_check.specs.Epochs.{IsWhole}
use Rattle.paving_log_check.specs.Lines.{expected}
use Rattle.paving_log_check.proofs.BeforeLemmas.{none_in_body}
use Rattle.paving_log_check.proofs.EpochLemmas.{body_decided}
use Rattle.paving_log_check.proofs.epochs.epoch_fault.Goals as goal

pub returns-then-not-has_counts : goal.returns-then-not-has_counts
returns-then-not-has_counts c = record {
  renewed = [];
  formed = tt;
  many = none_in_body c.args.given.now.own.now.bases.items _ (block_of c.args.epoch.now).body [] (omega (arith, c.plain_fault.ensures.line));
  fails = inl (record {
    differs = λ is. false≢true (sym c.if-not-has_counts.true ∙ c.has_counts.ensures.1 is);
    line = c.plain_fault.ensures.line;
    number = c.plain_fault.ensures.number;
    no_spans = c.plain_fault.ensures.no_spans;
  });
}

pub returns-in-Some : goal.returns-in-Some
returns-in-Some c =
    let wanted = c.in_ok-lines.ensures ∙ ap (λ few. expected few c.args.given.now.own.now.lines.items) c.is_few.ensures in
    let lines = c.deref-2.ensures.value ∙ wanted in
    let found = rw c.in-Some.is at c.sats_fault.ensures in
    let (k, fails, at) = rw (c.deref.ensures.value, lines) at found in
    record {
      renewed = [];
      formed = tt;
      many = none_in_body c.args.given.now.own.now.bases.items _ (block_of c.args.epoch.now).body [] (omega (arith, at, fails.is_line));
      fails = inr (inl (record { counts = c.has_counts.ensures.0 c.if-not-has_counts.false; k = k; fails = fails; line = at }));
    }

pub returns-then-len : goal.returns-then-len
returns-then-len c =
    let wanted = c.in_ok-lines.ensures ∙ ap (λ few. expected few c.args.given.now.own.now.lines.items) c.is_few.ensures in
    let lines = c.deref-2.ensures.value ∙ wanted in
    let passes = rw c.in_default.is at c.sats_fault.ensures in
    record {
      renewed = [];
      formed = tt;
      many = none_in_body c.args.given.now.own.now.bases.items _ (block_of c.args.epoch.now).body []
          (omega (arith, c.plain_fault-then-len.ensures.line, c.len-then-len.ensures, c.args.epoch.now.sats.ok));
      fails = inr (inr (inl (record {
        counts = c.has_counts.ensures.0 c.if-not-has_counts.false;
        sats = rw (c.deref.ensures.value, lines) at passes;
        missing = omega (arith, c.if-len.true, c.len.ensures, c.len-2.ensures, c.args.epoch.now.sats.ok, c.in_ok-lines.lines.ok, ap length wanted);
        line = omega (arith, c.plain_fault-then-len.ensures.line, c.len-then-len.ensures, c.args.epoch.now.sats.ok);
        number = c.plain_fault-then-len.ensures.number;
        no_spans = c.plain_fault-then-len.ensures.no_spans;
      })));
    }

pub returns-in-Some-body : goal.returns-in-Some-body
returns-in-Some-body c =
    let given = c.args.given.now in
    let wanted = c.in_ok-lines.ensures ∙ ap (λ few. expected few c.args.given.now.own.now.lines.items) c.is_few.ensures in
    let lines = c.deref-2.ensures.value ∙ wanted in
    let passes = rw c.in_default.is at c.sats_fault.ensures in
    body_decided given.delays c.args.rules.now (grid_box given.root.now) given.own.now.lines.items given.own.now.bases.items (block_of c.args.epoch.now) (body_value c.in-Some-body.body)
    c.body_fault.result (c.has_counts.ensures.0 c.if-not-has_counts.false) (rw (c.deref.ensures.value, lines) at passes)
    (omega (arith, c.if-len.false, c.len.ensures, c.len-2.ensures, c.args.epoch.now.sats.ok, c.in_ok-lines.lines.ok, ap length wanted))
    (ap body_option c.in-Some-body.is) c.body_fault.ensures

pub returns : goal.returns
returns c =
    let given = c.args.given.now in
    let wanted = c.in_ok-lines.ensures ∙ ap (λ few. expected few c.args.given.now.own.now.lines.items) c.is_few.ensures in
    let lines = c.deref-2.ensures.value ∙ wanted in
    let passes = rw c.in_default.is at c.sats_fault.ensures in
    let whole : IsWhole given.own.now.lines.items (block_of c.args.epoch.now) =
    omega (arith, c.if-len.false, c.len.ensures, c.len-2.ensures, c.args.epoch.now.sats.ok, c.in_ok-lines.lines.ok, ap length wanted) in
    record {
      renewed = [];
      formed = tt;
      many = rw c.in-None.is tt;
      passes = record {
        counts = c.has_counts.ensures.0 c.if-not-has_counts.false;
        sats = rw (c.deref.ensures.value, lines) at passes;
        whole = whole;
        body = rw c.in-None.is tt;
      };
    }
