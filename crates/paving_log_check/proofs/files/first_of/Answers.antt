use Rattle.std.proofs.Common.{arith, inr, sym, ◌∙◌}
use Rattle.std.proofs.lemmas.Bool.{false≢true}
use Rattle.paving_log_check.proofs.files.first_of.Goals as goal

pub returns-then-not-due : goal.returns-then-not-due
returns-then-not-due c delays rules root own rest block more fails due = inr (
  record {
    fails = λ is. false≢true (sym c.if-not-due.true ∙ due.1 is);
    line = c.plain_fault.ensures.line;
    number = c.plain_fault.ensures.number;
    no_spans = c.plain_fault.ensures.no_spans;
  },
  (c.args.own_fault, fails, omega (arith, c.if-own_fault-behind.true)),
)
