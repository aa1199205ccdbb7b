use Rattle.std.proofs.Common.{refl, sym, ◌∙◌, arith, append-nil}
use Rattle.toml.specs.View.{table_view}
use Rattle.error_bounds.proofs.KeyLemmas.{tests_step, extra_step, refused_step, sats_end}
use Rattle.error_bounds.proofs.satellites.add_system_spans.Goals as goal

pub numbers-preserved : goal.numbers-preserved
numbers-preserved c = record {
  tests = sym (tests_step c.args.system c.numbers.number (table_view c.args.members.now) c.numbers-test.true c.in-Ok.ensures.faultless) ∙ c.numbers.invariant.tests;
  extra = extra_step c.args.system c.numbers.number (table_view c.args.members.now) _ _ _ c.numbers-test.true c.in-Ok.ensures.extra c.numbers.invariant.extra;
  listed = λ before. c.in-Ok.ensures.listed (c.numbers.invariant.listed before);
}

pub returns-in-Err-clause-fault : goal.returns-in-Err-clause-fault
returns-in-Err-clause-fault c = refused_step c.args.system c.numbers.number (table_view c.args.members.now) _ c.numbers-test.true c.numbers.invariant.tests c.in-Err.ensures.fault

pub returns-clause-none : goal.returns-clause-none
returns-clause-none c = sym c.numbers.invariant.tests ∙ rw (sats_end c.args.system c.numbers.number (omega (arith, c.numbers-test.false, c.numbers.auto.number-end))) refl

pub returns-clause-extra : goal.returns-clause-extra
returns-clause-extra c =
    sym (append-nil _) ∙ (rw (sats_end c.args.system c.numbers.number (omega (arith, c.numbers-test.false, c.numbers.auto.number-end))) at c.numbers.invariant.extra)
