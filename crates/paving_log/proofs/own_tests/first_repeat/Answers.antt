use Rattle.std.proofs.Common.{below_more, sym, ◌∙◌}
use Rattle.std.proofs.lemmas.Bool.{false≢true}
use Rattle.log_lines.proofs.SatelliteLemmas.{repeat_from, repeat_named}
use Rattle.paving_log.proofs.own_tests.first_repeat.Goals as goal

pub returns-then-names : goal.returns-then-names
returns-then-names c = record {
  repeats = repeat_from c.args.sats.now c.loop-k.k c.index-sats-k.result c.loop-k-test.true c.index-sats-k.is
      ((rw c.satellite.ensures at c.names.ensures).0 c.if-names.true);
  first = c.loop-k.invariant;
}

pub loop-k-preserved : goal.loop-k-preserved
loop-k-preserved c = below_more _ _ c.loop-k.invariant (λ r.
    false≢true (sym c.if-names.false
    ∙ (rw c.satellite.ensures at c.names.ensures).1 (repeat_named c.args.sats.now c.loop-k.k c.index-sats-k.result c.index-sats-k.is r)))
