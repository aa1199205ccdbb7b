use Rattle.std.proofs.Common.{ℕ, ◌∙◌, arith, ap}
use Rattle.made_input.specs.Generator.{drawn}
use Rattle.made_input.specs.MadeRecords.{made_broadcast}
use Rattle.made_input.proofs.RecordLemmas.{made_next}
use Rattle.made_input.proofs.record_list.made_records.Goals as goal

pub loop-k-preserved : goal.loop-k-preserved
loop-k-preserved c =
    let i = c.loop-k.invariant in
    let seed = c.args.draws.now.seed in
    let draw = c.below.ensures.draw ∙ (ap (λ (s : ℕ). drawn s c.loop-k.draws.taken 100) i.seed ∙ ap (λ (t : ℕ). drawn seed t 100) i.taken) in
    record {
      seed = c.below.ensures.seed ∙ i.seed;
      taken = omega (arith, c.below.ensures.taken, i.taken);
      made = made_next c.loop-k.records.items _ seed c.loop-k.k c.made_record.result c.loop-k-test.true i.made c.in_ok-push.ensures.items c.made_record.ensures.named c.made_record.ensures.written
          (c.made_record.ensures.record ∙ ap (λ (u : ℕ). made_broadcast c.loop-k.k u) draw);
    }
