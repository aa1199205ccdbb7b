use Rattle.std.proofs.Common.{arith}
use Rattle.std.proofs.lemmas.Int.{ints}
use Rattle.relaxed_meet.specs.Kept.{mirrored}
use Rattle.relaxed_meet.proofs.FallingLemmas.{keeps_more}
use Rattle.relaxed_meet.proofs.extremes.extremes.Goals as goal

pub loop-span-preserved : goal.loop-span-preserved
loop-span-preserved c = record {
  lows = keeps_more (λ s. s.lo) c.args.spans.now c.loop-span.span-index c.span-item.result c.args.most c.loop-span.lows.items _ _ c.loop-span-test.true c.span-item.is
      c.loop-span.invariant.lows c.keep.ensures.falling c.keep.ensures.count c.keep.ensures.same_above (omega (arith, ints));
  highs = keeps_more (λ s. mirrored s.hi) c.args.spans.now c.loop-span.span-index c.span-item.result c.args.most c.loop-span.highs.items _ _ c.loop-span-test.true c.span-item.is
      c.loop-span.invariant.highs c.keep-in-loop-span.ensures.falling c.keep-in-loop-span.ensures.count c.keep-in-loop-span.ensures.same_above (omega (arith, ints));
}
