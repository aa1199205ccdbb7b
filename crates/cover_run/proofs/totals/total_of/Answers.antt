use Rattle.std.proofs.Common.{arith}
use Rattle.paving_log.proofs.OwnLemmas.{block_at, no_block}
use Rattle.cover_run.proofs.TotalLemmas.{body_here, summed_all, summed_first, summed_fits}
use Rattle.cover_run.proofs.TotalLemmas.{summed_more}
use Rattle.cover_run.proofs.totals.total_of.Goals as goal

pub loop-epoch-init : goal.loop-epoch-init
loop-epoch-init c = summed_first c.requires.numbered c.requires.judged

pub overflow_add-total : goal.overflow_add-total
overflow_add-total c =
    let here = block_at c.args.log.now c.loop-epoch.epoch-index c.epoch-item.result
    c.deref-epoch-items.ensures.value c.loop-epoch-test.true c.epoch-item.is in
    omega (
      arith,
      summed_fits c.counted_in-total.result c.loop-epoch.invariant here
          c.counted_in-total.ensures.bound,
    )

pub loop-epoch-preserved : goal.loop-epoch-preserved
loop-epoch-preserved c =
    let here = block_at c.args.log.now c.loop-epoch.epoch-index c.epoch-item.result
    c.deref-epoch-items.ensures.value c.loop-epoch-test.true c.epoch-item.is in
    let is = c.counted_in-total.ensures.value c.args.log.now.rules (body_here c.loop-epoch.invariant here)
    in summed_more c.counted_in-total.result c.loop-epoch.invariant here is c.counted_in-total.ensures.bound

pub returns : goal.returns
returns c = summed_all c.loop-epoch.invariant (no_block c.args.log.now c.loop-epoch.epoch-index
    c.deref-epoch-items.ensures.value c.loop-epoch-test.false)
