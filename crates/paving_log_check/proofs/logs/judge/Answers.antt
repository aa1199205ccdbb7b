use Rattle.std.proofs.Common.{arith}
use Rattle.sat_model.proofs.BoundLemmas.{row_cover}
use Rattle.sat_model.proofs.FaultLemmas.{one_first_fault}
use Rattle.sat_model.proofs.VerdictLemmas.{not_both}
use Rattle.paving_log.specs.Values.{log_value}
use Rattle.paving_log.proofs.OwnLemmas.{block_at, no_block}
use Rattle.paving_log_check.proofs.BlockLemmas.{underway_more, underway_fails, underway_ends, block_fits, boxes_fit}
use Rattle.paving_log_check.proofs.logs.judge.Goals as goal

pub block_fault-requires : goal.block_fault-requires
block_fault-requires c =
    let here = block_at c.args.log.now c.loop-epoch.epoch-index c.epoch-item.result c.deref-epoch-items.ensures.value c.loop-epoch-test.true c.epoch-item.is in
    block_fits c.loop-epoch.invariant here

pub returns-in-Some-clause-first_fault : goal.returns-in-Some-clause-first_fault
returns-in-Some-clause-first_fault c =
    let here = block_at c.args.log.now c.loop-epoch.epoch-index c.epoch-item.result c.deref-epoch-items.ensures.value c.loop-epoch-test.true c.epoch-item.is in
    let fails = rw c.in-Some.is at c.in_ok-fault.ensures in
    underway_fails c.in-Some.fault.line c.in-Some.fault.number c.loop-epoch.invariant here fails.0

pub returns-in-Some-clause-refused : goal.returns-in-Some-clause-refused
returns-in-Some-clause-refused c =
    not_both (log_value c.args.log.now) c.in-Some.fault.line c.in-Some.fault.number (returns-in-Some-clause-first_fault c)

pub returns-in-Some-clause-only_fault : goal.returns-in-Some-clause-only_fault
returns-in-Some-clause-only_fault c line number first =
    one_first_fault (log_value c.args.log.now) line number c.in-Some.fault.line c.in-Some.fault.number first (returns-in-Some-clause-first_fault c)

pub returns-in-Some-clause-no_spans : goal.returns-in-Some-clause-no_spans
returns-in-Some-clause-no_spans c = (rw c.in-Some.is at c.in_ok-fault.ensures).1

pub overflow_add-boxes : goal.overflow_add-boxes
overflow_add-boxes c =
    let here = block_at c.args.log.now c.loop-epoch.epoch-index c.epoch-item.result c.deref-epoch-items.ensures.value c.loop-epoch-test.true c.epoch-item.is in
    omega (arith, boxes_fit c.kept_boxes-boxes.result c.loop-epoch.invariant here c.kept_boxes-boxes.ensures.bound)

pub loop-epoch-preserved : goal.loop-epoch-preserved
loop-epoch-preserved c =
    let here = block_at c.args.log.now c.loop-epoch.epoch-index c.epoch-item.result c.deref-epoch-items.ensures.value c.loop-epoch-test.true c.epoch-item.is in
    let passes = rw c.in_default.is at c.in_ok-fault.ensures in
    underway_more c.kept_boxes-boxes.result c.loop-epoch.invariant here passes
    (c.kept_boxes-boxes.ensures.value c.args.log.now.rules passes.body) c.kept_boxes-boxes.ensures.bound

pub returns-clause-cover : goal.returns-clause-cover
returns-clause-cover c = row_cover (log_value c.args.log.now)
    (underway_ends c.loop-epoch.invariant (no_block c.args.log.now c.loop-epoch.epoch-index c.deref-epoch-items.ensures.value c.loop-epoch-test.false))
