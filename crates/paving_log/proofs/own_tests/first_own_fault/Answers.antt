use Rattle.std.proofs.Common.{◌+◌, arith}
use Rattle.paving_log.proofs.OwnLemmas.{block_at, no_block, tested_more, tested_fails, tested_all, own_line_fits}
use Rattle.paving_log.proofs.own_tests.first_own_fault.Goals as goal

pub overflow_add-result : goal.overflow_add-result
overflow_add-result c =
    let here = block_at c.args.log.now c.loop-epoch.epoch-index c.epoch-item.result c.deref-epoch-items.ensures.value c.loop-epoch-test.true c.epoch-item.is in
    omega (
      arith,
      own_line_fits (c.epoch-item.result.line + c.in-Some.fault.offset) c.in-Some.fault.number c.loop-epoch.invariant here (rw c.in-Some.is at c.own_fault.ensures),
    )

pub returns-in-Some : goal.returns-in-Some
returns-in-Some c =
    let here = block_at c.args.log.now c.loop-epoch.epoch-index c.epoch-item.result c.deref-epoch-items.ensures.value c.loop-epoch-test.true c.epoch-item.is in
    tested_fails (c.epoch-item.result.line + c.in-Some.fault.offset) c.in-Some.fault.number c.loop-epoch.invariant here (rw c.in-Some.is at c.own_fault.ensures)

pub loop-epoch-preserved : goal.loop-epoch-preserved
loop-epoch-preserved c =
    let here = block_at c.args.log.now c.loop-epoch.epoch-index c.epoch-item.result c.deref-epoch-items.ensures.value c.loop-epoch-test.true c.epoch-item.is in
    tested_more c.loop-epoch.invariant here c.in_default.ensures

pub returns : goal.returns
returns c = tested_all c.loop-epoch.invariant (no_block c.args.log.now c.loop-epoch.epoch-index c.deref-epoch-items.ensures.value c.loop-epoch-test.false)
