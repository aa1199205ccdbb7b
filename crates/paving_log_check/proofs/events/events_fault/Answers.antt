use Rattle.std.proofs.Common.{◌≡◌, ◌+◌, ◌-◌, arith, ap, length, drop, refl}
use Rattle.std.proofs.lemmas.List.{length-drop}
use Rattle.grid_model.specs.Boxes.{grid_box}
use Rattle.subpaving.specs.LiveValues.{live_value}
use Rattle.step_lines.specs.Steps.{steps_of, steps_left}
use Rattle.paving_log.specs.Renewing.{new_rows}
use Rattle.paving_log_check.specs.RowsTests.{rows_test_value}
use Rattle.paving_log_check.specs.Steps.{stage_of}
use Rattle.paving_log_check.proofs.RenewalLemmas.{renewal_few}
use Rattle.paving_log_check.proofs.WayLemmas.{few_before, steps_few, way_first, way_at, way_end, lines_before, lines_last, fails_in_steps, fails_in_renewal, way_more, fails_in_last, way_ends, fails_at_end}
use Rattle.paving_log_check.proofs.events.events_fault.Goals as goal

pub loop-renewal-init : goal.loop-renewal-init
loop-renewal-init c =
    let body = c.args.body.now in
    record {
      way = way_first _ _ _ _ _ _ _ _ (steps_left c.ahead-ahead.result) body.renewals.items (stage_of c.in_ok-live.live c.new-test.result)
          (rw c.ahead-ahead.ensures.all refl) (rw c.ahead-ahead.ensures.all body.places) (rw (c.in_ok-live.ensures, c.new-test.ensures) refl);
      all = omega (arith, ap length c.ahead-ahead.ensures.all);
    }

pub take_steps-requires : goal.take_steps-requires
take_steps-requires c =
    let body = c.args.body.now in
    let steps = steps_left c.loop-renewal.ahead in
    let r = c.renewal-item.result in
    let more = drop (c.loop-renewal.renewal-index + 1) body.renewals.items in
    let w = way_at _ _ _ _ _ _ _ _ body.renewals.items c.deref-renewal-items.result.now c.loop-renewal.renewal-index r
    c.deref-renewal-items.ensures.value c.loop-renewal-test.true c.renewal-item.is c.loop-renewal.invariant.way in
    omega (arith, c.requires.numbered, lines_before _ _ _ _ _ _ _ _ steps r more w)

pub returns-in-Some : goal.returns-in-Some
returns-in-Some c =
    let body = c.args.body.now in
    let steps = steps_left c.loop-renewal.ahead in
    let r = c.renewal-item.result in
    let more = drop (c.loop-renewal.renewal-index + 1) body.renewals.items in
    let w = way_at _ _ _ _ _ _ _ _ body.renewals.items c.deref-renewal-items.result.now c.loop-renewal.renewal-index r
    c.deref-renewal-items.ensures.value c.loop-renewal-test.true c.renewal-item.is c.loop-renewal.invariant.way in
    let (k, fails, plain, at) = rw c.in-Some.is at c.in_ok-fault.ensures.found in
    fails_in_steps _ _ _ _ _ _ _ _ steps r more w (r.at - c.loop-renewal.taken) refl k c.in-Some.fault fails plain at

pub overflow_add-next : goal.overflow_add-next
overflow_add-next c =
    let body = c.args.body.now in
    let steps = steps_left c.loop-renewal.ahead in
    let r = c.renewal-item.result in
    let more = drop (c.loop-renewal.renewal-index + 1) body.renewals.items in
    let w = way_at _ _ _ _ _ _ _ _ body.renewals.items c.deref-renewal-items.result.now c.loop-renewal.renewal-index r
    c.deref-renewal-items.ensures.value c.loop-renewal-test.true c.renewal-item.is c.loop-renewal.invariant.way in
    omega (arith, c.requires.numbered, lines_before _ _ _ _ _ _ _ _ steps r more w)

pub renewal_fault-requires-clause-numbered : goal.renewal_fault-requires-clause-numbered
renewal_fault-requires-clause-numbered c =
    let body = c.args.body.now in
    let steps = steps_left c.loop-renewal.ahead in
    let r = c.renewal-item.result in
    let more = drop (c.loop-renewal.renewal-index + 1) body.renewals.items in
    let w = way_at _ _ _ _ _ _ _ _ body.renewals.items c.deref-renewal-items.result.now c.loop-renewal.renewal-index r
    c.deref-renewal-items.ensures.value c.loop-renewal-test.true c.renewal-item.is c.loop-renewal.invariant.way in
    omega (arith, c.requires.numbered, lines_before _ _ _ _ _ _ _ _ steps r more w)

pub returns-in-Some-renewal_fault : goal.returns-in-Some-renewal_fault
returns-in-Some-renewal_fault c =
    let body = c.args.body.now in
    let steps = steps_left c.loop-renewal.ahead in
    let r = c.renewal-item.result in
    let more = drop (c.loop-renewal.renewal-index + 1) body.renewals.items in
    let w = way_at _ _ _ _ _ _ _ _ body.renewals.items c.deref-renewal-items.result.now c.loop-renewal.renewal-index r
    c.deref-renewal-items.ensures.value c.loop-renewal-test.true c.renewal-item.is c.loop-renewal.invariant.way in
    let mid = stage_of c.take_steps.new.live c.take_steps.new.test in
    let here = rw c.in_default.is at c.in_ok-fault.ensures.stage in
    let passes = rw c.in_default.is at c.in_ok-fault.ensures.found in
    let (k, breaks, at) = rw c.in-Some-renewal_fault.is at c.renewal_fault.ensures.found in
    fails_in_renewal _ _ _ _ _ _ _ _ steps r more w (r.at - c.loop-renewal.taken) refl mid here passes k c.in-Some-renewal_fault.fault breaks at

pub overflow_add-next-in-loop-renewal : goal.overflow_add-next-in-loop-renewal
overflow_add-next-in-loop-renewal c =
    let body = c.args.body.now in
    let steps = steps_left c.loop-renewal.ahead in
    let r = c.renewal-item.result in
    let more = drop (c.loop-renewal.renewal-index + 1) body.renewals.items in
    let w = way_at _ _ _ _ _ _ _ _ body.renewals.items c.deref-renewal-items.result.now c.loop-renewal.renewal-index r
    c.deref-renewal-items.ensures.value c.loop-renewal-test.true c.renewal-item.is c.loop-renewal.invariant.way in
    omega (arith, c.requires.numbered, lines_before _ _ _ _ _ _ _ _ steps r more w)

pub overflow_cast-next : goal.overflow_cast-next
overflow_cast-next c =
    let body = c.args.body.now in
    let steps = steps_left c.loop-renewal.ahead in
    let r = c.renewal-item.result in
    let more = drop (c.loop-renewal.renewal-index + 1) body.renewals.items in
    let w = way_at _ _ _ _ _ _ _ _ body.renewals.items c.deref-renewal-items.result.now c.loop-renewal.renewal-index r
    c.deref-renewal-items.ensures.value c.loop-renewal-test.true c.renewal-item.is c.loop-renewal.invariant.way in
    omega (arith, c.requires.numbered, lines_before _ _ _ _ _ _ _ _ steps r more w, c.len.ensures, r.rows.ok)

pub overflow_add-next-in-loop-renewal-2 : goal.overflow_add-next-in-loop-renewal-2
overflow_add-next-in-loop-renewal-2 c =
    let body = c.args.body.now in
    let steps = steps_left c.loop-renewal.ahead in
    let r = c.renewal-item.result in
    let more = drop (c.loop-renewal.renewal-index + 1) body.renewals.items in
    let w = way_at _ _ _ _ _ _ _ _ body.renewals.items c.deref-renewal-items.result.now c.loop-renewal.renewal-index r
    c.deref-renewal-items.ensures.value c.loop-renewal-test.true c.renewal-item.is c.loop-renewal.invariant.way in
    omega (arith, c.requires.numbered, lines_before _ _ _ _ _ _ _ _ steps r more w, c.len.ensures, r.rows.ok)

pub overflow_add-next-in-loop-renewal-3 : goal.overflow_add-next-in-loop-renewal-3
overflow_add-next-in-loop-renewal-3 c =
    let body = c.args.body.now in
    let steps = steps_left c.loop-renewal.ahead in
    let r = c.renewal-item.result in
    let more = drop (c.loop-renewal.renewal-index + 1) body.renewals.items in
    let w = way_at _ _ _ _ _ _ _ _ body.renewals.items c.deref-renewal-items.result.now c.loop-renewal.renewal-index r
    c.deref-renewal-items.ensures.value c.loop-renewal-test.true c.renewal-item.is c.loop-renewal.invariant.way in
    omega (arith, c.requires.numbered, lines_before _ _ _ _ _ _ _ _ steps r more w, c.len.ensures, r.rows.ok)

pub new-test-requires-in-loop-renewal : goal.new-test-requires-in-loop-renewal
new-test-requires-in-loop-renewal c =
    let given = c.args.given.now in
    let r = c.renewal-item.result in
    let holds = rw c.in_default-renewal_fault.is at c.renewal_fault.ensures.found in
    omega (
      arith,
      c.requires.rows,
      ap length c.deref.ensures.value,
      renewal_few given.delays (grid_box given.root.now) (grid_box r.part) given.firsts.now given.bases.now (live_value c.take_steps.new.live) (new_rows r) holds,
    )

pub loop-renewal-preserved : goal.loop-renewal-preserved
loop-renewal-preserved c =
    let body = c.args.body.now in
    let steps = steps_left c.loop-renewal.ahead in
    let r = c.renewal-item.result in
    let more = drop (c.loop-renewal.renewal-index + 1) body.renewals.items in
    let w = way_at _ _ _ _ _ _ _ _ body.renewals.items c.deref-renewal-items.result.now c.loop-renewal.renewal-index r
    c.deref-renewal-items.ensures.value c.loop-renewal-test.true c.renewal-item.is c.loop-renewal.invariant.way in
    let mid = stage_of c.take_steps.new.live c.take_steps.new.test in
    let here = rw c.in_default.is at c.in_ok-fault.ensures.stage in
    let passes = rw c.in_default.is at c.in_ok-fault.ensures.found in
    let holds = rw c.in_default-renewal_fault.is at c.renewal_fault.ensures.found in
    let left = rw c.in_default.is at c.in_ok-fault.ensures.left in
    let few = few_before c.loop-renewal.taken steps r more w.rise in
    record {
      way = way_more _ _ _ _ _ _ _ _ steps r more w (r.at - c.loop-renewal.taken) refl mid here passes _ (stage_of c.renewal_fault.new.live c.new-test-in-loop-renewal.result) (steps_left c.take_steps.new.ahead) holds
          (omega (arith, c.len.ensures, r.rows.ok)) (rw (c.renewal_fault.ensures.same, c.new-test-in-loop-renewal.ensures, c.deref.ensures.value) refl) left;
      all = omega (arith, c.loop-renewal.invariant.all, few.0, few.1, ap length left, length-drop (r.at - c.loop-renewal.taken) steps);
    }

pub overflow_cast-count : goal.overflow_cast-count
overflow_cast-count c =
    let body = c.args.body.now in
    omega (arith, c.requires.numbered, c.len-2.ensures, steps_few (steps_of body.steps) body.renewals.items)

pub take_steps-requires-2 : goal.take_steps-requires-2
take_steps-requires-2 c =
    let body = c.args.body.now in
    let steps = steps_left c.loop-renewal.ahead in
    let w = way_end _ _ _ _ _ _ _ _ body.renewals.items c.deref-renewal-items.result.now c.loop-renewal.renewal-index
    c.deref-renewal-items.ensures.value c.loop-renewal-test.false c.loop-renewal.invariant.way in
    omega (arith, c.requires.numbered, lines_last _ _ _ _ _ _ _ _ steps w, c.len-2.ensures, c.loop-renewal.invariant.all)

pub returns-in-Some-2 : goal.returns-in-Some-2
returns-in-Some-2 c =
    let body = c.args.body.now in
    let steps = steps_left c.loop-renewal.ahead in
    let w = way_end _ _ _ _ _ _ _ _ body.renewals.items c.deref-renewal-items.result.now c.loop-renewal.renewal-index
    c.deref-renewal-items.ensures.value c.loop-renewal-test.false c.loop-renewal.invariant.way in
    let count = c.len-2.result - c.loop-renewal.taken in
    let is : count ≡ length steps = omega (arith, c.len-2.ensures, c.loop-renewal.invariant.all) in
    let (k, fails, plain, at) = rw c.in-Some-2.is at c.in_ok-fault-2.ensures.found in
    fails_in_last _ _ _ _ _ _ _ _ steps w count is k c.in-Some-2.fault fails plain at

pub overflow_add-next-in-Some-done_fault : goal.overflow_add-next-in-Some-done_fault
overflow_add-next-in-Some-done_fault c =
    let body = c.args.body.now in
    let steps = steps_left c.loop-renewal.ahead in
    let w = way_end _ _ _ _ _ _ _ _ body.renewals.items c.deref-renewal-items.result.now c.loop-renewal.renewal-index
    c.deref-renewal-items.ensures.value c.loop-renewal-test.false c.loop-renewal.invariant.way in
    omega (arith, c.requires.numbered, lines_last _ _ _ _ _ _ _ _ steps w, c.len-2.ensures, c.loop-renewal.invariant.all)

pub returns-in-Some-done_fault : goal.returns-in-Some-done_fault
returns-in-Some-done_fault c =
    let body = c.args.body.now in
    let steps = steps_left c.loop-renewal.ahead in
    let w = way_end _ _ _ _ _ _ _ _ body.renewals.items c.deref-renewal-items.result.now c.loop-renewal.renewal-index
    c.deref-renewal-items.ensures.value c.loop-renewal-test.false c.loop-renewal.invariant.way in
    let count = c.len-2.result - c.loop-renewal.taken in
    let is : count ≡ length steps = omega (arith, c.len-2.ensures, c.loop-renewal.invariant.all) in
    let end = stage_of c.take_steps-2.new.live c.take_steps-2.new.test in
    let here = rw c.in_default-2.is at c.in_ok-fault-2.ensures.stage in
    let passes = rw c.in_default-2.is at c.in_ok-fault-2.ensures.found in
    let fails = rw c.in-Some-done_fault.is at (c.done_fault.ensures (rows_test_value c.take_steps-2.new.test)) in
    fails_at_end _ _ _ _ _ _ _ _ steps w count is end here passes c.plain_fault.result (rw c.plain_fault.ensures.number fails) c.plain_fault.ensures.no_spans c.plain_fault.ensures.line

pub returns : goal.returns
returns c =
    let body = c.args.body.now in
    let steps = steps_left c.loop-renewal.ahead in
    let w = way_end _ _ _ _ _ _ _ _ body.renewals.items c.deref-renewal-items.result.now c.loop-renewal.renewal-index
    c.deref-renewal-items.ensures.value c.loop-renewal-test.false c.loop-renewal.invariant.way in
    let count = c.len-2.result - c.loop-renewal.taken in
    let is : count ≡ length steps = omega (arith, c.len-2.ensures, c.loop-renewal.invariant.all) in
    let end = stage_of c.take_steps-2.new.live c.take_steps-2.new.test in
    let here = rw c.in_default-2.is at c.in_ok-fault-2.ensures.stage in
    let passes = rw c.in_default-2.is at c.in_ok-fault-2.ensures.found in
    way_ends _ _ _ _ _ _ _ _ steps w count is end here passes (rw c.in-None.is at (c.done_fault.ensures (rows_test_value c.take_steps-2.new.test)))
