use Rattle.std.proofs.Common.{◌+◌, ◌<◌, arith, rules, refl, ap, length}
use Rattle.sat_rows.proofs.RowLemmas.{so_far_none, so_far_more, so_far_all, bases_none, bases_more, bases_all, small_more, usable_more, usable_one}
use Rattle.sat_rows.proofs.epochs.rows_of.Goals as goal

pub loop-seen-init : goal.loop-seen-init
loop-seen-init g c = rw (c.new-lines.ensures.items, c.new-bases.ensures.items, c.deref-seen-items.ensures.value) (record { lines = so_far_none _ _ _ c.args.epoch.now.sats.items; bases = bases_none _ _ _ c.args.epoch.now.sats.items; small = tt; usable = refl; few = omega arith })

pub overflow_add-usable : goal.overflow_add-usable
overflow_add-usable g c =
    let count = ap length c.deref-seen-items.ensures.value in
    let few : c.loop-seen.usable + c.count-usable.result < 4294967296 = omega (arith, count, c.args.epoch.now.few, c.loop-seen-test.true, c.loop-seen.invariant.few, c.count-usable.ensures, usable_one c.line_of-formed.result.line) in
    search rules

pub loop-seen-preserved : goal.loop-seen-preserved
loop-seen-preserved g c =
    let items = c.in_ok-push.ensures.items in
    record {
      lines = so_far_more _ _ _ c.args.epoch.now.sats.items c.deref-seen-items.result.now c.loop-seen.lines.items c.push.new.self.items c.loop-seen.seen-index c.line_of-formed.result.line _ c.loop-seen.invariant.lines
          c.loop-seen-test.true c.line_of-formed.ensures.own items;
      bases = bases_more _ _ _ c.args.epoch.now.sats.items c.deref-seen-items.result.now c.loop-seen.lines.items c.push.new.self.items c.loop-seen.bases.items c.push_base.new.bases.items c.loop-seen.seen-index c.line_of-formed.result.line c.line_of-formed.result.base _ c.loop-seen.invariant.bases
          c.loop-seen-test.true c.line_of-formed.ensures.base items c.in_ok-push_base.ensures;
      small = small_more c.loop-seen.lines.items c.push.new.self.items c.line_of-formed.result.line c.loop-seen.invariant.small c.line_of-formed.ensures.small items;
      usable = omega (arith, usable_more c.loop-seen.lines.items c.push.new.self.items c.line_of-formed.result.line items, c.loop-seen.invariant.usable, c.count-usable.ensures);
      few = omega (arith, c.loop-seen.invariant.few, c.count-usable.ensures, usable_one c.line_of-formed.result.line);
    }

pub returns-clause-lines : goal.returns-clause-lines
returns-clause-lines g c = so_far_all _ _ _ c.args.epoch.now.sats.items c.deref-seen-items.result.now c.loop-seen.lines.items c.loop-seen.seen-index c.loop-seen.invariant.lines c.loop-seen-test.false

pub returns-clause-bases : goal.returns-clause-bases
returns-clause-bases g c = bases_all _ _ _ c.args.epoch.now.sats.items c.deref-seen-items.result.now c.loop-seen.lines.items c.loop-seen.bases.items c.loop-seen.seen-index c.loop-seen.invariant.bases c.loop-seen-test.false
