use Rattle.std.proofs.Common.{◌<◌, ◌≤◌, ◌-◌, arith, inr, refl, length, rules}
use Rattle.zone_guard.proofs.WatchLemmas.{no_sides, no_side, side_more, sides_done, owed_here, unfit_here}
use Rattle.zone_guard.proofs.watching.sides_in.Goals as goal

pub sides-init : goal.sides-init
sides-init c = rw c.new-sides.ensures.items (no_sides c.args.text.now c.args.first c.args.count)

pub returns-in_default-clause-fault : goal.returns-in_default-clause-fault
returns-in_default-clause-fault c =
    let so = c.sides.invariant in
    let less : length c.sides.sides.items < c.args.count = search rules in
    inr (
      c.sides.number,
      refl,
      λ names. (so.leads names).fails c.sides.number (owed_here names (c.args.count - length c.sides.sides.items) c.sides.number c.sides.left.now c.in_default.ensures.none (omega (arith, less))),
    )

pub returns-in_default-side_of-clause-fault : goal.returns-in_default-side_of-clause-fault
returns-in_default-side_of-clause-fault c =
    let so = c.sides.invariant in
    let less : length c.sides.sides.items < c.args.count = search rules in
    inr (
      c.sides.number,
      refl,
      λ names. (so.leads names).fails c.sides.number
          (unfit_here names (c.args.count - length c.sides.sides.items) c.sides.number c.sides.left.now c.in-Some.here.now c.in-Some.behind.now c.in-Some.ensures.found
          (no_side names (c.args.count - length c.sides.sides.items) c.in-Some.here.now (omega (arith, less)) c.in_default-side_of.ensures.none)),
    )

pub sides-preserved : goal.sides-preserved
sides-preserved c =
    let less : length c.sides.sides.items < c.args.count = search rules in
    let found = c.in-Some-side_of.ensures.found in
    side_more c.args.text.now c.args.first c.args.count c.sides.sides.items c.push.new.self.items c.sides.number c.sides.left.now c.in-Some.here.now c.in-Some.behind.now c.in-Some-side_of.side
    c.sides.invariant less c.in-Some.ensures.found c.in-Some.ensures.shorter found.0 found.1 c.in_ok-push.ensures.items

pub returns-clause-value : goal.returns-clause-value
returns-clause-value c =
    let all : c.args.count ≤ length c.sides.sides.items = search rules in
    sides_done c.args.text.now c.args.first c.args.count c.sides.sides.items c.sides.number c.sides.left.now c.sides.invariant all
