use Rattle.std.proofs.Common.{◌≡◌, arith, take, true, to_z, of_z, w64}
use Rattle.std.proofs.lemmas.Int.{ints}
use Rattle.std.proofs.lemmas.Grind.{common_steps}
use lib.Signed.{le_z}
use Rattle.grid_model.specs.Boxes.{grid_box}
use Rattle.sat_model.specs.ClockSpans.{clock_ends}
use Rattle.relaxed_meet.proofs.OffsetLemmas.{one_more, in_front}
use Rattle.relaxed_meet.proofs.counts.count_up_to.Goals.{then-is_asked+then-is_up_to, else-is_asked}
use Rattle.relaxed_meet.proofs.counts.count_up_to.Goals as goal

pub returns-then-count-most : goal.returns-then-count-most
returns-then-count-most c =
    let e : to_z w64 (of_z w64 c.args.offset) ≡ c.args.offset = omega (arith, ints) in
    let front = in_front (clock_ends (grid_box c.args.part.now)) (λ t. le_z t.1 c.args.offset) c.args.rows.now c.loop-row.row-index in
    omega (arith, rw e at c.loop-row.invariant.counted, front)

pub loop-row-preserved : goal.loop-row-preserved
loop-row-preserved c =
    let more = one_more (clock_ends (grid_box c.args.part.now)) (λ t. le_z t.1 (to_z w64 (of_z w64 c.args.offset))) c.args.rows.now c.loop-row.row-index c.row-item.result c.loop-row-test.true c.row-item.is in
    let had = c.loop-row.invariant in
    elim c.if-is_asked.branch [
      | then-is_asked+then-is_up_to w ↦
          let is_so = w.is_up_to.ensures.0 w.if-is_up_to.true in
          let yes : le_z (clock_ends (grid_box c.args.part.now) c.row-item.result).1 (to_z w64 (of_z w64 c.args.offset)) ≡ true = grind (arith, ints, is_so) in
          record { counted = omega (arith, w.count-is, rw yes at more, had.counted); seen = omega (arith, w.count-is, had.seen) }
      | else-is_asked w ↦ record { counted = omega (arith, w.count-is, more, had.counted); seen = omega (arith, w.count-is, had.seen) }
    ]

pub returns : goal.returns
returns c =
    let e : to_z w64 (of_z w64 c.args.offset) ≡ c.args.offset = omega (arith, ints) in
    let rows = c.args.rows.now in
    let all : take c.loop-row.row-index rows ≡ rows = grind (arith, common_steps, c.loop-row-test.false) in
    let counted = rw (all, e) at c.loop-row.invariant.counted in
    counted
