use Rattle.std.proofs.Common.{◌≡◌, arith, take, true, false}
use Rattle.std.proofs.lemmas.Grind.{common_steps}
use Rattle.grid_model.specs.Boxes.{grid_box}
use Rattle.sat_model.specs.Relaxed.{holds}
use Rattle.sat_model.specs.ClockSpans.{clock_ends}
use Rattle.std.proofs.lemmas.Int.{ints}
use Rattle.std.proofs.Common.{to_z, of_z, w64}
use Rattle.relaxed_meet.proofs.OffsetLemmas.{one_more}
use Rattle.relaxed_meet.proofs.offsets.lies_in_most.Goals.{then-not-has_offset+else-missed-q, else-not-has_offset}
use Rattle.relaxed_meet.proofs.offsets.lies_in_most.Goals as goal

pub loop-row-preserved : goal.loop-row-preserved
loop-row-preserved c =
    let more = one_more (clock_ends (grid_box c.args.part.now)) (λ s. holds s (to_z w64 (of_z w64 c.args.offset))) c.args.rows.now c.loop-row.row-index c.row-item.result c.loop-row-test.true c.row-item.is in
    let had = c.loop-row.invariant.counted in
    elim c.if-not-has_offset.branch [
      | then-not-has_offset+else-missed-q w ↦
          let missed : holds (clock_ends (grid_box c.args.part.now) c.row-item.result) (to_z w64 (of_z w64 c.args.offset)) ≡ false = cc in
          record { counted = omega (arith, w.missed-is, rw missed at more, had); few = omega (arith, w.missed-is, w.if-missed-q, c.loop-row.invariant.few) }
      | else-not-has_offset w ↦
          let held_here : holds (clock_ends (grid_box c.args.part.now) c.row-item.result) (to_z w64 (of_z w64 c.args.offset)) ≡ true = cc in
          record { counted = omega (arith, w.missed-is, rw held_here at more, had); few = omega (arith, w.missed-is, c.loop-row.invariant.few) }
    ]

pub returns : goal.returns
returns c t =
    let e : to_z w64 (of_z w64 c.args.offset) ≡ c.args.offset = omega (arith, ints) in
    let rows = c.args.rows.now in
    let all : take c.loop-row.row-index rows ≡ rows = grind (arith, common_steps, c.loop-row-test.false) in
    let counted = rw (all, e) at c.loop-row.invariant.counted in
    omega (arith, counted, c.loop-row.invariant.few, c.loop-row-test.false)
