use Rattle.std.proofs.Common.{◌≡◌, ◌+◌, ◌≤◌, arith, refl, to_z, of_z, w64}
use Rattle.std.proofs.lemmas.Int.{ints}
use Rattle.grid_model.specs.Boxes.{grid_box}
use Rattle.sat_model.specs.ClockSpans.{clock_spans}
use Rattle.relaxed_meet.proofs.SeparatedLemmas.{none_parted, one_parted, parted_none}
use Rattle.relaxed_meet.proofs.separation.Separation.shows_none.Goals as goal

pub loop-passed-init : goal.loop-passed-init
loop-passed-init c = record {
  last = c.from-last.ensures;
  parted = λ high above. none_parted c.from-last.result c.args.above high (clock_spans (grid_box c.args.part.now) c.args.rows.now) above;
}

pub loop-passed-preserved : goal.loop-passed-preserved
loop-passed-preserved c =
    let e : to_z w64 (of_z w64 c.bounded-offset.result) ≡ c.bounded-offset.result = omega (arith, ints) in
    let up_to = rw e at c.count_up_to.ensures in
    let above = rw e at c.count_above.ensures in
    record {
      last = c.from-last.ensures;
      parted = λ high are. one_parted c.from-last.result c.loop-passed.passed _ c.bounded-offset.result high _
          (omega (arith, c.loop-passed-test.true, c.saturating_sub-passed-end.ensures)) refl
          (omega (arith, above, c.if-count_above-passed.false)) (omega (arith, up_to, c.if-count_up_to-rank.false)) (c.loop-passed.invariant.parted high are);
    }

pub returns : goal.returns
returns c t =
    let whole : c.args.q + 1 ≤ c.loop-passed.passed + c.args.below =
    omega (arith, c.loop-passed-test.false, c.saturating_sub-passed-end.ensures, c.loop-passed.invariant.last) in
    parted_none c.args.q c.loop-passed.passed c.args.below c.args.above c.args.part.now c.args.rows.now whole (rw c.loop-passed.invariant.last at c.loop-passed.invariant.parted)
