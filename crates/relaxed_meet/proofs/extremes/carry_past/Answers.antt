use Rattle.std.proofs.Common.{arith, refl}
use Rattle.std.proofs.lemmas.Int.{ints}
use Rattle.relaxed_meet.proofs.FallingLemmas.{exchanged, passed_by}
use Rattle.relaxed_meet.proofs.extremes.carry_past.Goals as goal
use Rattle.relaxed_meet.proofs.extremes.carry_past.Goals.{then-next-carried, else-next-carried}

pub loop-place-preserved : goal.loop-place-preserved
loop-place-preserved c = elim c.if-next-carried.branch [
  | then-next-carried w ↦ record {
    kept = exchanged c.loop-place.place c.loop-place.kept _ _ _ _ _ c.loop-place.invariant.kept (omega (arith, c.loop-place-test.true, c.loop-place.invariant.kept.count))
        (omega (arith, ints, w.if-next-carried.true)) w.kept-is (omega (arith, ints, w.carried-is));
    place_end = refl;
  }
  | else-next-carried w ↦ record {
    kept = passed_by c.loop-place.place c.loop-place.kept _ _ _ _ _ c.loop-place.invariant.kept (omega (arith, ints, w.if-next-carried.false)) w.kept-is w.carried-is;
    place_end = refl;
  }
]
