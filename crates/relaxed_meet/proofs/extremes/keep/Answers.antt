use Rattle.std.proofs.Common.{◌≡◌, arith, refl, to_z, of_z, w64}
use Rattle.std.proofs.lemmas.Int.{ints}
use Rattle.relaxed_meet.proofs.extremes.keep.Goals as goal

pub returns-then-is_past-clause-same_above : goal.returns-then-is_past-clause-same_above
returns-then-is_past-clause-same_above c =
    let same : to_z w64 (of_z w64 c.args.number) ≡ c.args.number = omega (arith, ints) in
    rw (c.deref.ensures.0, same) at (c.if-is_past.ensures.same_above refl)

pub returns-clause-same_above : goal.returns-clause-same_above
returns-clause-same_above c =
    let same : to_z w64 (of_z w64 c.args.number) ≡ c.args.number = omega (arith, ints) in
    rw same at c.put_in.ensures.same_above
