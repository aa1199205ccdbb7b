use Rattle.std.proofs.Common.{◌≡◌, arith, to_z, of_z, w64, subst}
use Rattle.std.specs.Prelude.{ℤ}
use Rattle.std.proofs.lemmas.Int.{ints}
use Rattle.range_contractor.specs.Sides.{IsNearlyReached}
use Rattle.range_contractor.proofs.sides.is_side_reached.Goals as goal

pub returns-clause-high : goal.returns-clause-high
returns-clause-high g c = λ t.
    let I = g.I.Interval in
    let e : to_z w64 (of_z w64 c.args.side.now.hi) ≡ c.args.side.now.hi = omega (arith, ints) in
    subst (λ (v : ℤ). IsNearlyReached I.GRAIN (record { lo = I.low c.args.place; hi = I.high c.args.place }) (I.area_low c.args.ranges) (I.area_high c.args.ranges) (I.area_low c.args.others) (I.area_high c.args.others) v) e (c.is_face_reached-2.ensures t)
