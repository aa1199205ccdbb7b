use Rattle.std.proofs.Common.{◌≡◌, arith, refl, to_z, of_z, w64}
use Rattle.std.proofs.lemmas.Int.{ints}
use Rattle.relaxed_meet.proofs.box_test.BoxTest.holds_hull.Goals as goal
use Rattle.grid_model.proofs.PointLemmas.{le_to as le_true}

pub returns-then-bounds_offsets : goal.returns-then-bounds_offsets
returns-then-bounds_offsets c =
    let lo : to_z w64 (of_z w64 c.args.lo) ≡ c.args.lo = omega (arith, ints) in
    let hi : to_z w64 (of_z w64 c.args.hi) ≡ c.args.hi = omega (arith, ints) in
    let low = rw lo at (c.if-bounds_offsets.ensures.low refl) in
    let high = rw hi at (c.if-bounds_offsets.ensures.high refl) in
    (λ yes b lies. (low b lies, high b lies), λ holds. refl)

pub returns-then-lo-hull : goal.returns-then-lo-hull
returns-then-lo-hull c = (
  λ t b lies. let within = c.in-Some.ensures.some.within b lies in (omega (arith, ints), omega (arith, ints)),
  λ holds. le_true (to_z w64 (of_z w64 c.in-Some.hull.hi)) (to_z w64 (of_z w64 c.args.hi))
      (omega (arith, ints, (holds c.in-Some.hull.hi c.in-Some.ensures.some.hi_lies).1)),
)

pub returns-else-lo-hull : goal.returns-else-lo-hull
returns-else-lo-hull c = (
  λ t. absurd (omega (arith, ints)),
  λ holds. le_true (to_z w64 (of_z w64 c.args.lo)) (to_z w64 (of_z w64 c.in-Some.hull.lo))
      (omega (arith, ints, (holds c.in-Some.hull.lo c.in-Some.ensures.some.lo_lies).0)),
)

pub returns-in-None : goal.returns-in-None
returns-in-None c = (λ t b lies. absurd (c.in-None.ensures.none.0 refl b lies), λ t. refl)
