use Rattle.std.proofs.Common.{◌∙◌, arith, sym, subst, to_z, of_z, w64}
use Rattle.std.proofs.lemmas.Int.{ints}
use Rattle.error_bounds.specs.Sizes.{IsNearGround}
use Rattle.error_bounds.proofs.FormLemmas.{near_ground, near_sides}
use Rattle.error_bounds.proofs.places.ground_point.Goals as goal

pub in_um-requires-clause-x_within : goal.in_um-requires-clause-x_within
in_um-requires-clause-x_within c =
    let sides = near_sides (to_z w64 (of_z w64 c.args.x)) (to_z w64 (of_z w64 c.args.y)) (to_z w64 (of_z w64 c.args.z)) (sym c.is_near_ground.ensures ∙ c.if-is_near_ground.true) in
    record { low = omega (arith, ints, sides.0.low); high = omega (arith, ints, sides.0.high) }

pub in_um-requires-clause-y_within : goal.in_um-requires-clause-y_within
in_um-requires-clause-y_within c =
    let sides = near_sides (to_z w64 (of_z w64 c.args.x)) (to_z w64 (of_z w64 c.args.y)) (to_z w64 (of_z w64 c.args.z)) (sym c.is_near_ground.ensures ∙ c.if-is_near_ground.true) in
    record { low = omega (arith, ints, sides.1.low); high = omega (arith, ints, sides.1.high) }

pub in_um-requires-clause-z_within : goal.in_um-requires-clause-z_within
in_um-requires-clause-z_within c =
    let sides = near_sides (to_z w64 (of_z w64 c.args.x)) (to_z w64 (of_z w64 c.args.y)) (to_z w64 (of_z w64 c.args.z)) (sym c.is_near_ground.ensures ∙ c.if-is_near_ground.true) in
    record { low = omega (arith, ints, sides.2.low); high = omega (arith, ints, sides.2.high) }

pub returns-then-is_near_ground-clause-near : goal.returns-then-is_near_ground-clause-near
returns-then-is_near_ground-clause-near c =
    subst IsNearGround (sym c.in_um.ensures) (near_ground (to_z w64 (of_z w64 c.args.x)) (to_z w64 (of_z w64 c.args.y)) (to_z w64 (of_z w64 c.args.z)) (sym c.is_near_ground.ensures ∙ c.if-is_near_ground.true))
