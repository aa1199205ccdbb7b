use Rattle.std.proofs.Common.{◌∙◌, sym, to_z, of_z, w64}
use Rattle.error_bounds.proofs.DirectionLemmas.{components_within}
use Rattle.error_bounds.proofs.directions.direction.Goals as goal

pub invariant_of-result : goal.invariant_of-result
invariant_of-result c =
    let within = components_within (to_z w64 (of_z w64 c.args.x)) (to_z w64 (of_z w64 c.args.y)) (to_z w64 (of_z w64 c.args.z)) (sym c.is_vector.ensures ∙ c.if-is_vector.true) in
    record { x_within = within.0; y_within = within.1; z_within = within.2 }
