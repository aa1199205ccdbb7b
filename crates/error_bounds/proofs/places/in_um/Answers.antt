use Rattle.std.proofs.Common.{arith}
use Rattle.std.proofs.lemmas.Int.{ints}
use Rattle.error_bounds.proofs.places.in_um.Goals as goal
use Rattle.grid_model.proofs.PointLemmas.{same_pos}

pub returns : goal.returns
returns c = same_pos _ _ _ _ _ _ (omega (arith, ints, c.requires.x_within)) (omega (arith, ints, c.requires.y_within)) (omega (arith, ints, c.requires.z_within))
