use Rattle.std.proofs.Common.{◌*◌, arith}
use Rattle.std.proofs.lemmas.Int.{ints}
use Rattle.grid_model.specs.Angles.{unit}
use Rattle.grid_model.specs.Intervals.{Ends}
use Rattle.broadcast_orbit.specs.OrbitSizes.{eccentric_width}
use Rattle.broadcast_orbit.proofs.ellipse.eccentric_direction.Goals as goal

pub returns-clause-holds : goal.returns-clause-holds
returns-clause-holds c m x a d s p q k u v = c.direction_of.ensures.holds a d s (c.eccentric.ensures.holds m x a p q k) u v

pub returns-clause-narrow : goal.returns-clause-narrow
returns-clause-narrow c a =
    let w = c.eccentric.ensures.width in
    let e = c.requires.e_ends in
    let f : Ends (61 * unit) eccentric_width c.eccentric.result.lo c.eccentric.result.hi = record { order = c.eccentric.result.ordered; low = c.eccentric.ensures.low_size; high = c.eccentric.ensures.high_size; width = omega (arith, ints) } in
    c.direction_of.ensures.ends (61 * unit) eccentric_width f
