use Rattle.std.proofs.Common.{arith}
use Rattle.std.proofs.lemmas.Int.{ints}
use Rattle.grid_model.specs.Intervals.{Between}
use Rattle.std.specs.Prelude.{pos}
use Rattle.sat_clock.proofs.motion.motion_of.Goals as goal

pub returns-clause-holds : goal.returns-clause-holds
returns-clause-holds c n m =
    let p : Between c.computed_motion.result.lo c.computed_motion.result.hi (pos m.n0) = c.computed_motion.ensures.holds m.root_a m.n0 m.root_a_is m.n0_is in
    let q = m.dn_is in
    record { from = omega (arith, ints, m.n_is); to = omega (arith, ints, m.n_is) }
