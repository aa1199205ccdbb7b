use Rattle.std.proofs.Common.{arith}
use Rattle.std.proofs.lemmas.Int.{ints}
use Rattle.interval_trig.proofs.SmallAngles.{small_ends}
use Rattle.broadcast_orbit.proofs.directions.direction_of.Goals as goal

pub returns-clause-ends : goal.returns-clause-ends
returns-clause-ends c m w e =
    let v = c.cosine.ensures.width in
    let u = c.sine.ensures.width in
    let x = e.width in
    record {
      cosine = record { order = c.cosine.result.ordered; low = c.cosine.ensures.low_size; high = c.cosine.ensures.high_size; width = omega (arith, ints) };
      sine = record { order = c.sine.result.ordered; low = c.sine.ensures.low_size; high = c.sine.ensures.high_size; width = omega (arith, ints) };
    }

pub returns-clause-small : goal.returns-clause-small
returns-clause-small c m w e h = small_ends m w _ _ _ _ e h c.sine.result.ordered c.sine.ensures.width c.sine.ensures.holds
