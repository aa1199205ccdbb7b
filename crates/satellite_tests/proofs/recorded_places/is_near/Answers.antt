use Rattle.std.proofs.Common.{arith}
use Rattle.std.proofs.lemmas.Int.{ints}
use Rattle.satellite_tests.proofs.recorded_places.is_near.Goals as goal

pub returns-clause-to : goal.returns-clause-to
returns-clause-to g c =
    let d = c.ephemeris_time-toe.ensures.low in
    omega (arith, ints)
