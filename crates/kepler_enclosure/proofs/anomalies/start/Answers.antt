use Rattle.std.proofs.Common.{arith}
use Rattle.std.proofs.lemmas.Int.{ints}
use Rattle.kepler_enclosure.proofs.Narrowing.{start_holds}
use Rattle.kepler_enclosure.proofs.anomalies.start.Goals as goal

pub returns-clause-holds : goal.returns-clause-holds
returns-clause-holds c a b x p q v =
    let k = start_holds c.args.m.lo c.args.m.hi c.args.e.lo c.args.e.hi a b x c.requires.e_low c.requires.e_high p q v in
    record { from = omega (arith, ints); to = omega (arith, ints) }

pub returns-clause-width : goal.returns-clause-width
returns-clause-width c = omega (arith, ints)
