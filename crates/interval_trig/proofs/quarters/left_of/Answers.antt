use Rattle.std.proofs.Common.{arith}
use Rattle.std.proofs.lemmas.Int.{ints}
use Rattle.interval_trig.proofs.Rests.{left_within}
use Rattle.interval_trig.proofs.quarters.left_of.Goals as goal

pub returns-clause-size : goal.returns-clause-size
returns-clause-size c = let h = left_within c.args.x c.args.k c.requires.quarter in record { low = omega (arith, ints); high = omega (arith, ints) }
