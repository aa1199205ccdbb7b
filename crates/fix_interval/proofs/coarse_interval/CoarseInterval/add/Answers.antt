use Rattle.std.proofs.Common.{arith}
use Rattle.std.proofs.lemmas.Int.{ints}
use Rattle.fix_interval.proofs.coarse_interval.CoarseInterval.add.Goals as goal

pub returns-clause-high : goal.returns-clause-high
returns-clause-high c = omega (arith, ints, c.requires.high_size.low, c.requires.high_size.high)
