use Rattle.std.proofs.Common.{arith}
use Rattle.std.proofs.lemmas.Int.{ints}
use Rattle.fix_interval.proofs.coarse_interval.CoarseInterval.sub.Goals as goal

pub invariant_of-result : goal.invariant_of-result
invariant_of-result c = record { ordered = omega (arith, ints, c.requires.low_size.low, c.requires.low_size.high, c.requires.high_size.low, c.requires.high_size.high, c.args.self.ordered, c.args.other.ordered) }

pub returns-clause-low : goal.returns-clause-low
returns-clause-low c = omega (arith, ints, c.requires.low_size.low, c.requires.low_size.high)

pub returns-clause-high : goal.returns-clause-high
returns-clause-high c = omega (arith, ints, c.requires.high_size.low, c.requires.high_size.high)
