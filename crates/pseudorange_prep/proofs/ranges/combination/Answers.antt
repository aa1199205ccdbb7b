use Rattle.std.proofs.Common.{arith}
use Rattle.std.proofs.lemmas.Int.{ints}
use Rattle.pseudorange_prep.proofs.ranges.combination.Goals as goal

pub invariant_of-result : goal.invariant_of-result
invariant_of-result c = record { ordered = omega (arith, ints, c.first_times-one.result.ordered, c.second_times-other.result.ordered) }

pub returns-clause-low : goal.returns-clause-low
returns-clause-low c = omega (arith, ints, c.first_times-one.ensures.low, c.second_times-other.ensures.high)

pub returns-clause-high : goal.returns-clause-high
returns-clause-high c = omega (arith, ints, c.first_times-one.ensures.high, c.second_times-other.ensures.low)
