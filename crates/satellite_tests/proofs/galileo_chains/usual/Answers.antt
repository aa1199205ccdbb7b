use Rattle.std.proofs.Common.{arith}
use Rattle.std.proofs.lemmas.Int.{ints}
use Rattle.satellite_tests.proofs.galileo_chains.usual.Goals as goal

pub invariant_of-result-12-clause-af0_within : goal.invariant_of-result-12-clause-af0_within
invariant_of-result-12-clause-af0_within c = record { from = omega (arith, ints); to = omega (arith, ints); narrow = omega (arith, ints) }
