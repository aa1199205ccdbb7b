use Rattle.std.proofs.Common.{arith}
use Rattle.std.proofs.lemmas.Int.{ints}
use Rattle.satellite_tests.proofs.clock_records.least.Goals as goal

pub invariant_of-result-13-clause-af0_within : goal.invariant_of-result-13-clause-af0_within
invariant_of-result-13-clause-af0_within c = record { from = omega (arith, ints); to = omega (arith, ints); narrow = omega (arith, ints) }
