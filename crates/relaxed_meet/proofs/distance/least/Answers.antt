use Rattle.std.proofs.Common.{arith}
use Rattle.std.proofs.lemmas.Int.{ints}
use Rattle.grid_model.proofs.AmountLemmas.{above_is}
use Rattle.relaxed_meet.proofs.distance.least.Goals as goal

pub returns-then-a-d-clause-value : goal.returns-then-a-d-clause-value
returns-then-a-d-clause-value c = omega (arith, ints, above_is)

pub returns-then-c-b-clause-value : goal.returns-then-c-b-clause-value
returns-then-c-b-clause-value c = omega (arith, ints, above_is)

pub returns-else-c-b-clause-value : goal.returns-else-c-b-clause-value
returns-else-c-b-clause-value c = omega (arith, ints, above_is)
