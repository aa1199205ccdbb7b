use Rattle.std.proofs.Common.{arith}
use Rattle.std.proofs.lemmas.Int.{ints, clamps}
use Rattle.grid_model.proofs.AmountLemmas.{above_is}
use Rattle.relaxed_meet.proofs.distance.greatest.Goals as goal

pub returns-clause-value : goal.returns-clause-value
returns-clause-value c = omega (arith, ints, clamps, above_is)

pub returns-clause-bound : goal.returns-clause-bound
returns-clause-bound c = omega (arith, ints, clamps)
