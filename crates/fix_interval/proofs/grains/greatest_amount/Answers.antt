use Rattle.std.proofs.Common.{arith}
use Rattle.std.proofs.lemmas.Int.{ints, clamps}
use Rattle.grid_model.proofs.SquareLemmas.{one_part}
use Rattle.fix_interval.proofs.grains.greatest_amount.Goals as goal

pub returns-clause-value : goal.returns-clause-value
returns-clause-value c = omega (arith, ints, clamps, one_part c.args.lo, one_part c.args.hi)
