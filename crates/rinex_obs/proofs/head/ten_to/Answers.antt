use Rattle.std.proofs.Common.{arith}
use Rattle.exact_decimal.proofs.Units.{powers}
use Rattle.rinex_obs.proofs.head.ten_to.Goals as goal

pub returns-clause-bound : goal.returns-clause-bound
returns-clause-bound c = omega (arith, (rw c.from.ensures at c.pow.ensures), powers c.args.places 7 c.requires)
