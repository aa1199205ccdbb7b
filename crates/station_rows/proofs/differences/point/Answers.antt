use Rattle.std.proofs.Common.{arith}
use Rattle.station_rows.proofs.DifferenceLemmas.{no_side}
use Rattle.station_rows.proofs.differences.point.Goals as goal

pub returns-clause-small : goal.returns-clause-small
returns-clause-small c = let at = c.args.at.now in omega (arith, no_side at.x, no_side at.y, no_side at.z)
