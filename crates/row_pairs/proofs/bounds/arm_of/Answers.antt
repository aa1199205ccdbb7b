use Rattle.std.proofs.Common.{arith}
use Rattle.grid_model.proofs.RootLemmas.{root_from}
use Rattle.row_pairs.proofs.bounds.arm_of.Goals as goal

pub returns-clause-value : goal.returns-clause-value
returns-clause-value c = omega (arith, root_from _ _ c.root_u128.ensures)
