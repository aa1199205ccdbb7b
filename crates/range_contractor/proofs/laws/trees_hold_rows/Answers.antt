use Rattle.range_contractor.proofs.RowTreeLemmas.{leaf_holds, tree_holds}
use Rattle.range_contractor.proofs.laws.trees_hold_rows.Goals as goal

pub returns-clause-leaf : goal.returns-clause-leaf
returns-clause-leaf c grain row p b g possible = leaf_holds grain row p b g possible

pub returns-clause-tree : goal.returns-clause-tree
returns-clause-tree c grain rows q p b g possible = tree_holds grain rows q p b g possible
