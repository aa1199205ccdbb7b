use Rattle.std.proofs.Common.{◌≡◌, map, take}
use Rattle.sat_model.specs.Trees.{Sat}
use Rattle.sat_model.specs.RowTrees.{row_leaf}
use Rattle.range_contractor.specs.Views.{tree_value}
use Rattle.range_contractor.proofs.row_trees.relaxed_tree.Given as goal

abbrev pub invariant-loop-row : goal.invariant-loop-row
invariant-loop-row g l =
    let I = g.I.Interval in
    map (tree_value I.low I.high) l.kids.items ≡ map (λ row. Sat (row_leaf I.GRAIN row)) (take l.row-index l.rows)
