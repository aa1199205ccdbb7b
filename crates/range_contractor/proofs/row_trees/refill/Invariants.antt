use Rattle.std.proofs.Common.{◌≡◌, length, map, take}
use Rattle.sat_model.specs.Trees.{Sat}
use Rattle.sat_model.specs.RowTrees.{row_leaf}
use Rattle.range_contractor.specs.Views.{tree_value}
use Rattle.range_contractor.proofs.row_trees.refill.Given as goal

abbrev pub invariant-loop-i : goal.invariant-loop-i
invariant-loop-i g l =
    let I = g.I.Interval in record {
      same : length l.kids.items ≡ length l.rows;
      done : map (tree_value I.low I.high) (take l.i l.kids.items) ≡ map (λ row. Sat (row_leaf I.GRAIN row)) (take l.i l.rows);
    }
