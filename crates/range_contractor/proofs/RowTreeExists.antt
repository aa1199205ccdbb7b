-- Each leaf of the tree of rows has its ends in whole grains.
use Rattle.std.proofs.Common.{arith, List, [], ◌∷◌}
use Rattle.std.specs.Prelude.{ℤ, pos, ◌≤ℤ◌}
use Rattle.std.proofs.lemmas.Int.{ints}
use Rattle.sat_model.specs.declared.rows.Row.{Row}
use Rattle.grid_model.specs.declared.spans.Span.{Span}
use Rattle.sat_model.specs.RowTrees.{rounded_side, row_leaf}
use Rattle.range_contractor.specs.Squares.{AreWhole}
use Rattle.range_contractor.proofs.LeafExists.{floor_whole, ceil_whole}
use Rattle.range_contractor.proofs.AmountLemmas.{floor_near, ceil_near}
use Rattle.range_contractor.proofs.RowLemmas.{row_sized, kids_of}
use Rattle.range_contractor.proofs.TreeExists.{IsGrainLeaf, AreGrainTrees}

rounded_whole : (g : ℤ) (s : Span) → AreWhole g (rounded_side g s)
rounded_whole g s = record { low = floor_whole g s.lo; high = ceil_whole g s.hi }

rounded_ordered : (g : ℤ) (s : Span) → pos 1 ≤ℤ g → (rounded_side g s).lo ≤ℤ (rounded_side g s).hi
rounded_ordered g s h = let f = floor_near g s.lo h in let c = ceil_near g s.hi h in omega (arith, ints, s.ordered, f.0, c.0)

row_grain : (g : ℤ) (row : Row) → pos 1 ≤ℤ g → g ≤ℤ pos 1048576 → IsGrainLeaf g (row_leaf g row)
row_grain g row h k = record {
  sized = row_sized g row h k;
  whole = record { x = rounded_whole g row.x; y = rounded_whole g row.y; z = rounded_whole g row.z };
  x = rounded_ordered g row.x h;
  y = rounded_ordered g row.y h;
  z = rounded_ordered g row.z h;
}

pub rows_grain : (g : ℤ) (rows : List Row) → pos 1 ≤ℤ g → g ≤ℤ pos 1048576
    → AreGrainTrees g (kids_of g rows)
rows_grain g [] h k = tt
rows_grain g (row ∷ rows) h k = (row_grain g row h k, rows_grain g rows h k)
