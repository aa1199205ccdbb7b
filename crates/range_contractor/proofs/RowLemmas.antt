-- The tree of rows is well formed.
use Rattle.std.proofs.Common.{◌≡◌, ℕ, ◌<◌, ◌≤◌, arith, List, [], ◌∷◌, length, map, refl}
use Rattle.std.specs.Prelude.{ℤ, pos, ◌≤ℤ◌}
use Rattle.std.proofs.lemmas.Int.{ints}
use Rattle.sat_model.specs.declared.rows.Row.{Row}
use Rattle.grid_model.specs.declared.spans.Span.{Span}
use Rattle.grid_model.specs.Sizes.{IsWithin, IsPlaceSize}
use Rattle.sat_model.specs.Trees.{Sat, TreeList, IsLeafSized, HaveSoundNodes, count_trees, depth_of_all, IsWellFormed, trees_of}
use Rattle.sat_model.specs.RowTrees.{rounded_side, row_leaf, row_tree}
use Rattle.range_contractor.proofs.AmountLemmas.{floor_near, ceil_near}

rounded_sizes : (g : ℤ) (s : Span) → pos 1 ≤ℤ g → g ≤ℤ pos 1048576
    → IsPlaceSize s.lo × IsPlaceSize s.hi
    → IsWithin 70000000000000 (rounded_side g s).lo × IsWithin 70000000000000 (rounded_side g s).hi
rounded_sizes g s h k (p, q) =
    let f = floor_near g s.lo h in
    let c = ceil_near g s.hi h in (
      record { low = omega (arith, ints, p.low, f.1); high = omega (arith, ints, p.high, f.0) },
      record { low = omega (arith, ints, q.low, c.0); high = omega (arith, ints, q.high, c.1) },
    )

pub row_sized : (g : ℤ) (row : Row) → pos 1 ≤ℤ g → g ≤ℤ pos 1048576 → IsLeafSized (row_leaf g row)
row_sized g row h k = record {
  x = rounded_sizes g row.x h k row.x_within;
  y = rounded_sizes g row.y h k row.y_within;
  z = rounded_sizes g row.z h k row.z_within;
  range = row.range_within;
  err = row.err_within;
}

abbrev pub kids_of : ℤ → List Row → TreeList
kids_of g rows = trees_of (map (λ row. Sat (row_leaf g row)) rows)

pub count_rows : (g : ℤ) (rows : List Row) → count_trees (kids_of g rows) ≡ length rows
count_rows g [] = refl
count_rows g (row ∷ rows) = omega (arith, count_rows g rows)

shallow : (g : ℤ) (rows : List Row) → depth_of_all (kids_of g rows) ≤ 1
shallow g [] = omega arith
shallow g (row ∷ rows) = omega (arith, shallow g rows)

all_sound : (g : ℤ) (rows : List Row) → pos 1 ≤ℤ g → g ≤ℤ pos 1048576
    → HaveSoundNodes (kids_of g rows)
all_sound g [] h k = tt
all_sound g (row ∷ rows) h k = (row_sized g row h k, all_sound g rows h k)

pub row_tree_well_formed : (g : ℤ) (rows : List Row) (q : ℕ) → pos 1 ≤ℤ g → g ≤ℤ pos 1048576
    → q < length rows → length rows ≤ 64 → IsWellFormed (row_tree g rows q)
row_tree_well_formed g rows q h k few most = record {
  depth = omega (arith, shallow g rows);
  nodes = (omega arith, omega arith, (omega (arith, count_rows g rows), omega (arith, count_rows g rows), all_sound g rows h k));
}
