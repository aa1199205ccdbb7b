-- The tree of rows allows what the rows do.
use Rattle.std.proofs.Common.{ℕ, zero, suc, List, [], ◌∷◌, map, inl, inr, arith}
use Rattle.std.specs.Prelude.{ℤ, pos, ◌≤ℤ◌}
use Rattle.std.proofs.lemmas.Int.{ints}
use Rattle.grid_model.specs.Boxes.{IsIn}
use Rattle.grid_model.specs.declared.boxes.Pos.{Pos}
use Rattle.grid_model.specs.declared.spans.Span.{Span}
use Rattle.grid_model.proofs.RoundingLemmas.{grain_between}
use Rattle.sat_model.specs.Fitting.{AllBut, IsPossible}
use Rattle.sat_model.specs.RowTrees.{rounded_side, row_leaf, row_tree}
use Rattle.sat_model.specs.Trees.{LeafAllows, Allows, AllButAllow, Sat, trees_of}
use Rattle.sat_model.specs.declared.rows.Row.{Row}

in_rounded : (grain : ℤ) (s : Span) (n : ℤ) → pos 1 ≤ℤ grain → s.lo ≤ℤ n → n ≤ℤ s.hi
    → IsIn (rounded_side grain s) n
in_rounded grain s n g l h =
    let low = grain_between grain s.lo g in
    let high = grain_between grain s.hi g in
    (omega (arith, ints, low.0, l), omega (arith, ints, high.1, h))

pub leaf_holds : (grain : ℤ) (row : Row) (p : Pos) (b : ℤ) → pos 1 ≤ℤ grain → IsPossible p b row
    → LeafAllows (row_leaf grain row) p b
leaf_holds grain row p b g possible =
    let v = possible.value in
    record {
      x = v.x;
      y = v.y;
      z = v.z;
      measured = v.measured;
      x_in = in_rounded grain row.x v.x g v.x_in.0 v.x_in.1;
      y_in = in_rounded grain row.y v.y g v.y_in.0 v.y_in.1;
      z_in = in_rounded grain row.z v.z g v.z_in.0 v.z_in.1;
      measured_in = v.measured_in;
      allowed = possible.allowed;
    }

leaves_hold : (grain : ℤ) (rows : List Row) (q : ℕ) (p : Pos) (b : ℤ) → pos 1 ≤ℤ grain
    → AllBut q (IsPossible p b) rows
    → AllButAllow (trees_of (map (λ row. Sat (row_leaf grain row)) rows)) q p b
leaves_hold grain [] q p b g h = tt
leaves_hold grain (row ∷ rows) zero p b g (here, later) = (leaf_holds grain row p b g here, leaves_hold grain rows zero p b g later)
leaves_hold grain (row ∷ rows) (suc q) p b g (inl (here, later)) = inl (leaf_holds grain row p b g here, leaves_hold grain rows (suc q) p b g later)
leaves_hold grain (row ∷ rows) (suc q) p b g (inr later) = inr (leaves_hold grain rows q p b g later)

pub tree_holds : (grain : ℤ) (rows : List Row) (q : ℕ) (p : Pos) (b : ℤ) → pos 1 ≤ℤ grain
    → AllBut q (IsPossible p b) rows → Allows (row_tree grain rows q) p b
tree_holds grain rows q p b g h = leaves_hold grain rows q p b g h
