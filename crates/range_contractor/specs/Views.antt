-- A tree over any kind of interval as a plain tree.
use Rattle.std.specs.Prelude.{ℤ, List, map}
use Rattle.grid_model.specs.Boxes.{Side, grid_box, span_side}
use Rattle.sat_model.specs.Trees.{LeafValue, TreeValue, Sat, All, Relaxed, Again, Within, TreeList}
use Rattle.sat_model.specs.Trees.{trees_of}
use Rattle.range_contractor.specs.declared.tree.Leaf.{Leaf}
use Rattle.range_contractor.specs.declared.tree.Tree.{Tree, fold-Tree}
use Rattle.range_contractor.specs.declared.tree.Tree.TheOpen.{Tree-F}

-- from the low to the high end of an interval
abbrev pub interval_side : {I : Type 0} → (I → ℤ) → (I → ℤ) → I → Side
interval_side low high x = record { lo = low x; hi = high x }

abbrev pub leaf_value : {I A : Type 0} → (I → ℤ) → (I → ℤ) → Leaf I A → LeafValue
leaf_value low high leaf = record {
  x = interval_side low high leaf.x;
  y = interval_side low high leaf.y;
  z = interval_side low high leaf.z;
  range = span_side leaf.range;
  err = span_side leaf.err;
}

-- one level, with each kid already seen as a plain tree
abbrev pub value_step : {I A : Type 0} → (I → ℤ) → (I → ℤ) → Tree-F I A TreeValue → TreeValue
value_step low high (Tree-F.Sat leaf) = Sat (leaf_value low high leaf)
value_step low high (Tree-F.All kids) = All (trees_of kids.items)
value_step low high (Tree-F.Relaxed q kids) = Relaxed q (trees_of kids.items)
value_step low high (Tree-F.Again rounds kid) = Again rounds kid.value
value_step low high (Tree-F.Within box) = Within (grid_box box)

abbrev pub tree_value : {I A : Type 0} → (I → ℤ) → (I → ℤ) → Tree I A → TreeValue
tree_value {I} {A} low high = fold-Tree I A TreeValue (value_step low high)

abbrev pub tree_values : {I A : Type 0} → (I → ℤ) → (I → ℤ) → List (Tree I A) → TreeList
tree_values low high kids = trees_of (map (tree_value low high) kids)
