-- The tree of an epoch's rows: two rounds of the q-relaxed intersection (Drevelle and Bonnifait,
-- 2011) of what each row leaves.
use Rattle.std.specs.Prelude.{ℕ, ℤ, List, map}
use Rattle.sat_model.specs.declared.rows.Row.{Row}
use Rattle.grid_model.specs.declared.spans.Span.{Span}
use Rattle.grid_model.specs.Boxes.{Side, span_side}
use Rattle.grid_model.specs.Rounding.{grain_floor, grain_ceil}
use Rattle.sat_model.specs.Trees.{LeafValue, TreeValue, Sat, Relaxed, Again, trees_of}

-- the least side between multiples of the grain that holds the span
abbrev pub rounded_side : ℤ → Span → Side
rounded_side grain s = record { lo = grain_floor grain s.lo; hi = grain_ceil grain s.hi }

abbrev pub row_leaf : ℤ → Row → LeafValue
row_leaf grain row = record {
  x = rounded_side grain row.x;
  y = rounded_side grain row.y;
  z = rounded_side grain row.z;
  range = span_side row.range;
  err = span_side row.err;
}

abbrev pub row_tree : ℤ → List Row → ℕ → TreeValue
row_tree grain rows q =
    Again 2 (Relaxed q (trees_of (map (λ row. Sat (row_leaf grain row)) rows)))
