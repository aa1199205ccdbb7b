-- The clock span of a row over a box.
use Rattle.std.specs.Prelude.{ℕ, ◌+◌, ◌-◌, ℤ, pos, ◌-ℤ◌, ◌≤ℤ◌, List, map, length}
use Rattle.sat_model.specs.declared.rows.Row.{Row}
use Rattle.grid_model.specs.Boxes.{GridBox}
use Rattle.grid_model.specs.Amounts.{least_amount, greatest_amount, square}
use Rattle.grid_model.specs.Roots.{root}
use Rattle.sat_model.specs.Relaxed.{LiesInRelaxed, IsRelaxedEmpty, IsRelaxedHull}

-- the squares of the least and of the greatest amounts over the axes, added
abbrev pub near_square : Row → GridBox → ℕ
near_square row part =
    square (least_amount row.x.lo row.x.hi part.x.lo part.x.hi)
    + square (least_amount row.y.lo row.y.hi part.y.lo part.y.hi)
    + square (least_amount row.z.lo row.z.hi part.z.lo part.z.hi)

abbrev pub far_square : Row → GridBox → ℕ
far_square row part =
    square (greatest_amount row.x.lo row.x.hi part.x.lo part.x.hi)
    + square (greatest_amount row.y.lo row.y.hi part.y.lo part.y.hi)
    + square (greatest_amount row.z.lo row.z.hi part.z.lo part.z.hi)

unfoldable pub near_of : Row → GridBox → ℕ
near_of row part = root (near_square row part)

unfoldable pub far_of : Row → GridBox → ℕ
far_of row part = root (far_square row part)

-- the ends of the clock span
abbrev pub clock_ends : GridBox → Row → ℤ × ℤ
clock_ends part row = (
  row.range.lo -ℤ pos (far_of row part) -ℤ row.err.hi,
  row.range.hi -ℤ pos (near_of row part) -ℤ row.err.lo,
)

abbrev pub clock_spans : GridBox → List Row → List (ℤ × ℤ)
clock_spans part rows = map (clock_ends part) rows

-- no number lies in all but at most q of the clock spans
abbrev pub IsShownEmpty : List Row → GridBox → ℕ → Type 0
IsShownEmpty rows part q = IsRelaxedEmpty (clock_spans part rows) (length rows - q)

-- the ends of the inner span: where the first is greater, no number lies between them
abbrev pub inner_ends : GridBox → Row → ℤ × ℤ
inner_ends part row = (
  row.range.hi -ℤ pos (near_of row part) -ℤ row.sure_hi,
  row.range.lo -ℤ pos (far_of row part) -ℤ row.sure_lo,
)

abbrev pub inner_spans : GridBox → List Row → List (ℤ × ℤ)
inner_spans part rows = map (inner_ends part) rows

-- b lies in all but at most q of the inner spans
abbrev pub IsShownInner : List Row → GridBox → ℕ → ℤ → Type 0
IsShownInner rows part q b = LiesInRelaxed (inner_spans part rows) (length rows - q) b

-- no number does
abbrev pub NoneIsShownInner : List Row → GridBox → ℕ → Type 0
NoneIsShownInner rows part q = IsRelaxedEmpty (inner_spans part rows) (length rows - q)

-- b is the least number that does
pub record IsLeastShownInner (rows : List Row) (part : GridBox) (q : ℕ) (b : ℤ) : Type 0 where
  pub shown : IsShownInner rows part q b
  pub least : (c : ℤ) → IsShownInner rows part q c → b ≤ℤ c

-- lo and hi are the ends of the hull of the numbers in all but at most q of the clock spans
abbrev pub IsClockHull : List Row → GridBox → ℕ → ℤ → ℤ → Type 0
IsClockHull rows part q lo hi = IsRelaxedHull (clock_spans part rows) (length rows - q) lo hi
