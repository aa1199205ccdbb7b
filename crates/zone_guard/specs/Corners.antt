-- The least and the greatest product of a direction and a point of a box, axis by axis. No public
-- clause cites it.
use Rattle.std.specs.Prelude.{ℤ, ◌+ℤ◌, ◌*ℤ◌, Option, None, Some}
use Rattle.std.specs.Int.{int_max, int_min}
use Rattle.grid_model.specs.Boxes.{Side, GridBox}
use Rattle.grid_model.specs.declared.boxes.Pos.{Pos}
use Rattle.zone_guard.specs.declared.planes.Extent.{Extent}

abbrev pub least_on : ℤ → Side → ℤ
least_on factor s = int_min (factor *ℤ s.lo) (factor *ℤ s.hi)

abbrev pub greatest_on : ℤ → Side → ℤ
greatest_on factor s = int_max (factor *ℤ s.lo) (factor *ℤ s.hi)

abbrev pub least_over : Pos → GridBox → ℤ
least_over a c = least_on a.x c.x +ℤ (least_on a.y c.y +ℤ least_on a.z c.z)

abbrev pub greatest_over : Pos → GridBox → ℤ
greatest_over a c = greatest_on a.x c.x +ℤ (greatest_on a.y c.y +ℤ greatest_on a.z c.z)

-- the extent of a box beside that of others
abbrev pub grown : Option Extent → Pos → GridBox → Extent
grown None a c = record { least = least_over a c; greatest = greatest_over a c }
grown (Some e) a c = record {
  least = int_min e.least (least_over a c);
  greatest = int_max e.greatest (greatest_over a c);
}
