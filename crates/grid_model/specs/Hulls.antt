-- The hull of two boxes: the least box that holds both.
use Rattle.std.specs.Int.{int_min, int_max}
use Rattle.grid_model.specs.Boxes.{Side, GridBox}

abbrev pub joined_side : Side → Side → Side
joined_side s t = record { lo = int_min s.lo t.lo; hi = int_max s.hi t.hi }

abbrev pub joined_box : GridBox → GridBox → GridBox
joined_box a b = record {
  x = joined_side a.x b.x;
  y = joined_side a.y b.y;
  z = joined_side a.z b.z;
}
