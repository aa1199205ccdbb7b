-- A box that is grown as far as boxes go, which the code meets with a search box. No public clause
-- cites it.
use Rattle.std.specs.Prelude.{ℤ, pos, neg_ℤ, ◌+ℤ◌, ◌-ℤ◌}
use Rattle.std.specs.Int.{int_min, int_max}
use Rattle.grid_model.specs.Boxes.{Side, GridBox}

abbrev pub widened_side : ℤ → Side → Side
widened_side reach s = record {
  lo = int_max (s.lo -ℤ reach) (neg_ℤ (pos 10000000000000));
  hi = int_min (s.hi +ℤ reach) (pos 10000000000000);
}

abbrev pub widened_box : ℤ → GridBox → GridBox
widened_box reach c = record {
  x = widened_side reach c.x;
  y = widened_side reach c.y;
  z = widened_side reach c.z;
}
