-- Boxes that share a point, by the ends of their sides. No public clause cites it.
use Rattle.std.specs.Prelude.{◌≤ℤ◌}
use Rattle.std.specs.Int.{int_max, int_min}
use Rattle.grid_model.specs.Boxes.{Side, GridBox}

-- neither side lies behind the other
pub record SidesMeet (s t : Side) : Type 0 where
  pub low : s.lo ≤ℤ t.hi
  pub high : t.lo ≤ℤ s.hi

-- on no axis one box lies behind the other
pub record AreMet (a b : GridBox) : Type 0 where
  pub x : SidesMeet a.x b.x
  pub y : SidesMeet a.y b.y
  pub z : SidesMeet a.z b.z

-- what two boxes share
abbrev pub shared_side : Side → Side → Side
shared_side s t = record { lo = int_max s.lo t.lo; hi = int_min s.hi t.hi }

abbrev pub shared_box : GridBox → GridBox → GridBox
shared_box a b = record {
  x = shared_side a.x b.x;
  y = shared_side a.y b.y;
  z = shared_side a.z b.z;
}
