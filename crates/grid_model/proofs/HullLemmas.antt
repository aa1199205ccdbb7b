-- The hull of two boxes: it is a box, holds both, and lies in each box that does.
use Rattle.std.proofs.Common.{arith}
use Rattle.std.specs.Prelude.{ℤ, ◌≤ℤ◌}
use Rattle.std.specs.Int.{int_min, int_max}
use Rattle.std.proofs.lemmas.Int.{ints, clamps}
use Rattle.grid_model.specs.Sizes.{IsBoxSize}
use Rattle.grid_model.specs.Boxes.{Side, GridBox, IsSideInside, IsInside}
use Rattle.grid_model.specs.Hulls.{joined_side, joined_box}

pub lesser_sized : (a b : ℤ) → IsBoxSize a → IsBoxSize b → IsBoxSize (int_min a b)
lesser_sized a b p q = record {
  low = omega (arith, ints, clamps, p.low, q.low);
  high = omega (arith, ints, clamps, p.high, q.high);
}

pub greater_sized : (a b : ℤ) → IsBoxSize a → IsBoxSize b → IsBoxSize (int_max a b)
greater_sized a b p q = record {
  low = omega (arith, ints, clamps, p.low, q.low);
  high = omega (arith, ints, clamps, p.high, q.high);
}

pub joined_ordered : (s t : Side) → s.lo ≤ℤ s.hi → (joined_side s t).lo ≤ℤ (joined_side s t).hi
joined_ordered s t p = omega (arith, ints, clamps, p)

first_side : (s t : Side) → IsSideInside s (joined_side s t)
first_side s t = (omega (arith, ints, clamps), omega (arith, ints, clamps))

second_side : (s t : Side) → IsSideInside t (joined_side s t)
second_side s t = (omega (arith, ints, clamps), omega (arith, ints, clamps))

least_side : (s t whole : Side) → IsSideInside s whole → IsSideInside t whole
    → IsSideInside (joined_side s t) whole
least_side s t whole p q =
    (omega (arith, ints, clamps, p.0, q.0), omega (arith, ints, clamps, p.1, q.1))

pub first_inside : (a b : GridBox) → IsInside a (joined_box a b)
first_inside a b = (first_side a.x b.x, first_side a.y b.y, first_side a.z b.z)

pub second_inside : (a b : GridBox) → IsInside b (joined_box a b)
second_inside a b = (second_side a.x b.x, second_side a.y b.y, second_side a.z b.z)

pub joined_least : (a b whole : GridBox) → IsInside a whole → IsInside b whole
    → IsInside (joined_box a b) whole
joined_least a b whole p q = (
  least_side a.x b.x whole.x p.0 q.0,
  least_side a.y b.y whole.y p.1 q.1,
  least_side a.z b.z whole.z p.2 q.2,
)
