-- Boxes of the grid as plain numbers.
use Rattle.std.specs.Prelude.{ℕ, zero, suc, ◌/◌, ℤ, pos, ◌+ℤ◌, ◌≤ℤ◌, Bool, ◌&&◌}
use Rattle.grid_model.specs.declared.boxes.Box3.{Box3}
use Rattle.grid_model.specs.declared.boxes.Pos.{Pos}
use Rattle.grid_model.specs.declared.spans.Span.{Span}
use Rattle.grid_model.specs.Amounts.{above}
use lib.Signed.{le_z}

pub record Side : Type 0 where
  pub lo : ℤ
  pub hi : ℤ

pub record GridBox : Type 0 where
  pub x : Side
  pub y : Side
  pub z : Side

abbrev pub grid_box : Box3 → GridBox
grid_box b = record {
  x = record { lo = b.lo.x; hi = b.hi.x };
  y = record { lo = b.lo.y; hi = b.hi.y };
  z = record { lo = b.lo.z; hi = b.hi.z };
}

abbrev pub span_side : Span → Side
span_side s = record { lo = s.lo; hi = s.hi }

-- n is one of the numbers of the side
abbrev pub IsIn : Side → ℤ → Type 0
IsIn s n = (s.lo ≤ℤ n) × (n ≤ℤ s.hi)

abbrev pub side_holds : Side → ℤ → Bool
side_holds s n = le_z s.lo n && le_z n s.hi

abbrev pub box_holds : GridBox → Pos → Bool
box_holds c p = side_holds c.x p.x && (side_holds c.y p.y && side_holds c.z p.z)

abbrev pub IsSideInside : Side → Side → Type 0
IsSideInside part whole = (whole.lo ≤ℤ part.lo) × (part.hi ≤ℤ whole.hi)

-- no point of the first box is outside the second
abbrev pub IsInside : GridBox → GridBox → Type 0
IsInside part whole =
    IsSideInside part.x whole.x × IsSideInside part.y whole.y × IsSideInside part.z whole.z

-- the low end and half of the way to the high end, rounded down
abbrev pub middle : Side → ℤ
middle s = s.lo +ℤ pos (above s.hi s.lo / 2)

abbrev pub low_half : Side → Side
low_half s = record { lo = s.lo; hi = middle s }

abbrev pub high_half : Side → Side
high_half s = record { lo = middle s +ℤ pos 1; hi = s.hi }

-- the axes are 0, 1 and 2
abbrev pub side_at : ℕ → GridBox → Side
side_at zero c = c.x
side_at (suc zero) c = c.y
side_at (suc (suc n)) c = c.z

abbrev pub with_side : ℕ → GridBox → Side → GridBox
with_side zero c s = record { x = s; y = c.y; z = c.z }
with_side (suc zero) c s = record { x = c.x; y = s; z = c.z }
with_side (suc (suc n)) c s = record { x = c.x; y = c.y; z = s }
