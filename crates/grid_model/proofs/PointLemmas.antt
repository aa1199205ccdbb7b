-- A point that a box holds lies between the ends of each side.
use Rattle.std.proofs.Common.{◌≡◌, arith, true, refl}
use Rattle.std.specs.Prelude.{ℤ, ◌≤ℤ◌}
use Rattle.std.proofs.lemmas.Int.{ints}
use lib.Signed.{le_z}
use Rattle.grid_model.specs.declared.boxes.Pos.{Pos}
use Rattle.grid_model.specs.Boxes.{GridBox, Side, side_holds, box_holds, grid_box}
use Rattle.grid_model.specs.declared.boxes.Box3.{Box3}
use Rattle.std.proofs.lemmas.Bool.{and_parts as both}

pub record IsInBox (part : GridBox) (p : Pos) : Type 0 where
  pub x : (part.x.lo ≤ℤ p.x) × (p.x ≤ℤ part.x.hi)
  pub y : (part.y.lo ≤ℤ p.y) × (p.y ≤ℤ part.y.hi)
  pub z : (part.z.lo ≤ℤ p.z) × (p.z ≤ℤ part.z.hi)

pub le_from : (a b : ℤ) → le_z a b ≡ true → a ≤ℤ b
le_from a b h = omega (arith, ints)

pub le_to : (a b : ℤ) → a ≤ℤ b → le_z a b ≡ true
le_to a b h = grind (arith, ints)

pub side_in : (s : Side) (n : ℤ) → side_holds s n ≡ true → (s.lo ≤ℤ n) × (n ≤ℤ s.hi)
side_in s n h = let (l, u) = both _ _ h in (le_from s.lo n l, le_from n s.hi u)

pub in_box : (part : GridBox) (p : Pos) → box_holds part p ≡ true → IsInBox part p
in_box part p h =
    let (hx, hyz) = both _ _ h in
    let (hy, hz) = both _ _ hyz in
    record { x = side_in part.x p.x hx; y = side_in part.y p.y hy; z = side_in part.z p.z hz }

pub same_pos : (x y z a b c : ℤ) → x ≡ a → y ≡ b → z ≡ c
    → ◌≡◌ {A = Pos} (record { x = x; y = y; z = z }) (record { x = a; y = b; z = c })
same_pos x y z a b c e f g = cc

pub low_inside : (l h : ℤ) → l ≤ℤ h → side_holds (record { lo = l; hi = h }) l ≡ true
low_inside l h o = rw (le_to l l (omega (arith, ints)), le_to l h o) refl

-- a box holds its low corner
pub low_corner : (b : Box3) → box_holds (grid_box b) b.lo ≡ true
low_corner b = rw (low_inside b.lo.x b.hi.x b.x_ordered, low_inside b.lo.y b.hi.y b.y_ordered, low_inside b.lo.z b.hi.z b.z_ordered) refl
