-- Boxes axis by axis.
use Rattle.std.proofs.Common.{◌≡◌, ℕ, zero, suc, arith, true, ◌&&◌, int_eq, refl}
use Rattle.std.specs.Prelude.{ℤ}
use Rattle.std.proofs.lemmas.Int.{ints}
use Rattle.grid_model.specs.declared.boxes.Pos.{Pos}
use Rattle.grid_model.specs.Boxes.{Side, GridBox, side_holds, box_holds, side_at, grid_box, IsIn}
use Rattle.grid_model.specs.declared.boxes.Box3.{Box3}
use Rattle.grid_model.proofs.PointLemmas.{le_to, side_in}
use Rattle.sat_model.specs.Contractors.{LiesIn}
use Rattle.std.proofs.lemmas.Bool.{and_from as both_from, and_parts as both}

pub in_side : (s : Side) (n : ℤ) → IsIn s n → side_holds s n ≡ true
in_side s n (l, u) = both_from _ _ (le_to s.lo n l) (le_to n s.hi u)

-- the coordinate on an axis
abbrev pub along : ℕ → Pos → ℤ
along zero p = p.x
along (suc zero) p = p.y
along (suc (suc n)) p = p.z

pub holds_at : (c : GridBox) (p : Pos) → box_holds c p ≡ true → (axis : ℕ)
    → IsIn (side_at axis c) (along axis p)
holds_at c p h zero = side_in c.x p.x (both _ _ h).0
holds_at c p h (suc zero) = side_in c.y p.y (both _ _ (both _ _ h).1).0
holds_at c p h (suc (suc n)) = side_in c.z p.z (both _ _ (both _ _ h).1).1

pub holds_all : (c : GridBox) (p : Pos) → ((axis : ℕ) → IsIn (side_at axis c) (along axis p))
    → box_holds c p ≡ true
holds_all c p h = both_from _ _ (in_side c.x p.x (h 0)) (both_from _ _ (in_side c.y p.y (h 1)) (in_side c.z p.z (h 2)))

pub lies_through : (a m part : GridBox) → LiesIn a m → LiesIn m part → LiesIn a part
lies_through a m part h k axis =
    let u = h axis in
    let v = k axis in
    record { low = omega (arith, ints, u.low, v.low); ordered = u.ordered; high = omega (arith, ints, u.high, v.high) }

-- a box isn't empty on any axis
pub box_lies : (b : Box3) → LiesIn (grid_box b) (grid_box b)
box_lies b zero = record { low = omega (arith, ints); ordered = b.x_ordered; high = omega (arith, ints) }
box_lies b (suc zero) = record { low = omega (arith, ints); ordered = b.y_ordered; high = omega (arith, ints) }
box_lies b (suc (suc n)) = record { low = omega (arith, ints); ordered = b.z_ordered; high = omega (arith, ints) }

-- boxes that are found the same by their coordinates
pub same_coordinates : (a b : Box3)
    → ((int_eq a.lo.x b.lo.x && (int_eq a.lo.y b.lo.y && int_eq a.lo.z b.lo.z)) && (int_eq a.hi.x b.hi.x && (int_eq a.hi.y b.hi.y && int_eq a.hi.z b.hi.z))) ≡ true
    → grid_box a ≡ grid_box b
same_coordinates a b h =
    let (lo, hi) = both (int_eq a.lo.x b.lo.x && (int_eq a.lo.y b.lo.y && int_eq a.lo.z b.lo.z)) (int_eq a.hi.x b.hi.x && (int_eq a.hi.y b.hi.y && int_eq a.hi.z b.hi.z)) h in
    let (lx, ly, lz) = three_same a.lo.x b.lo.x a.lo.y b.lo.y a.lo.z b.lo.z lo in
    let (hx, hy, hz) = three_same a.hi.x b.hi.x a.hi.y b.hi.y a.hi.z b.hi.z hi in
    rw (lx, ly, lz, hx, hy, hz) refl
  where
    same : (c d : ℤ) → int_eq c d ≡ true → c ≡ d
    same c d k = grind (arith, ints)

    three_same : (c d e f g i : ℤ) → (int_eq c d && (int_eq e f && int_eq g i)) ≡ true
        → (c ≡ d) × (e ≡ f) × (g ≡ i)
    three_same c d e f g i k =
        let (x, yz) = both (int_eq c d) (int_eq e f && int_eq g i) k in
        let (y, z) = both (int_eq e f) (int_eq g i) yz in
        (same c d x, same e f y, same g i z)
