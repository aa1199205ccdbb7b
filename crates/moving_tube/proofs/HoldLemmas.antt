-- Which points boxes hold that are joined, met or grown.
use Rattle.std.proofs.Common.{◌≡◌, ℕ, zero, suc, ◌+◌, ◌*◌, ◌≤◌, arith, true}
use Rattle.std.specs.Prelude.{ℤ, pos, ◌-ℤ◌, nat_abs}
use Rattle.std.proofs.lemmas.Int.{ints, clamps}
use Rattle.range_contractor.proofs.BoxLemmas.{along, holds_at, holds_all}
use Rattle.grid_model.specs.Boxes.{Side, GridBox, box_holds, side_at, IsIn}
use Rattle.sat_model.specs.Contractors.{meet_side, meet_box}
use Rattle.grid_model.specs.declared.boxes.Pos.{Pos}
use Rattle.grid_model.specs.Hulls.{joined_side, joined_box}
use Rattle.moving_tube.specs.Reach.{IsWithinReach}
use Rattle.moving_tube.specs.Roots.{grown_side, grown_box, reached_box}
use Rattle.range_contractor.proofs.TightLemmas.{square_le_back as less_of_squares}

-- ---- sides

in_first : (s t : Side) (n : ℤ) → IsIn s n → IsIn (joined_side s t) n
in_first s t n h = (omega (arith, ints, clamps, h.0), omega (arith, ints, clamps, h.1))

in_second : (s t : Side) (n : ℤ) → IsIn t n → IsIn (joined_side s t) n
in_second s t n h = (omega (arith, ints, clamps, h.0), omega (arith, ints, clamps, h.1))

in_meet : (s t : Side) (n : ℤ) → IsIn s n → IsIn t n → IsIn (meet_side s t) n
in_meet s t n h k = (omega (arith, ints, clamps, h.0, k.0), omega (arith, ints, clamps, h.1, k.1))

in_grown : (r : ℕ) (s : Side) (m n : ℤ) → IsIn s m → nat_abs (n -ℤ m) ≤ r
    → IsIn (grown_side (pos r) s) n
in_grown r s m n h near = (omega (arith, ints, h.0), omega (arith, ints, h.1))

-- ---- amounts

record AreNear (r : ℕ) (p q : Pos) : Type 0 where
  pub x : nat_abs (q.x -ℤ p.x) ≤ r
  pub y : nat_abs (q.y -ℤ p.y) ≤ r
  pub z : nat_abs (q.z -ℤ p.z) ≤ r

each_near : (a b c r : ℕ) → a * a + b * b + c * c ≤ r * r → (a ≤ r) × (b ≤ r) × (c ≤ r)
each_near a b c r h = (less_of_squares a r (omega arith), less_of_squares b r (omega arith), less_of_squares c r (omega arith))

are_near : (r : ℕ) (p q : Pos) → IsWithinReach r p q → AreNear r p q
are_near r p q h =
    let (x, y, z) = each_near (nat_abs (q.x -ℤ p.x)) (nat_abs (q.y -ℤ p.y)) (nat_abs (q.z -ℤ p.z)) r h in
    record { x = x; y = y; z = z }

-- ---- boxes

pub holds_first : (a b : GridBox) (p : Pos) → box_holds a p ≡ true
    → box_holds (joined_box a b) p ≡ true
holds_first a b p h = holds_all (joined_box a b) p (axis_of a b p h)
  where
    axis_of : (a b : GridBox) (p : Pos) → box_holds a p ≡ true → (axis : ℕ)
        → IsIn (side_at axis (joined_box a b)) (along axis p)
    axis_of a b p h zero = in_first a.x b.x p.x (holds_at a p h zero)
    axis_of a b p h (suc zero) = in_first a.y b.y p.y (holds_at a p h (suc zero))
    axis_of a b p h (suc (suc n)) = in_first a.z b.z p.z (holds_at a p h (suc (suc n)))

pub holds_second : (a b : GridBox) (p : Pos) → box_holds b p ≡ true
    → box_holds (joined_box a b) p ≡ true
holds_second a b p h = holds_all (joined_box a b) p (axis_of a b p h)
  where
    axis_of : (a b : GridBox) (p : Pos) → box_holds b p ≡ true → (axis : ℕ)
        → IsIn (side_at axis (joined_box a b)) (along axis p)
    axis_of a b p h zero = in_second a.x b.x p.x (holds_at b p h zero)
    axis_of a b p h (suc zero) = in_second a.y b.y p.y (holds_at b p h (suc zero))
    axis_of a b p h (suc (suc n)) = in_second a.z b.z p.z (holds_at b p h (suc (suc n)))

pub holds_meet : (a b : GridBox) (p : Pos) → box_holds a p ≡ true → box_holds b p ≡ true
    → box_holds (meet_box a b) p ≡ true
holds_meet a b p h k = holds_all (meet_box a b) p (axis_of a b p h k)
  where
    axis_of : (a b : GridBox) (p : Pos) → box_holds a p ≡ true → box_holds b p ≡ true → (axis : ℕ)
        → IsIn (side_at axis (meet_box a b)) (along axis p)
    axis_of a b p h k zero = in_meet a.x b.x p.x (holds_at a p h zero) (holds_at b p k zero)
    axis_of a b p h k (suc zero) = in_meet a.y b.y p.y (holds_at a p h (suc zero)) (holds_at b p k (suc zero))
    axis_of a b p h k (suc (suc n)) = in_meet a.z b.z p.z (holds_at a p h (suc (suc n))) (holds_at b p k (suc (suc n)))

holds_grown : (r : ℕ) (a : GridBox) (p q : Pos) → box_holds a p ≡ true → AreNear r p q
    → box_holds (grown_box (pos r) a) q ≡ true
holds_grown r a p q h near = holds_all (grown_box (pos r) a) q (axis_of r a p q h near)
  where
    axis_of : (r : ℕ) (a : GridBox) (p q : Pos) → box_holds a p ≡ true → AreNear r p q → (axis : ℕ)
        → IsIn (side_at axis (grown_box (pos r) a)) (along axis q)
    axis_of r a p q h near zero = in_grown r a.x p.x q.x (holds_at a p h zero) near.x
    axis_of r a p q h near (suc zero) = in_grown r a.y p.y q.y (holds_at a p h (suc zero)) near.y
    axis_of r a p q h near (suc (suc n)) = in_grown r a.z p.z q.z (holds_at a p h (suc (suc n))) near.z

-- who was in a part of the search box is, within reach, in the root behind it
pub holds_reached : (r : ℕ) (kept search : GridBox) (p q : Pos) → box_holds kept p ≡ true
    → IsWithinReach r p q → box_holds search q ≡ true
    → box_holds (reached_box r kept search) q ≡ true
holds_reached r kept search p q h near inside = holds_meet search (grown_box (pos r) kept) q inside (holds_grown r kept p q h (are_near r p q near))
