-- Boxes that lie apart from a zone, and what they share with it.
use Rattle.std.proofs.Common.{◌≡◌, arith, true, List, [], ◌∷◌, inl, inr, to_z, of_z}
use Rattle.std.specs.Prelude.{ℤ, ◌≤ℤ◌}
use Rattle.std.specs.Int.{int_max, int_min, w64}
use Rattle.std.proofs.lemmas.Int.{ints, clamps}
use Rattle.grid_model.specs.Boxes.{Side, GridBox, grid_box, box_holds}
use Rattle.grid_model.specs.Sizes.{IsBoxSize}
use Rattle.grid_model.specs.declared.boxes.Box3.{Box3}
use Rattle.grid_model.specs.declared.boxes.Pos.{Pos}
use Rattle.grid_model.proofs.IntervalLemmas.{max_within, min_within}
use Rattle.grid_model.proofs.PlainLemmas.{uncast_end}
use Rattle.grid_model.proofs.PointLemmas.{IsInBox, in_box, le_to}
use Rattle.zone_guard.specs.Answers.{IsApart, IsApartWithin}
use Rattle.zone_guard.specs.Beyond.{IsSoOfOne}
use Rattle.zone_guard.specs.Ends.{AreMet, shared_side, shared_box}
use Rattle.zone_guard.specs.Planes.{PlaneValue, LiesBeyond}
use Rattle.std.proofs.lemmas.Bool.{and_from as and_true}

-- ---- two boxes

pub holds_from : (c : GridBox) (p : Pos) → IsInBox c p → box_holds c p ≡ true
holds_from c p i =
    and_true _ _ (and_true _ _ (le_to c.x.lo p.x i.x.0) (le_to p.x c.x.hi i.x.1))
    (and_true _ _ (and_true _ _ (le_to c.y.lo p.y i.y.0) (le_to p.y c.y.hi i.y.1)) (and_true _ _ (le_to c.z.lo p.z i.z.0) (le_to p.z c.z.hi i.z.1)))

-- then they share a point
shared_point : Box3 → Box3 → Pos
shared_point a b = record { x = int_max a.lo.x b.lo.x; y = int_max a.lo.y b.lo.y; z = int_max a.lo.z b.lo.z }

shared_in : (a b : Box3) → AreMet (grid_box a) (grid_box b) → IsInBox (grid_box a) (shared_point a b)
unfolding shared_point
shared_in a b m = record {
  x = (omega (arith, ints, clamps), omega (arith, ints, clamps, a.x_ordered, m.x.high));
  y = (omega (arith, ints, clamps), omega (arith, ints, clamps, a.y_ordered, m.y.high));
  z = (omega (arith, ints, clamps), omega (arith, ints, clamps, a.z_ordered, m.z.high));
}

shared_also : (a b : Box3) → AreMet (grid_box a) (grid_box b) → IsInBox (grid_box b) (shared_point a b)
unfolding shared_point
shared_also a b m = record {
  x = (omega (arith, ints, clamps), omega (arith, ints, clamps, b.x_ordered, m.x.low));
  y = (omega (arith, ints, clamps), omega (arith, ints, clamps, b.y_ordered, m.y.low));
  z = (omega (arith, ints, clamps), omega (arith, ints, clamps, b.z_ordered, m.z.low));
}

pub not_apart : (part zone : Box3) → AreMet (grid_box part) (grid_box zone)
    → IsApart (grid_box zone) (grid_box part) → ⊥
not_apart part zone m apart =
    apart (shared_point part zone) (holds_from (grid_box part) (shared_point part zone) (shared_in part zone m)) (holds_from (grid_box zone) (shared_point part zone) (shared_also part zone m))

-- one lies behind the other on an axis
pub behind_apart : (part zone : Box3) → (AreMet (grid_box part) (grid_box zone) → ⊥)
    → IsApart (grid_box zone) (grid_box part)
behind_apart part zone apart p h k =
    let i = in_box (grid_box part) p h in
    let j = in_box (grid_box zone) p k in
    apart (record {
      x = record { low = omega (arith, ints, i.x.0, j.x.1); high = omega (arith, ints, j.x.0, i.x.1) };
      y = record { low = omega (arith, ints, i.y.0, j.y.1); high = omega (arith, ints, j.y.0, i.y.1) };
      z = record { low = omega (arith, ints, i.z.0, j.z.1); high = omega (arith, ints, j.z.0, i.z.1) };
    })

-- ---- what two boxes share

in_both : (s t : Side) (n : ℤ) → (s.lo ≤ℤ n) × (n ≤ℤ s.hi) → (t.lo ≤ℤ n) × (n ≤ℤ t.hi)
    → ((shared_side s t).lo ≤ℤ n) × (n ≤ℤ (shared_side s t).hi)
in_both s t n h k = (omega (arith, ints, clamps, h.0, k.0), omega (arith, ints, clamps, h.1, k.1))

in_first : (s t : Side) (n : ℤ) → ((shared_side s t).lo ≤ℤ n) × (n ≤ℤ (shared_side s t).hi)
    → (s.lo ≤ℤ n) × (n ≤ℤ s.hi)
in_first s t n h = (omega (arith, ints, clamps, h.0), omega (arith, ints, clamps, h.1))

in_other : (s t : Side) (n : ℤ) → ((shared_side s t).lo ≤ℤ n) × (n ≤ℤ (shared_side s t).hi)
    → (t.lo ≤ℤ n) × (n ≤ℤ t.hi)
in_other s t n h = (omega (arith, ints, clamps, h.0), omega (arith, ints, clamps, h.1))

shared_holds : (a b : GridBox) (p : Pos) → box_holds a p ≡ true → box_holds b p ≡ true
    → box_holds (shared_box a b) p ≡ true
shared_holds a b p h k =
    let i = in_box a p h in
    let j = in_box b p k in
    holds_from (shared_box a b) p (record { x = in_both a.x b.x p.x i.x j.x; y = in_both a.y b.y p.y i.y j.y; z = in_both a.z b.z p.z i.z j.z })

first_holds : (a b : GridBox) (p : Pos) → box_holds (shared_box a b) p ≡ true → box_holds a p ≡ true
first_holds a b p h =
    let i = in_box (shared_box a b) p h in
    holds_from a p (record { x = in_first a.x b.x p.x i.x; y = in_first a.y b.y p.y i.y; z = in_first a.z b.z p.z i.z })

other_holds : (a b : GridBox) (p : Pos) → box_holds (shared_box a b) p ≡ true → box_holds b p ≡ true
other_holds a b p h =
    let i = in_box (shared_box a b) p h in
    holds_from b p (record { x = in_other a.x b.x p.x i.x; y = in_other a.y b.y p.y i.y; z = in_other a.z b.z p.z i.z })

pub shared_apart : (part zone : GridBox) (bounds : List PlaneValue)
    → IsSoOfOne (LiesBeyond (shared_box part zone)) bounds
    → IsSoOfOne (IsApartWithin zone part) bounds
shared_apart part zone [] past = absurd past
shared_apart part zone (h ∷ bounds) (inl here) = inl (λ p held inside. here p (shared_holds part zone p held inside))
shared_apart part zone (h ∷ bounds) (inr later) = inr (shared_apart part zone bounds later)

pub apart_shared : (part zone : GridBox) (bounds : List PlaneValue)
    → IsSoOfOne (IsApartWithin zone part) bounds
    → IsSoOfOne (LiesBeyond (shared_box part zone)) bounds
apart_shared part zone [] apart = absurd apart
apart_shared part zone (h ∷ bounds) (inl here) = inl (λ p held. here p (first_holds part zone p held) (other_holds part zone p held))
apart_shared part zone (h ∷ bounds) (inr later) = inr (apart_shared part zone bounds later)

-- ---- the ends of what they share

pub greater_end : (a b r : ℤ) → IsBoxSize a → IsBoxSize b
    → r ≡ int_max (to_z w64 (of_z w64 a)) (to_z w64 (of_z w64 b))
    → to_z w64 (of_z w64 r) ≡ int_max a b
greater_end a b r p q e =
    let same : r ≡ int_max a b = rw (uncast_end a p, uncast_end b q) at e in
    rw same (uncast_end (int_max a b) (max_within _ a b p q))

pub lesser_end : (a b r : ℤ) → IsBoxSize a → IsBoxSize b
    → r ≡ int_min (to_z w64 (of_z w64 a)) (to_z w64 (of_z w64 b))
    → to_z w64 (of_z w64 r) ≡ int_min a b
lesser_end a b r p q e =
    let same : r ≡ int_min a b = rw (uncast_end a p, uncast_end b q) at e in
    rw same (uncast_end (int_min a b) (min_within _ a b p q))

pub ends_ordered : (a b s t : ℤ) → a ≤ℤ b → s ≤ℤ t → a ≤ℤ t → s ≤ℤ b
    → int_max a s ≤ℤ int_min b t
ends_ordered a b s t h k l m = omega (arith, ints, clamps, h, k, l, m)
