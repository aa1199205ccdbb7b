-- What a half-space leaves of a box holds each point of the box in the half-space.
use Rattle.std.proofs.Common.{◌≡◌, ◌⊎◌, zero, suc, arith, refl, subst, true, inl, inr, Option, None, Some}
use Rattle.std.specs.Prelude.{ℤ, pos, negsuc, ◌-ℤ◌, ◌+ℤ◌, ◌*ℤ◌, ◌≤ℤ◌}
use Rattle.std.proofs.lemmas.Bool.{cases_Bool}
use Rattle.std.proofs.lemmas.Int.{ints}
use Rattle.grid_model.specs.declared.boxes.Pos.{Pos}
use Rattle.grid_model.specs.Boxes.{GridBox, Side, side_holds, box_holds}
use Rattle.grid_model.proofs.PointLemmas.{in_box, side_in, le_to}
use Rattle.sat_model.specs.declared.half_spaces.HalfSpace.{HalfSpace}
use Rattle.sat_model.specs.HalfSpaces.{IsInHalfSpace}
use Rattle.sat_model.specs.MovedFaces.{alone, side_under, box_under, hull_under}
use Rattle.sat_model.proofs.EpochLemmas.{HullHolds}

-- ---- a side

-- a number is taken alone, or 0 stands for it
alone_or_none : (d e f : ℤ) → ((alone d e f ≡ d) × (e ≡ pos 0) × (f ≡ pos 0)) ⊎ (alone d e f ≡ pos 0)
alone_or_none d (pos zero) (pos zero) = inl (refl, refl, refl)
alone_or_none d (pos zero) (pos (suc n)) = inr refl
alone_or_none d (pos zero) (negsuc n) = inr refl
alone_or_none d (pos (suc n)) f = inr refl
alone_or_none d (negsuc n) f = inr refl

held_below : (most : ℤ) (s : Side) (n : ℤ) → side_holds s n ≡ true → n ≤ℤ most
    → side_holds (side_under (pos 1) most s) n ≡ true
held_below most s n h l = elim (cases_Bool (side_holds s most)) [
  | inl e ↦ rw e (rw (le_to s.lo n (side_in s n h).0, le_to n most l) refl)
  | inr e ↦ rw e h
]

held_above : (most : ℤ) (s : Side) (n : ℤ) → side_holds s n ≡ true → (pos 0 -ℤ n) ≤ℤ most
    → side_holds (side_under (negsuc 0) most s) n ≡ true
held_above most s n h l = elim (cases_Bool (side_holds s (pos 0 -ℤ most))) [
  | inl e ↦ rw e (rw (le_to (pos 0 -ℤ most) n (omega (arith, ints, l)), le_to n s.hi (side_in s n h).1) refl)
  | inr e ↦ rw e h
]

held_along : (d most : ℤ) (s : Side) (n : ℤ) → side_holds s n ≡ true → (d *ℤ n) ≤ℤ most
    → side_holds (side_under d most s) n ≡ true
held_along (pos zero) most s n h l = h
held_along (pos (suc zero)) most s n h l = held_below most s n h (omega (arith, ints, l))
held_along (pos (suc (suc k))) most s n h l = h
held_along (negsuc zero) most s n h l = held_above most s n h (omega (arith, ints, l))
held_along (negsuc (suc k)) most s n h l = h

-- what is said of a sum of which the two other factors are 0
of_one : (n u v most d e f : ℤ) → e ≡ pos 0 → f ≡ pos 0 → ((d *ℤ n) +ℤ (e *ℤ u) +ℤ (f *ℤ v)) ≤ℤ most
    → (d *ℤ n) ≤ℤ most
of_one n u v most d e f none null l =
    let at : ((d *ℤ n) +ℤ (pos 0 *ℤ u) +ℤ (pos 0 *ℤ v)) ≤ℤ most =
    subst (λ (k : ℤ). ((d *ℤ n) +ℤ (pos 0 *ℤ u) +ℤ (k *ℤ v)) ≤ℤ most) null
    (subst (λ (k : ℤ). ((d *ℤ n) +ℤ (k *ℤ u) +ℤ (f *ℤ v)) ≤ℤ most) none l) in
    omega (arith, ints, at)

held_side : (d e f n u v most : ℤ) (s : Side) → side_holds s n ≡ true
    → ((d *ℤ n) +ℤ (e *ℤ u) +ℤ (f *ℤ v)) ≤ℤ most → side_holds (side_under (alone d e f) most s) n ≡ true
held_side d e f n u v most s h l = elim (alone_or_none d e f) [
  | inl (is, none, null) ↦ rw is (held_along d most s n h (of_one n u v most d e f none null l))
  | inr is ↦ rw is h
]

-- ---- a box

pub held_by : (h : HalfSpace) (c : GridBox) (p : Pos) → box_holds c p ≡ true → IsInHalfSpace h p
    → box_holds (box_under h c) p ≡ true
held_by h c p held within =
    let in_c = in_box c p held in
    rw (
      held_side h.x h.y h.z p.x p.y p.z h.most c.x (holds_side c.x p.x in_c.x) within,
      held_side h.y h.x h.z p.y p.x p.z h.most c.y (holds_side c.y p.y in_c.y) (omega (arith, ints, within)),
      held_side h.z h.x h.y p.z p.x p.y h.most c.z (holds_side c.z p.z in_c.z) (omega (arith, ints, within)),
    ) refl
  where
    holds_side : (s : Side) (n : ℤ) → (s.lo ≤ℤ n) × (n ≤ℤ s.hi) → side_holds s n ≡ true
    holds_side s n e = rw (le_to s.lo n e.0, le_to n s.hi e.1) refl

-- ---- a hull

pub held_under : (h : HalfSpace) (hull : Option GridBox) (p : Pos) → HullHolds hull p → IsInHalfSpace h p
    → HullHolds (hull_under h hull) p
held_under h None p held within = absurd held
held_under h (Some hull) p held within = held_by h hull p held within
