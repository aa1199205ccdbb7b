-- How far boxes reach.
use Rattle.std.proofs.Common.{◌≡◌, ◌⊎◌, arith, true, List, [], ◌∷◌, ◌++◌, inl, inr, refl, subst, append-nil}
use Rattle.std.specs.Prelude.{ℤ, ◌≤ℤ◌, Option, None, Some}
use Rattle.std.specs.Int.{int_max, int_min}
use Rattle.std.proofs.lemmas.Int.{ints, clamps, by_lt_z}
use Rattle.grid_model.specs.Boxes.{GridBox, grid_box, box_holds}
use Rattle.grid_model.specs.declared.boxes.Box3.{Box3}
use Rattle.grid_model.specs.declared.boxes.Pos.{Pos}
use Rattle.zone_guard.specs.Corners.{grown}
use Rattle.zone_guard.specs.Reaches.{AreHolding, IsProductIn, IsExtent, IsReach}
use Rattle.zone_guard.specs.declared.planes.Extent.{Extent}
use Rattle.zone_guard.specs.Totals.{both, joined}
use Rattle.zone_guard.proofs.CornerLemmas.{PointAt, least_le, le_greatest, least_point, greatest_point, min_left as min_is_left, min_right as min_is_right, max_left as max_is_left, max_right as max_is_right}

-- ---- one box more

held_front : (boxes more : List GridBox) (p : Pos) → AreHolding boxes p
    → AreHolding (boxes ++ more) p
held_front [] more p h = absurd h
held_front (b ∷ boxes) more p (inl here) = inl here
held_front (b ∷ boxes) more p (inr later) = inr (held_front boxes more p later)

held_last : (boxes : List GridBox) (part : GridBox) (p : Pos) → box_holds part p ≡ true
    → AreHolding (boxes ++ part ∷ []) p
held_last [] part p h = inl h
held_last (b ∷ boxes) part p h = inr (held_last boxes part p h)

held_either : (boxes : List GridBox) (part : GridBox) (p : Pos) → AreHolding (boxes ++ part ∷ []) p
    → AreHolding boxes p ⊎ (box_holds part p ≡ true)
held_either [] part p (inl here) = inr here
held_either [] part p (inr later) = absurd later
held_either (b ∷ boxes) part p (inl here) = inl (inl here)
held_either (b ∷ boxes) part p (inr later) = elim (held_either boxes part p later) [
  | inl before ↦ inl (inr before)
  | inr last ↦ inr last
]

product_front : (a : Pos) (boxes more : List GridBox) (n : ℤ) → IsProductIn a boxes n
    → IsProductIn a (boxes ++ more) n
product_front a boxes more n i = record { point = i.point; holding = held_front boxes more i.point i.holding; product = i.product }

product_last : (a : Pos) (boxes : List GridBox) (part : GridBox) (n : ℤ) → PointAt a part n
    → IsProductIn a (boxes ++ part ∷ []) n
product_last a boxes part n i = record { point = i.point; holding = held_last boxes part i.point i.held; product = i.product }

min_le_left : (m n v : ℤ) → m ≤ℤ v → int_min m n ≤ℤ v
min_le_left m n v h = omega (arith, ints, clamps, h)

min_le_right : (m n v : ℤ) → n ≤ℤ v → int_min m n ≤ℤ v
min_le_right m n v h = omega (arith, ints, clamps, h)

le_max_left : (m n v : ℤ) → v ≤ℤ m → v ≤ℤ int_max m n
le_max_left m n v h = omega (arith, ints, clamps, h)

le_max_right : (m n v : ℤ) → v ≤ℤ n → v ≤ℤ int_max m n
le_max_right m n v h = omega (arith, ints, clamps, h)

least_of : (a : Pos) (boxes : List GridBox) (m n : ℤ) → IsProductIn a boxes m
    → IsProductIn a boxes n → IsProductIn a boxes (int_min m n)
least_of a boxes m n i j = by_lt_z m n (λ lt. subst (IsProductIn a boxes) (min_is_left m n lt) i) (λ ge. subst (IsProductIn a boxes) (min_is_right m n ge) j)

greatest_of : (a : Pos) (boxes : List GridBox) (m n : ℤ) → IsProductIn a boxes m
    → IsProductIn a boxes n → IsProductIn a boxes (int_max m n)
greatest_of a boxes m n i j = by_lt_z m n (λ lt. subst (IsProductIn a boxes) (max_is_right m n lt) j) (λ ge. subst (IsProductIn a boxes) (max_is_left m n ge) i)

-- the first box
first_extent : (a : Pos) (b : Box3) → IsExtent a (grid_box b ∷ []) (grown None a (grid_box b))
first_extent a b = record {
  all = λ p h. elim h [ inl here ↦ (least_le a (grid_box b) p here, le_greatest a (grid_box b) p here) | inr later ↦ absurd later ];
  least = product_last a [] (grid_box b) _ (least_point a b);
  greatest = product_last a [] (grid_box b) _ (greatest_point a b);
}

next_extent : (a : Pos) (boxes : List GridBox) (b : Box3) (e : Extent) → IsExtent a boxes e
    → IsExtent a (boxes ++ grid_box b ∷ []) (grown (Some e) a (grid_box b))
next_extent a boxes b e i = record {
  all = λ p h. elim (held_either boxes (grid_box b) p h) [
    | inl before ↦ let k = i.all p before in (min_le_left _ _ _ k.0, le_max_left _ _ _ k.1)
    | inr last ↦ (min_le_right e.least _ _ (least_le a (grid_box b) p last), le_max_right e.greatest _ _ (le_greatest a (grid_box b) p last))
  ];
  least = least_of a _ _ _ (product_front a boxes _ _ i.least) (product_last a boxes (grid_box b) _ (least_point a b));
  greatest = greatest_of a _ _ _ (product_front a boxes _ _ i.greatest) (product_last a boxes (grid_box b) _ (greatest_point a b));
}

pub reach_more : (a : Pos) (boxes : List GridBox) (b : Box3) (found : Option Extent)
    → IsReach a boxes found
    → IsReach a (boxes ++ grid_box b ∷ []) (Some (grown found a (grid_box b)))
reach_more a boxes b None none = rw none (first_extent a b)
reach_more a boxes b (Some e) i = next_extent a boxes b e i

-- ---- the boxes of several epochs

held_behind : (boxes more : List GridBox) (p : Pos) → AreHolding more p
    → AreHolding (boxes ++ more) p
held_behind [] more p h = h
held_behind (b ∷ boxes) more p h = inr (held_behind boxes more p h)

held_some : (boxes more : List GridBox) (p : Pos) → AreHolding (boxes ++ more) p
    → AreHolding boxes p ⊎ AreHolding more p
held_some [] more p h = inr h
held_some (b ∷ boxes) more p (inl here) = inl (inl here)
held_some (b ∷ boxes) more p (inr later) = elim (held_some boxes more p later) [
  | inl before ↦ inl (inr before)
  | inr behind ↦ inr behind
]

product_behind : (a : Pos) (boxes more : List GridBox) (n : ℤ) → IsProductIn a more n
    → IsProductIn a (boxes ++ more) n
product_behind a boxes more n i = record { point = i.point; holding = held_behind boxes more i.point i.holding; product = i.product }

both_extents : (a : Pos) (boxes more : List GridBox) (d e : Extent) → IsExtent a boxes d
    → IsExtent a more e → IsExtent a (boxes ++ more) (both d e)
both_extents a boxes more d e i j = record {
  all = λ p h. elim (held_some boxes more p h) [
    | inl before ↦ let k = i.all p before in (min_le_left _ _ _ k.0, le_max_left _ _ _ k.1)
    | inr behind ↦ let k = j.all p behind in (min_le_right d.least _ _ k.0, le_max_right d.greatest _ _ k.1)
  ];
  least = least_of a _ _ _ (product_front a boxes more _ i.least) (product_behind a boxes more _ j.least);
  greatest = greatest_of a _ _ _ (product_front a boxes more _ i.greatest) (product_behind a boxes more _ j.greatest);
}

pub extents_joined : (a : Pos) (boxes more : List GridBox) (before found : Option Extent)
    → IsReach a boxes before → IsReach a more found
    → IsReach a (boxes ++ more) (joined before found)
extents_joined a boxes more None None none ended = rw (none, ended) refl
extents_joined a boxes more None (Some e) none j = rw none j
extents_joined a boxes more (Some d) None i ended = rw (ended, append-nil boxes) i
extents_joined a boxes more (Some d) (Some e) i j = both_extents a boxes more d e i j
