-- The least and the greatest product of a direction and a point of a box: no point goes beyond them,
-- and a corner has each.
use Rattle.std.proofs.Common.{◌≡◌, ℕ, ◌^◌, ◌≤◌, arith, true, refl, subst, to_z, of_z}
use Rattle.std.specs.Prelude.{ℤ, ◌+ℤ◌, ◌*ℤ◌, ◌≤ℤ◌, ◌<ℤ◌}
use Rattle.std.specs.Int.Signed.{≤ℤ_refl}
use Rattle.std.specs.Int.{int_max, int_min, w64, w128}
use Rattle.std.proofs.lemmas.Int.{ints, clamps, by_lt_z}
use Rattle.grid_model.specs.Boxes.{Side, GridBox, grid_box, box_holds}
use Rattle.grid_model.specs.Sizes.{IsWithin, IsBoxSize}
use Rattle.grid_model.specs.declared.boxes.Box3.{Box3}
use Rattle.grid_model.specs.declared.boxes.Pos.{Pos}
use Rattle.grid_model.proofs.PointLemmas.{in_box}
use Rattle.grid_model.proofs.ProductLemmas.{larger, product_within}
use Rattle.grid_model.proofs.SpreadLemmas.{least_le_product, product_le_greatest}
use Rattle.zone_guard.specs.Corners.{least_on, greatest_on, least_over, greatest_over}
use Rattle.log_tokens.specs.Fields.{IsPosWithin}
use Rattle.zone_guard.specs.Planes.{dot, PlaneValue, LiesBeyond}
use Rattle.zone_guard.proofs.AnswerLemmas.{holds_from}
use Rattle.sat_model.proofs.PairAxisLemmas.{sum_within}
use Rattle.grid_model.proofs.PlainLemmas.{held_itself}

-- ---- casts

uncast : (x : ℤ) → IsWithin (10 ^ 30) x → to_z w128 (of_z w128 x) ≡ x
uncast x k = omega (arith, ints, k.low, k.high)

wider : (n : ℕ) (x : ℤ) → n ≤ 10 ^ 30 → IsWithin n x → IsWithin (10 ^ 30) x
wider n x h w = record { low = omega (arith, ints, w.low, w.high); high = omega (arith, ints, w.low, w.high) }

pub uncast_factor : (x : ℤ) → IsWithin 2199023255552 x → to_z w64 (of_z w64 x) ≡ x
uncast_factor x k = omega (arith, ints, k.low, k.high)

pub wide_direction : (a : Pos) → IsPosWithin 1048576 a → IsPosWithin 2199023255552 a
wide_direction a w = (larger _ _ a.x (omega arith) w.0, larger _ _ a.y (omega arith) w.1, larger _ _ a.z (omega arith) w.2)

pub uncast_product : (a b : ℤ) → IsWithin 2199023255552 a → IsBoxSize b
    → to_z w128 (of_z w128 (to_z w128 (of_z w128 a) *ℤ to_z w128 (of_z w128 b))) ≡ a *ℤ b
uncast_product a b v w =
    rw (uncast a (wider _ a (omega arith) v), uncast b (wider _ b (omega arith) w)) (uncast (a *ℤ b) (wider _ (a *ℤ b) (omega arith) (product_within 2199023255552 10000000000000 a b v w)))

pub uncast_sum : (x y z : ℤ) → IsWithin 21990232555520000000000000 x → IsWithin 21990232555520000000000000 y
    → IsWithin 21990232555520000000000000 z
    → to_z w128 (of_z w128 (to_z w128 (of_z w128 x) +ℤ to_z w128 (of_z w128 (to_z w128 (of_z w128 y) +ℤ to_z w128 (of_z w128 z))))) ≡ x +ℤ (y +ℤ z)
uncast_sum x y z u v w =
    let inner = sum_within _ _ y z v w in
    let whole = sum_within _ _ x (y +ℤ z) u inner in
    rw (uncast x (wider _ x (omega arith) u), uncast y (wider _ y (omega arith) v), uncast z (wider _ z (omega arith) w), uncast (y +ℤ z) (wider _ _ (omega arith) inner))
    (uncast (x +ℤ (y +ℤ z)) (wider _ _ (omega arith) whole))

-- ---- on an axis

one_min : (s t z : ℤ) → int_min (int_min s t) (int_min s t) ≤ℤ z → int_min s t ≤ℤ z
one_min s t z h = omega (arith, ints, clamps, h)

one_max : (s t z : ℤ) → z ≤ℤ int_max (int_max s t) (int_max s t) → z ≤ℤ int_max s t
one_max s t z h = omega (arith, ints, clamps, h)

least_on_le : (f : ℤ) (s : Side) (n : ℤ) → (s.lo ≤ℤ n) × (n ≤ℤ s.hi) → least_on f s ≤ℤ (f *ℤ n)
least_on_le f s n h = one_min (f *ℤ s.lo) (f *ℤ s.hi) (f *ℤ n) (least_le_product f f s.lo s.hi f n (held_itself f) (record { from = h.0; to = h.1 }))

le_greatest_on : (f : ℤ) (s : Side) (n : ℤ) → (s.lo ≤ℤ n) × (n ≤ℤ s.hi)
    → (f *ℤ n) ≤ℤ greatest_on f s
le_greatest_on f s n h = one_max (f *ℤ s.lo) (f *ℤ s.hi) (f *ℤ n) (product_le_greatest f f s.lo s.hi f n (held_itself f) (record { from = h.0; to = h.1 }))

-- an end of the side has this product with the factor
record EndAt (f : ℤ) (s : Side) (v : ℤ) : Type 0 where
  n : ℤ
  inside : (s.lo ≤ℤ n) × (n ≤ℤ s.hi)
  product : (f *ℤ n) ≡ v

pub min_left : (s t : ℤ) → s <ℤ t → s ≡ int_min s t
min_left s t h = omega (arith, ints, clamps, h)

pub min_right : (s t : ℤ) → t ≤ℤ s → t ≡ int_min s t
min_right s t h = omega (arith, ints, clamps, h)

pub max_left : (s t : ℤ) → t ≤ℤ s → s ≡ int_max s t
max_left s t h = omega (arith, ints, clamps, h)

pub max_right : (s t : ℤ) → s <ℤ t → t ≡ int_max s t
max_right s t h = omega (arith, ints, clamps, h)

least_end : (f : ℤ) (s : Side) → s.lo ≤ℤ s.hi → EndAt f s (least_on f s)
least_end f s h =
    by_lt_z (f *ℤ s.lo) (f *ℤ s.hi) (λ lt. record { n = s.lo; inside = (≤ℤ_refl s.lo, h); product = min_left _ _ lt })
    (λ ge. record { n = s.hi; inside = (h, ≤ℤ_refl s.hi); product = min_right _ _ ge })

greatest_end : (f : ℤ) (s : Side) → s.lo ≤ℤ s.hi → EndAt f s (greatest_on f s)
greatest_end f s h =
    by_lt_z (f *ℤ s.lo) (f *ℤ s.hi) (λ lt. record { n = s.hi; inside = (h, ≤ℤ_refl s.hi); product = max_right _ _ lt })
    (λ ge. record { n = s.lo; inside = (≤ℤ_refl s.lo, h); product = max_left _ _ ge })

-- ---- over a box

sum_le : (a b c x y z : ℤ) → a ≤ℤ x → b ≤ℤ y → c ≤ℤ z → (a +ℤ (b +ℤ c)) ≤ℤ (x +ℤ (y +ℤ z))
sum_le a b c x y z h k l = omega (arith, ints, h, k, l)

pub least_le : (a : Pos) (c : GridBox) (p : Pos) → box_holds c p ≡ true → least_over a c ≤ℤ dot a p
least_le a c p h = let i = in_box c p h in sum_le _ _ _ _ _ _ (least_on_le a.x c.x p.x i.x) (least_on_le a.y c.y p.y i.y) (least_on_le a.z c.z p.z i.z)

pub le_greatest : (a : Pos) (c : GridBox) (p : Pos) → box_holds c p ≡ true
    → dot a p ≤ℤ greatest_over a c
le_greatest a c p h = let i = in_box c p h in sum_le _ _ _ _ _ _ (le_greatest_on a.x c.x p.x i.x) (le_greatest_on a.y c.y p.y i.y) (le_greatest_on a.z c.z p.z i.z)

-- a point of the box has this product with the direction
pub record PointAt (a : Pos) (c : GridBox) (v : ℤ) : Type 0 where
  pub point : Pos
  pub held : box_holds c point ≡ true
  pub product : dot a point ≡ v

point_of : (a : Pos) (c : GridBox) (u v w : ℤ) → EndAt a.x c.x u → EndAt a.y c.y v → EndAt a.z c.z w
    → PointAt a c (u +ℤ (v +ℤ w))
point_of a c u v w e f g = record {
  point = record { x = e.n; y = f.n; z = g.n };
  held = holds_from c (record { x = e.n; y = f.n; z = g.n }) (record { x = e.inside; y = f.inside; z = g.inside });
  product = rw (e.product, f.product, g.product) refl;
}

pub least_point : (a : Pos) (b : Box3) → PointAt a (grid_box b) (least_over a (grid_box b))
least_point a b =
    point_of a (grid_box b) _ _ _ (least_end a.x (grid_box b).x b.x_ordered) (least_end a.y (grid_box b).y b.y_ordered) (least_end a.z (grid_box b).z b.z_ordered)

pub greatest_point : (a : Pos) (b : Box3) → PointAt a (grid_box b) (greatest_over a (grid_box b))
greatest_point a b =
    point_of a (grid_box b) _ _ _ (greatest_end a.x (grid_box b).x b.x_ordered) (greatest_end a.y (grid_box b).y b.y_ordered) (greatest_end a.z (grid_box b).z b.z_ordered)

-- ---- a plane

less_both : (m l v : ℤ) → m <ℤ l → l ≤ℤ v → m <ℤ v
less_both m l v h k = omega (arith, ints, h, k)

no_less : (m l : ℤ) → l ≤ℤ m → m <ℤ l → ⊥
no_less m l h k = omega (arith, ints, h, k)

pub beyond : (s : PlaneValue) (b : Box3) → s.most <ℤ least_over s.along (grid_box b)
    → LiesBeyond (grid_box b) s
beyond s b h p held = less_both _ _ _ h (least_le s.along (grid_box b) p held)

pub not_beyond : (s : PlaneValue) (b : Box3) → least_over s.along (grid_box b) ≤ℤ s.most
    → LiesBeyond (grid_box b) s → ⊥
not_beyond s b h all =
    let low = least_point s.along b in
    no_less s.most _ h (subst (λ (v : ℤ). s.most <ℤ v) low.product (all low.point low.held))
