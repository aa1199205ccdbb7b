-- Points of a box within bounds, and planes beyond which they lie.
use Rattle.std.proofs.Common.{◌≡◌, ℕ, arith, true, List, [], ◌∷◌, inl, inr, ap, ◌∙◌, FitsSigned, to_z, of_z}
use Rattle.std.specs.Prelude.{ℤ, pos, negsuc, neg_ℤ, ◌+ℤ◌, ◌-ℤ◌, ◌*ℤ◌, ◌≤ℤ◌, ◌<ℤ◌}
use Rattle.std.specs.Int.{w64, w128}
use Rattle.std.proofs.lemmas.Int.{ints, by_lt_z}
use lib.IntN.{*ℤ_comm}
use Rattle.grid_model.specs.Boxes.{GridBox, box_holds}
use Rattle.grid_model.specs.Sizes.{IsWithin}
use Rattle.grid_model.specs.declared.boxes.Pos.{Pos}
use Rattle.grid_model.proofs.PlainLemmas.{one_times}
use Rattle.grid_model.proofs.ProductLemmas.{add_mul, distrib, larger, mul_assoc, mul_mono, neg_mul, product_within}
use Rattle.zone_guard.specs.Answers.{faces, plane_on}
use Rattle.zone_guard.specs.Beyond.{IsBeyond, IsBeyondWith, IsSoOfOne, both_along, opposite, sum_of}
use Rattle.zone_guard.specs.Limits.{IsLimit}
use Rattle.zone_guard.specs.Planes.{IsBehind, IsInPrism, LiesBeyond, PlaneValue, dot}
use Rattle.zone_guard.specs.PrismAnswers.{IsEnclosed, IsShutOut}
use Rattle.zone_guard.proofs.AnswerLemmas.{holds_from}

-- ---- the products of a sum

pub two_same : (a b x y : ℤ) → a ≡ x → b ≡ y → a +ℤ b ≡ x +ℤ y
two_same a b x y e f = cc

axis_both : (n a k b p : ℤ) → ((n *ℤ a) +ℤ (k *ℤ b)) *ℤ p ≡ (n *ℤ (a *ℤ p)) +ℤ (k *ℤ (b *ℤ p))
axis_both n a k b p = add_mul (n *ℤ a) (k *ℤ b) p ∙ two_same _ _ _ _ (mul_assoc n a p) (mul_assoc k b p)

three_out : (n x y z : ℤ) → n *ℤ (x +ℤ (y +ℤ z)) ≡ (n *ℤ x) +ℤ ((n *ℤ y) +ℤ (n *ℤ z))
three_out n x y z = distrib n x (y +ℤ z) ∙ ap (λ (t : ℤ). (n *ℤ x) +ℤ t) (distrib n y z)

regroup : (l m r x y z u v w s t : ℤ) → l ≡ x +ℤ u → m ≡ y +ℤ v → r ≡ z +ℤ w
    → s ≡ x +ℤ (y +ℤ z) → t ≡ u +ℤ (v +ℤ w) → l +ℤ (m +ℤ r) ≡ s +ℤ t
regroup l m r x y z u v w s t e f g h k = omega (arith, ints, e, f, g, h, k)

dot_both : (n k : ℕ) (a b p : Pos)
    → dot (both_along n a k b) p ≡ (pos n *ℤ dot a p) +ℤ (pos k *ℤ dot b p)
dot_both n k a b p =
    regroup _ _ _
    (pos n *ℤ (a.x *ℤ p.x)) (pos n *ℤ (a.y *ℤ p.y)) (pos n *ℤ (a.z *ℤ p.z))
    (pos k *ℤ (b.x *ℤ p.x)) (pos k *ℤ (b.y *ℤ p.y)) (pos k *ℤ (b.z *ℤ p.z)) _ _
    (axis_both (pos n) a.x (pos k) b.x p.x) (axis_both (pos n) a.y (pos k) b.y p.y) (axis_both (pos n) a.z (pos k) b.z p.z)
    (three_out (pos n) (a.x *ℤ p.x) (a.y *ℤ p.y) (a.z *ℤ p.z)) (three_out (pos k) (b.x *ℤ p.x) (b.y *ℤ p.y) (b.z *ℤ p.z))

times_le : (n : ℕ) (a b : ℤ) → a ≤ℤ b → (pos n *ℤ a) ≤ℤ (pos n *ℤ b)
times_le n a b h = rw (*ℤ_comm (pos n) a, *ℤ_comm (pos n) b) (mul_mono a b (pos n) h (omega (arith, ints)))

sum_le : (d u v x y : ℤ) → d ≡ u +ℤ v → u ≤ℤ x → v ≤ℤ y → d ≤ℤ (x +ℤ y)
sum_le d u v x y e h k = omega (arith, ints, e, h, k)

-- a point behind two planes is behind their sum
behind_sum : (n k : ℕ) (s h : PlaneValue) (p : Pos) → IsBehind p s → IsBehind p h
    → IsBehind p (sum_of n s k h)
behind_sum n k s h p i j =
    sum_le _ _ _ _ _ (dot_both n k s.along h.along p) (times_le n (dot s.along p) s.most i) (times_le k (dot h.along p) h.most j)

-- ---- the opposite plane

turned_sum : (l m r x y z : ℤ) → l ≡ neg_ℤ x → m ≡ neg_ℤ y → r ≡ neg_ℤ z
    → l +ℤ (m +ℤ r) ≡ neg_ℤ (x +ℤ (y +ℤ z))
turned_sum l m r x y z e f g = omega (arith, ints, e, f, g)

dot_opposite : (s : PlaneValue) (p : Pos) → dot (opposite s).along p ≡ neg_ℤ (dot s.along p)
dot_opposite s p = turned_sum _ _ _ _ _ _ (neg_mul s.along.x p.x) (neg_mul s.along.y p.y) (neg_mul s.along.z p.z)

turned_le : (d t m : ℤ) → t ≡ neg_ℤ d → m <ℤ d → t ≤ℤ neg_ℤ (m +ℤ pos 1)
turned_le d t m e h = omega (arith, ints, e, h)

-- what isn't behind the opposite is behind the plane
pub behind_of : (s : PlaneValue) (p : Pos) → (IsBehind p (opposite s) → ⊥) → IsBehind p s
behind_of s p not =
    by_lt_z s.most (dot s.along p) (λ less. absurd (not (turned_le (dot s.along p) _ s.most (dot_opposite s p) less)))
    (λ behind. behind)

-- ---- a point of a box within bounds

pub no_less : (n m : ℤ) → n ≤ℤ m → m <ℤ n → ⊥
no_less n m h k = omega (arith, ints, h, k)

past_point : (part : GridBox) (s : PlaneValue) (p : Pos) → LiesBeyond part s
    → box_holds part p ≡ true → IsBehind p s → ⊥
past_point part s p past held behind = no_less _ _ behind (past p held)

with_point : (part : GridBox) (s h : PlaneValue) (p : Pos) → IsBeyondWith part s h
    → box_holds part p ≡ true → IsBehind p h → IsBehind p s → ⊥
with_point part s h p (inl past) held within behind = past_point part h p past held within
with_point part s h p (inr (inl x)) held within behind = past_point part _ p x held (behind_sum _ _ s h p behind within)
with_point part s h p (inr (inr (inl y))) held within behind = past_point part _ p y held (behind_sum _ _ s h p behind within)
with_point part s h p (inr (inr (inr z))) held within behind = past_point part _ p z held (behind_sum _ _ s h p behind within)

some_point : (part : GridBox) (s : PlaneValue) (bounds : List PlaneValue) (p : Pos)
    → IsSoOfOne (IsBeyondWith part s) bounds → box_holds part p ≡ true → IsInPrism bounds p
    → IsBehind p s → ⊥
some_point part s [] p some held within behind = absurd some
some_point part s (h ∷ bounds) p (inl here) held within behind = with_point part s h p here held within.0 behind
some_point part s (h ∷ bounds) p (inr later) held within behind = some_point part s bounds p later held within.1 behind

pub beyond_point : (bounds : List PlaneValue) (part : GridBox) (s : PlaneValue) (p : Pos)
    → IsBeyond bounds part s → box_holds part p ≡ true → IsInPrism bounds p → IsBehind p s → ⊥
beyond_point bounds part s p (inl past) held within behind = past_point part s p past held behind
beyond_point bounds part s p (inr some) held within behind = some_point part s bounds p some held within behind

pub out_point : (bounds sides : List PlaneValue) (part : GridBox) (p : Pos)
    → IsShutOut bounds sides part → box_holds part p ≡ true → IsInPrism bounds p
    → IsInPrism sides p → ⊥
out_point bounds [] part p out held within inside = absurd out
out_point bounds (s ∷ sides) part p (inl beyond) held within inside = beyond_point bounds part s p beyond held within inside.0
out_point bounds (s ∷ sides) part p (inr later) held within inside = out_point bounds sides part p later held within inside.1

pub in_point : (bounds sides : List PlaneValue) (part : GridBox) (p : Pos)
    → IsEnclosed bounds sides part → box_holds part p ≡ true → IsInPrism bounds p
    → IsInPrism sides p
in_point bounds [] part p all held within = tt
in_point bounds (s ∷ sides) part p all held within = (
  behind_of s p (λ behind. beyond_point bounds part (opposite s) p all.0 held within behind),
  in_point bounds sides part p all.1 held within,
)

-- ---- the faces of a box

zero_times : (n : ℤ) → pos 0 *ℤ n ≡ pos 0
zero_times n = omega (arith, ints)

minus_times : (n : ℤ) → negsuc 0 *ℤ n ≡ neg_ℤ n
minus_times n = neg_mul (pos 1) n ∙ ap neg_ℤ (one_times n)

at_most : (a b c n m : ℤ) → a ≡ n → b ≡ pos 0 → c ≡ pos 0 → (a +ℤ (b +ℤ c)) ≤ℤ m → n ≤ℤ m
at_most a b c n m e f g h = omega (arith, ints, e, f, g, h)

at_second : (a b c n m : ℤ) → a ≡ pos 0 → b ≡ n → c ≡ pos 0 → (a +ℤ (b +ℤ c)) ≤ℤ m → n ≤ℤ m
at_second a b c n m e f g h = omega (arith, ints, e, f, g, h)

at_third : (a b c n m : ℤ) → a ≡ pos 0 → b ≡ pos 0 → c ≡ n → (a +ℤ (b +ℤ c)) ≤ℤ m → n ≤ℤ m
at_third a b c n m e f g h = omega (arith, ints, e, f, g, h)

turned_back : (n m : ℤ) → neg_ℤ n ≤ℤ neg_ℤ m → m ≤ℤ n
turned_back n m h = omega (arith, ints, h)

pub in_faces : (zone : GridBox) (p : Pos) → IsInPrism (faces zone) p → box_holds zone p ≡ true
in_faces zone p i = holds_from zone p (record {
  x = (
    turned_back _ _ (at_most _ _ _ _ _ (minus_times p.x) (zero_times p.y) (zero_times p.z) i.1.0),
    at_most _ _ _ _ _ (one_times p.x) (zero_times p.y) (zero_times p.z) i.0,
  );
  y = (
    turned_back _ _ (at_second _ _ _ _ _ (zero_times p.x) (minus_times p.y) (zero_times p.z) i.1.1.1.0),
    at_second _ _ _ _ _ (zero_times p.x) (one_times p.y) (zero_times p.z) i.1.1.0,
  );
  z = (
    turned_back _ _ (at_third _ _ _ _ _ (zero_times p.x) (zero_times p.y) (minus_times p.z) i.1.1.1.1.1.0),
    at_third _ _ _ _ _ (zero_times p.x) (zero_times p.y) (one_times p.z) i.1.1.1.1.0,
  );
})

-- ---- planes by their numbers

pub plane_same : (x y z m a b d n : ℤ) → x ≡ a → y ≡ b → z ≡ d → m ≡ n
    → plane_on x y z m ≡ plane_on a b d n
plane_same x y z m a b d n e f g h = cc

pub six_same : (a b d e f g u v w x y z : PlaneValue) → a ≡ u → b ≡ v → d ≡ w → e ≡ x → f ≡ y → g ≡ z
    → a ∷ b ∷ d ∷ e ∷ f ∷ g ∷ [] ≡ u ∷ v ∷ w ∷ x ∷ y ∷ z ∷ []
six_same a b d e f g u v w x y z i j k l m n = cc

-- ---- numbers that fit

pub fits_way : (x : ℤ) → IsWithin 2199023255552 x → FitsSigned w64 x
fits_way x w = omega (arith, ints, w.low, w.high)

pub fits_limit : (x : ℤ) → IsWithin 1000000000000000000000000000000 x → FitsSigned w128 x
fits_limit x w = omega (arith, ints, w.low, w.high)

pub wide : (x : ℤ) → IsWithin 1048576 x → IsWithin 2199023255552 x
wide x w = larger 1048576 2199023255552 x (omega arith) w

limit_within : (x : ℤ) → IsLimit x → IsWithin 100000000000000000001 x
limit_within x l = record { low = l.0; high = omega (arith, ints, l.1) }

pub times_within : (n a : ℤ) → IsWithin 1048576 n → IsWithin 1048576 a → IsWithin 1099511627776 (n *ℤ a)
times_within n a v w = product_within 1048576 1048576 n a v w

pub limit_times_within : (n a : ℤ) → IsWithin 1048576 n → IsLimit a
    → IsWithin 104857600000000000001048576 (n *ℤ a)
limit_times_within n a v l = product_within 1048576 100000000000000000001 n a v (limit_within a l)

pub both_within : (x y : ℤ) → IsWithin 1099511627776 x → IsWithin 1099511627776 y
    → IsWithin 2199023255552 (x +ℤ y)
both_within x y v w = record { low = omega (arith, ints, v.low, v.high, w.low, w.high); high = omega (arith, ints, v.low, v.high, w.low, w.high) }

pub limits_within : (x y : ℤ) → IsWithin 104857600000000000001048576 x → IsWithin 104857600000000000001048576 y
    → IsWithin 1000000000000000000000000000000 (x +ℤ y)
limits_within x y v w = record { low = omega (arith, ints, v.low, v.high, w.low, w.high); high = omega (arith, ints, v.low, v.high, w.low, w.high) }

pub most_turned : (m : ℤ) → IsLimit m
    → to_z w128 (of_z w128 (pos 0 -ℤ to_z w128 (of_z w128 (to_z w128 (of_z w128 m) +ℤ pos 1)))) ≡ neg_ℤ (m +ℤ pos 1)
most_turned m l = omega (arith, ints, l.0, l.1)
