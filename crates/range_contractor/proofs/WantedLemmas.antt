-- A box to which all ranges of a leaf are wanted stays as it is.
use Rattle.std.proofs.Common.{◌≡◌, ℕ, zero, suc, ◌+◌, ◌*◌, ◌≤◌, arith, Bool, true, false, inl, refl, Some}
use Rattle.std.specs.Prelude.{ℤ, pos, ◌*ℤ◌, ◌≤ℤ◌}
use Rattle.std.proofs.lemmas.Int.{ints}
use Rattle.grid_model.specs.Amounts.{least_amount, greatest_amount, square}
use Rattle.grid_model.specs.Boxes.{Side, GridBox, side_at, IsIn}
use Rattle.grid_model.proofs.AmountLemmas.{above_is}
use Rattle.grid_model.proofs.RootLemmas.{root_mono, sum_mono, root_is, root_le, root_least as root_from}
use Rattle.sat_model.specs.Trees.{LeafValue, Sat}
use Rattle.sat_model.specs.Contractors.{LiesIn}
use Rattle.sat_model.specs.Proposals.{Keeps}
use Rattle.sat_model.specs.TightFaces.{layer, least_between, greatest_between, near_leaf, far_leaf, least_range, greatest_range, IsTight, IsTightAnswer, face_at}
use Rattle.range_contractor.specs.Ranges.{IsWanted}
use Rattle.range_contractor.proofs.LeafLemmas.{IsOrderedLeaf, squares_le}

-- a layer is no nearer and no farther than its box

least_grows : (a b c d v : ℤ) → c ≤ℤ v → v ≤ℤ d → least_amount a b c d ≤ least_amount a b v v
least_grows a b c d v h k = omega (arith, ints, above_is a d, above_is a v, above_is c b, above_is v b)

greatest_shrinks : (a b c d v : ℤ) → c ≤ℤ v → v ≤ℤ d
    → greatest_amount a b v v ≤ greatest_amount a b c d
greatest_shrinks a b c d v h k = omega (arith, ints, above_is b c, above_is b v, above_is d a, above_is v a)

near_layer : (leaf : LeafValue) (part : GridBox) (axis : ℕ) (v : ℤ) → IsIn (side_at axis part) v
    → near_leaf leaf part ≤ near_leaf leaf (layer axis part v)
unfolding near_leaf
near_layer leaf part zero v (h, k) = root_mono _ _ _ _ (root_is _) (root_is _)
    (sum_mono _ _ _ _ _ _ (least_grows leaf.x.lo leaf.x.hi part.x.lo part.x.hi v h k) (omega arith) (omega arith))
near_layer leaf part (suc zero) v (h, k) = root_mono _ _ _ _ (root_is _) (root_is _)
    (sum_mono _ _ _ _ _ _ (omega arith) (least_grows leaf.y.lo leaf.y.hi part.y.lo part.y.hi v h k) (omega arith))
near_layer leaf part (suc (suc n)) v (h, k) = root_mono _ _ _ _ (root_is _) (root_is _)
    (sum_mono _ _ _ _ _ _ (omega arith) (omega arith) (least_grows leaf.z.lo leaf.z.hi part.z.lo part.z.hi v h k))

far_layer : (leaf : LeafValue) (part : GridBox) (axis : ℕ) (v : ℤ) → IsIn (side_at axis part) v
    → far_leaf leaf (layer axis part v) ≤ far_leaf leaf part
unfolding far_leaf
far_layer leaf part zero v (h, k) = root_mono _ _ _ _ (root_is _) (root_is _)
    (sum_mono _ _ _ _ _ _ (greatest_shrinks leaf.x.lo leaf.x.hi part.x.lo part.x.hi v h k) (omega arith) (omega arith))
far_layer leaf part (suc zero) v (h, k) = root_mono _ _ _ _ (root_is _) (root_is _)
    (sum_mono _ _ _ _ _ _ (omega arith) (greatest_shrinks leaf.y.lo leaf.y.hi part.y.lo part.y.hi v h k) (omega arith))
far_layer leaf part (suc (suc n)) v (h, k) = root_mono _ _ _ _ (root_is _) (root_is _)
    (sum_mono _ _ _ _ _ _ (omega arith) (omega arith) (greatest_shrinks leaf.z.lo leaf.z.hi part.z.lo part.z.hi v h k))

layer_ordered : (leaf : LeafValue) (part : GridBox) (axis : ℕ) (v : ℤ) → IsOrderedLeaf leaf part
    → near_leaf leaf (layer axis part v) ≤ far_leaf leaf (layer axis part v)
unfolding near_leaf far_leaf
layer_ordered leaf part zero v o = root_mono _ _ _ _ (root_is _) (root_is _)
    (squares_le leaf (layer 0 part v) o.x (omega (arith, ints)) o.y o.part_y o.z o.part_z)
layer_ordered leaf part (suc zero) v o = root_mono _ _ _ _ (root_is _) (root_is _)
    (squares_le leaf (layer 1 part v) o.x o.part_x o.y (omega (arith, ints)) o.z o.part_z)
layer_ordered leaf part (suc (suc n)) v o = root_mono _ _ _ _ (root_is _) (root_is _)
    (squares_le leaf (layer 2 part v) o.x o.part_x o.y o.part_y o.z (omega (arith, ints)))

-- ---- ranges by their squares

pub near_from : (leaf : LeafValue) (part : GridBox) (x y z : Side) (n s : ℕ) → x ≡ leaf.x
    → y ≡ leaf.y → z ≡ leaf.z
    → s ≡ square (least_between x part.x) + square (least_between y part.y) + square (least_between z part.z)
    → n * n ≤ s → n ≤ near_leaf leaf part
unfolding near_leaf
near_from leaf part x y z n s ex ey ez is h =
    let same : s ≡ square (least_between leaf.x part.x) + square (least_between leaf.y part.y) + square (least_between leaf.z part.z) = rw (ex, ey, ez) at is in
    root_from _ n (omega (arith, same, h))

pub far_to : (leaf : LeafValue) (part : GridBox) (x y z : Side) (n s : ℕ) → x ≡ leaf.x → y ≡ leaf.y
    → z ≡ leaf.z
    → s ≡ square (greatest_between x part.x) + square (greatest_between y part.y) + square (greatest_between z part.z)
    → s ≤ n * n → far_leaf leaf part ≤ n
unfolding far_leaf
far_to leaf part x y z n s ex ey ez is h =
    let same : s ≡ square (greatest_between leaf.x part.x) + square (greatest_between leaf.y part.y) + square (greatest_between leaf.z part.z) = rw (ex, ey, ez) at is in
    root_le _ n (omega (arith, same, h))

-- ---- the box itself

module _ (g slack : ℤ) (leaf : LeafValue) (clock : Side) (part : GridBox) (least most : ℤ) (grain : pos 1 ≤ℤ g) (slack_is : slack ≡ pos 16 *ℤ g) (o : IsOrderedLeaf leaf part)
    (w : IsWanted (least_range leaf clock) (greatest_range leaf clock) least most) (low : least ≤ℤ pos (near_leaf leaf part)) (high : pos (far_leaf leaf part) ≤ℤ most) where
  layer_tight : (axis : ℕ) (v : ℤ) → IsIn (side_at axis part) v
      → IsTight slack leaf clock (layer axis part v)
  layer_tight axis v i =
      let n = near_layer leaf part axis v i in
      let f = far_layer leaf part axis v i in
      let le = layer_ordered leaf part axis v o in
      record {
        range = pos (near_leaf leaf (layer axis part v));
        reached = record { from = omega (arith, ints); to = omega (arith, ints, le) };
        wanted = record {
          from = omega (arith, ints, slack_is, grain, w.low, low, n);
          to = omega (arith, ints, slack_is, grain, w.high, high, f, le);
        };
      }

  pub whole_box : LiesIn part part
      → Keeps (Sat leaf) clock part (Some part) × IsTightAnswer g slack leaf clock part (Some part)
  whole_box lies = (
    (lies, λ p a. a.inside),
    (λ axis low'. face axis low', λ axis low'. inl refl),
  )
    where
      face : (axis : ℕ) (low' : Bool)
          → IsTight slack leaf clock (layer axis part (face_at axis low' part))
      face axis true = let u = lies axis in layer_tight axis (side_at axis part).lo (u.low, u.ordered)
      face axis false = let u = lies axis in layer_tight axis (side_at axis part).hi (u.ordered, u.high)
