-- What one satellite allows is reached on each axis, and faces that are nearly reached are tight.
use Rattle.std.proofs.Common.{◌≡◌, ℕ, zero, suc, ◌+◌, ◌*◌, ◌<◌, ◌≤◌, arith, Bool, true, false, refl, sym, None, Some}
use Rattle.std.specs.Prelude.{ℤ, pos, negsuc, ◌+ℤ◌, ◌-ℤ◌, ◌*ℤ◌, neg_ℤ, ◌≤ℤ◌, unsigned_abs}
use Rattle.std.proofs.lemmas.Int.{ints}
use Rattle.grid_model.specs.declared.boxes.Pos.{Pos}
use Rattle.grid_model.specs.declared.boxes.Box3.{Box3}
use Rattle.grid_model.specs.declared.spans.Span.{Span}
use Rattle.grid_model.specs.Boxes.{Side, GridBox, box_holds, side_at, grid_box, IsIn}
use Rattle.grid_model.specs.Sizes.{IsWithin, IsBoxSize}
use Rattle.grid_model.specs.Amounts.{square}
use Rattle.grid_model.specs.Intervals.{Between}
use Rattle.grid_model.specs.Roots.{IsRoot, root}
use Rattle.grid_model.specs.Ranges.{range_to}
use Rattle.grid_model.proofs.RootLemmas.{root_is, square-mono, sum_mono}
use Rattle.grid_model.proofs.AmountLemmas.{least_le_greatest}
use Rattle.sat_model.specs.Trees.{LeafValue, Sat, LeafAllows, Allows, IsLeafSized}
use Rattle.sat_model.specs.Contractors.{IsAllowedIn, SideLiesIn}
use Rattle.sat_model.specs.TightFaces.{layer, least_between, greatest_between, near_leaf, far_leaf, least_range, greatest_range, IsTight, face_at, IsFaceOf, IsTightAnswer}
use Rattle.sat_model.specs.Proposals.{Keeps}
use Rattle.range_contractor.specs.Ranges.{IsWanted, NoneIsWanted, greatest_possible}
use Rattle.range_contractor.specs.Sides.{IsReached, IsNearlyReached, IsKept, NoneIsKept}
use Rattle.range_contractor.specs.Squares.{AreDifferenceSquares, AreRangeSquares}
use Rattle.range_contractor.proofs.BoxLemmas.{along, holds_at, holds_all}
use Rattle.range_contractor.proofs.TightLemmas.{Meet, tight}

-- the ends of the wanted ranges and of their squares, and of the squared differences on each axis
pub record Measures : Type 0 where
  pub least : ℤ
  pub most : ℤ
  pub low : ℕ
  pub high : ℕ
  pub xl : ℕ
  pub xh : ℕ
  pub yl : ℕ
  pub yh : ℕ
  pub zl : ℕ
  pub zh : ℕ

abbrev pub measures : {A : Type 0} → (A → ℕ) → (A → ℕ) → Span → A → A → A → A → Measures
measures low high ranges squares x y z = record {
  least = ranges.lo;
  most = ranges.hi;
  low = low squares;
  high = high squares;
  xl = low x;
  xh = high x;
  yl = low y;
  yh = high y;
  zl = low z;
  zh = high z;
}

pub record IsMeasured (g : ℤ) (leaf : LeafValue) (clock : Side) (part : GridBox) (m : Measures) : Type 0 where
  pub grain : pos 1 ≤ℤ g
  pub wanted : IsWanted (least_range leaf clock) (greatest_range leaf clock) m.least m.most
  pub reach : AreRangeSquares g m.least m.most m.low m.high
  pub x : AreDifferenceSquares g leaf.x part.x m.xl m.xh
  pub y : AreDifferenceSquares g leaf.y part.y m.yl m.yh
  pub z : AreDifferenceSquares g leaf.z part.z m.zl m.zh

-- the same from the sides as they were taken
pub measured : (g : ℤ) (leaf : LeafValue) (clock : Side) (part : GridBox) (x y z : Side) (m : Measures)
    → pos 1 ≤ℤ g
    → IsWanted (least_range leaf clock) (greatest_range leaf clock) m.least m.most
    → AreRangeSquares g m.least m.most m.low m.high
    → x ≡ part.x → y ≡ part.y → z ≡ part.z
    → AreDifferenceSquares g leaf.x x m.xl m.xh → AreDifferenceSquares g leaf.y y m.yl m.yh
    → AreDifferenceSquares g leaf.z z m.zl m.zh
    → IsMeasured g leaf clock part m
measured g leaf clock part x y z m grain wanted reach e f h x_is y_is z_is = record {
  grain = grain;
  wanted = wanted;
  reach = reach;
  x = rw e at x_is;
  y = rw f at y_is;
  z = rw h at z_is;
}

-- ---- what is allowed is reached

abs_le : (z : ℤ) (n : ℕ) → neg_ℤ (pos n) ≤ℤ z → z ≤ℤ pos n → unsigned_abs z ≤ n
abs_le (pos m) n h k = omega (arith, ints)
abs_le (negsuc m) n h k = omega (arith, ints)

difference_le : (place side : Side) (s v : ℤ) → IsWithin 70000000000000 place.lo
    → IsWithin 70000000000000 place.hi → IsBoxSize side.lo → IsBoxSize side.hi → IsIn place s
    → IsIn side v → unsigned_abs (s -ℤ v) ≤ 80000000000000
difference_le place side s v p q r t i j = abs_le (s -ℤ v) 80000000000000 (omega (arith, ints, p.low, t.high, i.0, j.1)) (omega (arith, ints, q.high, r.low, i.1, j.0))

abbrev distance_square : ℤ → ℤ → ℤ → Pos → ℕ
distance_square x y z p = square (unsigned_abs (x -ℤ p.x)) + square (unsigned_abs (y -ℤ p.y)) + square (unsigned_abs (z -ℤ p.z))

possible_range : (a b c : ℕ) → a ≤ 80000000000000 → b ≤ 80000000000000 → c ≤ 80000000000000
    → root (square a + square b + square c) ≤ 139999999999999
possible_range a b c h k l =
    let x = sum_mono a b c 80000000000000 80000000000000 80000000000000 h k l in
    let r : IsRoot (square a + square b + square c) (root (square a + square b + square c)) = root_is _ in
    less_root _ (square a + square b + square c) r.square_le (omega arith)
  where
    less_root : (v s : ℕ) → v * v ≤ s → s < 140000000000000 * 140000000000000 → v ≤ 139999999999999
    less_root v s h k = grind (arith, square-mono 140000000000000 v)

pub record AreSizes (part : GridBox) : Type 0 where
  pub x : IsBoxSize part.x.lo × IsBoxSize part.x.hi
  pub y : IsBoxSize part.y.lo × IsBoxSize part.y.hi
  pub z : IsBoxSize part.z.lo × IsBoxSize part.z.hi

pub box_sizes : (b : Box3) → AreSizes (grid_box b)
box_sizes b = record {
  x = (b.lo_within.0, b.hi_within.0);
  y = (b.lo_within.1, b.hi_within.1);
  z = (b.lo_within.2, b.hi_within.2);
}

-- the range of what is allowed is wanted, and its squared distance is reached
pub record IsReachedBy (low high : ℕ) (x y z : ℤ) (p : Pos) : Type 0 where
  pub from : low ≤ distance_square x y z p
  pub to : distance_square x y z p ≤ high

range_wanted : (leaf : LeafValue) (clock : Side) (part : GridBox) (p : Pos) (b : ℤ)
    → IsLeafSized leaf → AreSizes part → box_holds part p ≡ true → IsIn clock b
    → (a : LeafAllows leaf p b)
    → (range_to a.x a.y a.z p ≤ greatest_possible) × Between (least_range leaf clock) (greatest_range leaf clock) (pos (range_to a.x a.y a.z p))
unfolding range_to
range_wanted leaf clock part p b sized sizes inside c a =
    let h = holds_at part p inside in
    let m = a.measured_in in
    let e = a.allowed in (
      possible_range (unsigned_abs (a.x -ℤ p.x)) (unsigned_abs (a.y -ℤ p.y)) (unsigned_abs (a.z -ℤ p.z))
          (difference_le leaf.x part.x a.x p.x sized.x.0 sized.x.1 sizes.x.0 sizes.x.1 a.x_in (h 0))
          (difference_le leaf.y part.y a.y p.y sized.y.0 sized.y.1 sizes.y.0 sizes.y.1 a.y_in (h 1))
          (difference_le leaf.z part.z a.z p.z sized.z.0 sized.z.1 sizes.z.0 sizes.z.1 a.z_in (h 2)),
      record { from = omega (arith, ints, m.0, e.1, c.1); to = omega (arith, ints, m.1, e.0, c.0) },
    )

reached_by : (g : ℤ) (leaf : LeafValue) (clock : Side) (part : GridBox) (m : Measures) (p : Pos) (b : ℤ)
    → IsMeasured g leaf clock part m → IsLeafSized leaf → AreSizes part → box_holds part p ≡ true
    → IsIn clock b → (a : LeafAllows leaf p b)
    → IsReachedBy m.low m.high a.x a.y a.z p
unfolding range_to
reached_by g leaf clock part m p b is sized sizes inside c a =
    let w = range_wanted leaf clock part p b sized sizes inside c a in
    let n = is.wanted.holds (range_to a.x a.y a.z p) w.0 w.1 in
    let r : IsRoot (distance_square a.x a.y a.z p) (range_to a.x a.y a.z p) = root_is _ in
    let lo = is.reach.holds_from (range_to a.x a.y a.z p) n.from in
    let hi = is.reach.holds_to (range_to a.x a.y a.z p + 1) (omega (arith, ints, n.to)) in
    record { from = omega (arith, lo, r.square_le); to = omega (arith, hi, r.next_square_gt) }

pub record AreReached (leaf : LeafValue) (m : Measures) (p : Pos) : Type 0 where
  pub x : IsReached leaf.x m.low m.high (m.yl + m.zl) (m.yh + m.zh) p.x
  pub y : IsReached leaf.y m.low m.high (m.xl + m.zl) (m.xh + m.zh) p.y
  pub z : IsReached leaf.z m.low m.high (m.xl + m.yl) (m.xh + m.yh) p.z

pub are_reached : (g : ℤ) (leaf : LeafValue) (clock : Side) (part : GridBox) (m : Measures) (p : Pos)
    → IsMeasured g leaf clock part m → IsLeafSized leaf → AreSizes part
    → IsAllowedIn (Allows (Sat leaf)) part clock p → AreReached leaf m p
are_reached g leaf clock part m p is sized sizes k =
    let a = k.allowed in
    let r = reached_by g leaf clock part m p k.offset is sized sizes k.inside k.in_clock a in
    let h = holds_at part p k.inside in
    let x = is.x.holds a.x p.x a.x_in (h 0) in
    let y = is.y.holds a.y p.y a.y_in (h 1) in
    let z = is.z.holds a.z p.z a.z_in (h 2) in
    record {
      x = record { at = a.x; at_in = a.x_in; others = square (unsigned_abs (a.y -ℤ p.y)) + square (unsigned_abs (a.z -ℤ p.z)); others_from = omega (arith, y.0, z.0); others_to = omega (arith, y.1, z.1); from = omega (arith, r.from); to = omega (arith, r.to) };
      y = record { at = a.y; at_in = a.y_in; others = square (unsigned_abs (a.x -ℤ p.x)) + square (unsigned_abs (a.z -ℤ p.z)); others_from = omega (arith, x.0, z.0); others_to = omega (arith, x.1, z.1); from = omega (arith, r.from); to = omega (arith, r.to) };
      z = record { at = a.z; at_in = a.z_in; others = square (unsigned_abs (a.x -ℤ p.x)) + square (unsigned_abs (a.y -ℤ p.y)); others_from = omega (arith, x.0, y.0); others_to = omega (arith, x.1, y.1); from = omega (arith, r.from); to = omega (arith, r.to) };
    }

-- ---- nothing is allowed

pub none_wanted : (leaf : LeafValue) (clock : Side) (part : GridBox) → IsLeafSized leaf
    → AreSizes part → NoneIsWanted (least_range leaf clock) (greatest_range leaf clock)
    → Keeps (Sat leaf) clock part None
none_wanted leaf clock part sized sizes none = λ p k.
    let a = k.allowed in
    let w = range_wanted leaf clock part p k.offset sized sizes k.inside k.in_clock a in
    none (range_to a.x a.y a.z p) w.0 w.1

-- nothing is kept of one side
pub none_on_x : (g : ℤ) (leaf : LeafValue) (clock : Side) (part : GridBox) (x : Side) (m : Measures)
    → IsMeasured g leaf clock part m → IsLeafSized leaf → AreSizes part
    → x ≡ part.x → NoneIsKept leaf.x x m.low m.high (m.yl + m.zl) (m.yh + m.zh)
    → Keeps (Sat leaf) clock part None
none_on_x g leaf clock part x m is sized sizes e none = λ p k.
    let held : NoneIsKept leaf.x part.x m.low m.high (m.yl + m.zl) (m.yh + m.zh) = rw e at none in
    held p.x (holds_at part p k.inside 0) (are_reached g leaf clock part m p is sized sizes k).x

pub none_on_y : (g : ℤ) (leaf : LeafValue) (clock : Side) (part : GridBox) (y : Side) (m : Measures)
    → IsMeasured g leaf clock part m → IsLeafSized leaf → AreSizes part
    → y ≡ part.y → NoneIsKept leaf.y y m.low m.high (m.xl + m.zl) (m.xh + m.zh)
    → Keeps (Sat leaf) clock part None
none_on_y g leaf clock part y m is sized sizes e none = λ p k.
    let held : NoneIsKept leaf.y part.y m.low m.high (m.xl + m.zl) (m.xh + m.zh) = rw e at none in
    held p.y (holds_at part p k.inside 1) (are_reached g leaf clock part m p is sized sizes k).y

pub none_on_z : (g : ℤ) (leaf : LeafValue) (clock : Side) (part : GridBox) (z : Side) (m : Measures)
    → IsMeasured g leaf clock part m → IsLeafSized leaf → AreSizes part
    → z ≡ part.z → NoneIsKept leaf.z z m.low m.high (m.xl + m.yl) (m.xh + m.yh)
    → Keeps (Sat leaf) clock part None
none_on_z g leaf clock part z m is sized sizes e none = λ p k.
    let held : NoneIsKept leaf.z part.z m.low m.high (m.xl + m.yl) (m.xh + m.yh) = rw e at none in
    held p.z (holds_at part p k.inside 2) (are_reached g leaf clock part m p is sized sizes k).z

-- ---- the answer

pub leaf_keeps : (g : ℤ) (leaf : LeafValue) (clock : Side) (part : GridBox) (m : Measures) (x y z : Side)
    → IsMeasured g leaf clock part m → IsLeafSized leaf → AreSizes part
    → IsKept g leaf.x part.x m.low m.high (m.yl + m.zl) (m.yh + m.zh) x
    → IsKept g leaf.y part.y m.low m.high (m.xl + m.zl) (m.xh + m.zh) y
    → IsKept g leaf.z part.z m.low m.high (m.xl + m.yl) (m.xh + m.yh) z
    → Keeps (Sat leaf) clock part (Some (record { x = x; y = y; z = z }))
leaf_keeps g leaf clock part m x y z is sized sizes kx ky kz = (
  λ axis. lies axis,
  λ p k.
      let r = are_reached g leaf clock part m p is sized sizes k in
      let h = holds_at part p k.inside in
      holds_all (record { x = x; y = y; z = z }) p (λ axis. held p h r axis),
)
  where
    lies : (axis : ℕ)
        → SideLiesIn (side_at axis (record { x = x; y = y; z = z })) (side_at axis part)
    lies zero = record { low = kx.from; ordered = kx.ordered; high = kx.to }
    lies (suc zero) = record { low = ky.from; ordered = ky.ordered; high = ky.to }
    lies (suc (suc n)) = record { low = kz.from; ordered = kz.ordered; high = kz.to }

    held : (p : Pos) → ((axis : ℕ) → IsIn (side_at axis part) (along axis p)) → AreReached leaf m p
        → (axis : ℕ) → IsIn (side_at axis (record { x = x; y = y; z = z })) (along axis p)
    held p h r zero = kx.holds p.x (h 0) r.x
    held p h r (suc zero) = ky.holds p.y (h 1) r.y
    held p h r (suc (suc n)) = kz.holds p.z (h 2) r.z

-- ---- each face is tight

pub record IsOrderedLeaf (leaf : LeafValue) (part : GridBox) : Type 0 where
  pub x : leaf.x.lo ≤ℤ leaf.x.hi
  pub y : leaf.y.lo ≤ℤ leaf.y.hi
  pub z : leaf.z.lo ≤ℤ leaf.z.hi
  pub part_x : part.x.lo ≤ℤ part.x.hi
  pub part_y : part.y.lo ≤ℤ part.y.hi
  pub part_z : part.z.lo ≤ℤ part.z.hi

abbrev near_square : LeafValue → GridBox → ℕ
near_square leaf part = square (least_between leaf.x part.x) + square (least_between leaf.y part.y) + square (least_between leaf.z part.z)

abbrev far_square : LeafValue → GridBox → ℕ
far_square leaf part = square (greatest_between leaf.x part.x) + square (greatest_between leaf.y part.y) + square (greatest_between leaf.z part.z)

pub squares_le : (leaf : LeafValue) (part : GridBox) → leaf.x.lo ≤ℤ leaf.x.hi
    → part.x.lo ≤ℤ part.x.hi → leaf.y.lo ≤ℤ leaf.y.hi → part.y.lo ≤ℤ part.y.hi
    → leaf.z.lo ≤ℤ leaf.z.hi → part.z.lo ≤ℤ part.z.hi
    → near_square leaf part ≤ far_square leaf part
squares_le leaf part a b c d e f = sum_mono _ _ _ _ _ _ (least_le_greatest _ _ _ _ a b) (least_le_greatest _ _ _ _ c d) (least_le_greatest _ _ _ _ e f)

tight_of : (slack : ℤ) (leaf : LeafValue) (clock : Side) (part : GridBox) (near far : ℕ)
    → near ≡ near_leaf leaf part → far ≡ far_leaf leaf part
    → Meet near far (least_range leaf clock -ℤ slack) (greatest_range leaf clock +ℤ slack)
    → IsTight slack leaf clock part
tight_of slack leaf clock part near far e f m = record { range = m.range; reached = rw (sym e, sym f) m.reached; wanted = m.wanted }

layer_tight_x : (g slack : ℤ) (leaf : LeafValue) (clock : Side) (part : GridBox) (m : Measures) (v : ℤ)
    → slack ≡ pos 16 *ℤ g
    → IsMeasured g leaf clock part m → IsOrderedLeaf leaf part
    → IsNearlyReached g leaf.x m.low m.high (m.yl + m.zl) (m.yh + m.zh) v
    → IsTight slack leaf clock (layer 0 part v)
unfolding near_leaf far_leaf
layer_tight_x (negsuc g) slack leaf clock part m v e is o n = absurd (omega (arith, ints, is.grain))
layer_tight_x (pos g) slack leaf clock part m v e is o n = tight_of slack leaf clock (layer 0 part v) _ _ refl refl
    (rw e (tight g (least_range leaf clock) (greatest_range leaf clock) m.least m.most m.low m.high leaf.x v leaf.y leaf.z part.y part.z m.yl m.yh m.zl m.zh
    (near_square leaf (layer 0 part v)) (far_square leaf (layer 0 part v)) (omega (arith, ints, is.grain)) is.wanted is.reach is.y is.z n (omega arith) (omega arith)
    (squares_le leaf (layer 0 part v) o.x (omega (arith, ints)) o.y o.part_y o.z o.part_z)))

layer_tight_y : (g slack : ℤ) (leaf : LeafValue) (clock : Side) (part : GridBox) (m : Measures) (v : ℤ)
    → slack ≡ pos 16 *ℤ g
    → IsMeasured g leaf clock part m → IsOrderedLeaf leaf part
    → IsNearlyReached g leaf.y m.low m.high (m.xl + m.zl) (m.xh + m.zh) v
    → IsTight slack leaf clock (layer 1 part v)
unfolding near_leaf far_leaf
layer_tight_y (negsuc g) slack leaf clock part m v e is o n = absurd (omega (arith, ints, is.grain))
layer_tight_y (pos g) slack leaf clock part m v e is o n = tight_of slack leaf clock (layer 1 part v) _ _ refl refl
    (rw e (tight g (least_range leaf clock) (greatest_range leaf clock) m.least m.most m.low m.high leaf.y v leaf.x leaf.z part.x part.z m.xl m.xh m.zl m.zh
    (near_square leaf (layer 1 part v)) (far_square leaf (layer 1 part v)) (omega (arith, ints, is.grain)) is.wanted is.reach is.x is.z n (omega arith) (omega arith)
    (squares_le leaf (layer 1 part v) o.x o.part_x o.y (omega (arith, ints)) o.z o.part_z)))

layer_tight_z : (g slack : ℤ) (leaf : LeafValue) (clock : Side) (part : GridBox) (m : Measures) (v : ℤ)
    → slack ≡ pos 16 *ℤ g
    → IsMeasured g leaf clock part m → IsOrderedLeaf leaf part
    → IsNearlyReached g leaf.z m.low m.high (m.xl + m.yl) (m.xh + m.yh) v
    → IsTight slack leaf clock (layer 2 part v)
unfolding near_leaf far_leaf
layer_tight_z (negsuc g) slack leaf clock part m v e is o n = absurd (omega (arith, ints, is.grain))
layer_tight_z (pos g) slack leaf clock part m v e is o n = tight_of slack leaf clock (layer 2 part v) _ _ refl refl
    (rw e (tight g (least_range leaf clock) (greatest_range leaf clock) m.least m.most m.low m.high leaf.z v leaf.x leaf.y part.x part.y m.xl m.xh m.yl m.yh
    (near_square leaf (layer 2 part v)) (far_square leaf (layer 2 part v)) (omega (arith, ints, is.grain)) is.wanted is.reach is.x is.y n (omega arith) (omega arith)
    (squares_le leaf (layer 2 part v) o.x o.part_x o.y o.part_y o.z (omega (arith, ints)))))

pub leaf_answer : (g slack : ℤ) (leaf : LeafValue) (clock : Side) (part : GridBox) (m : Measures) (x y z : Side)
    → slack ≡ pos 16 *ℤ g
    → IsMeasured g leaf clock part m → IsOrderedLeaf leaf part
    → IsKept g leaf.x part.x m.low m.high (m.yl + m.zl) (m.yh + m.zh) x
    → IsKept g leaf.y part.y m.low m.high (m.xl + m.zl) (m.xh + m.zh) y
    → IsKept g leaf.z part.z m.low m.high (m.xl + m.yl) (m.xh + m.yh) z
    → IsTightAnswer g slack leaf clock part (Some (record { x = x; y = y; z = z }))
leaf_answer g slack leaf clock part m x y z e is o kx ky kz = (λ axis low'. faces axis low', λ axis low'. same axis low')
  where
    faces : (axis : ℕ) (low' : Bool)
        → IsTight slack leaf clock (layer axis part (face_at axis low' (record { x = x; y = y; z = z })))
    faces zero true = layer_tight_x g slack leaf clock part m x.lo e is o kx.low_tight
    faces zero false = layer_tight_x g slack leaf clock part m x.hi e is o kx.high_tight
    faces (suc zero) true = layer_tight_y g slack leaf clock part m y.lo e is o ky.low_tight
    faces (suc zero) false = layer_tight_y g slack leaf clock part m y.hi e is o ky.high_tight
    faces (suc (suc n)) true = layer_tight_z g slack leaf clock part m z.lo e is o kz.low_tight
    faces (suc (suc n)) false = layer_tight_z g slack leaf clock part m z.hi e is o kz.high_tight

    same : (axis : ℕ) (low' : Bool)
        → IsFaceOf g (face_at axis low' part) (face_at axis low' (record { x = x; y = y; z = z }))
    same zero true = kx.low_face
    same zero false = kx.high_face
    same (suc zero) true = ky.low_face
    same (suc zero) false = ky.high_face
    same (suc (suc n)) true = kz.low_face
    same (suc (suc n)) false = kz.high_face
