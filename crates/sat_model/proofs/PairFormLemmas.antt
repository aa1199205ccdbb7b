-- The two bounds hold wherever a row is possible.
use Rattle.std.proofs.Common.{◌≡◌, ℕ, zero, suc, ◌+◌, ◌*◌, ◌<◌, arith, refl, subst}
use Rattle.std.specs.Prelude.{ℤ, pos, negsuc, ◌+ℤ◌, ◌-ℤ◌, ◌*ℤ◌, neg_ℤ, unsigned_abs, ◌≤ℤ◌, ◌<ℤ◌}
use Rattle.std.proofs.lemmas.Int.{ints}
use Rattle.grid_model.specs.declared.boxes.Pos.{Pos}
use Rattle.sat_model.specs.declared.rows.Row.{Row}
use Rattle.grid_model.specs.declared.spans.Span.{Span}
use Rattle.grid_model.specs.Amounts.{square}
use Rattle.grid_model.specs.Boxes.{Side, GridBox, middle, span_side}
use Rattle.grid_model.specs.Ranges.{range_to}
use Rattle.sat_model.specs.Fitting.{RowValue, IsPossible}
use Rattle.grid_model.specs.Roots.{IsRoot}
use Rattle.grid_model.specs.Sizes.{IsWithin}
use Rattle.grid_model.proofs.AmountLemmas.{above_is}
use Rattle.grid_model.proofs.PointLemmas.{IsInBox}
use Rattle.grid_model.proofs.RootLemmas.{root_is}
use Rattle.grid_model.proofs.RoundingLemmas.{floor_is}
use Rattle.sat_model.specs.Pairs.{scale, half, away, away_square, arm, play, spread, slope, rounding, most, least, upper, lower, FormValue, form_of, tilt}
use Rattle.sat_model.proofs.PairAxisLemmas.{upper_axis, lower_axis, slope_axis, NearProduct, UpTo, From}
use Rattle.sat_model.proofs.CauchyLemmas.{product_below, root_product}
use Rattle.sat_model.proofs.PairBoundLemmas.{upper_numbers, lower_numbers, near_three, upper_end, lower_end}
use Rattle.grid_model.proofs.IntervalLemmas.{back_within}

-- ---- ways from the middles

-- no member of a side is farther from the middle than the high end
pub within_half : (s : Side) (n : ℤ) → s.lo ≤ℤ n → n ≤ℤ s.hi → IsWithin (half s) (n -ℤ middle s)
unfolding half
within_half s n h k = record {
  low = omega (arith, ints, above_is s.hi s.lo, above_is s.hi (middle s));
  high = omega (arith, ints, above_is s.hi s.lo, above_is s.hi (middle s));
}

pub half_is : (s : Side) → s.lo ≤ℤ s.hi → pos (half s) ≡ s.hi -ℤ middle s
unfolding half
half_is s h = omega (arith, ints, above_is s.hi s.lo, above_is s.hi (middle s))

turned : (x y : ℤ) → unsigned_abs (x -ℤ y) ≡ unsigned_abs (y -ℤ x)
turned x y = abs_neg (x -ℤ y) (y -ℤ x) (omega (arith, ints))
  where
    abs_neg : (x y : ℤ) → y ≡ neg_ℤ x → unsigned_abs x ≡ unsigned_abs y
    abs_neg (pos zero) y e = rw e refl
    abs_neg (pos (suc n)) y e = rw e refl
    abs_neg (negsuc n) y e = rw e refl

-- ---- one axis

record AxisBounds (place : Span) (side : Side) (s p : ℤ) : Type 0 where
  upper : UpTo (away place side *ℤ (p -ℤ middle side)) (away place side *ℤ (p -ℤ s)) (square (unsigned_abs (away place side))) (unsigned_abs (away place side) * half (span_side place))
  lower : From (away place side *ℤ (p -ℤ middle side)) (square (unsigned_abs (p -ℤ s))) (square (unsigned_abs (away place side))) (square (half side + half (span_side place))) (unsigned_abs (away place side) * half (span_side place))

axis_bounds : (place : Span) (side : Side) (s p : ℤ) → (place.lo ≤ℤ s) × (s ≤ℤ place.hi)
    → (side.lo ≤ℤ p) × (p ≤ℤ side.hi) → AxisBounds place side s p
unfolding away
axis_bounds place side s p i j =
    let v = middle side -ℤ middle (span_side place) in
    let u = p -ℤ middle side in
    let e = middle (span_side place) -ℤ s in
    let same : v +ℤ (u +ℤ e) ≡ p -ℤ s = joined (middle side) (middle (span_side place)) p s in
    let uw : IsWithin (half side) u = within_half side p j.0 j.1 in
    let ew : IsWithin (half (span_side place)) e = back_within (half (span_side place)) s (middle (span_side place)) (within_half (span_side place) s i.0 i.1) in
    record {
      upper = subst (λ (d : ℤ). UpTo (v *ℤ u) (v *ℤ d) (square (unsigned_abs v)) (unsigned_abs v * half (span_side place))) same (upper_axis v u e (half (span_side place)) ew);
      lower = subst (λ (d : ℤ). From (v *ℤ u) (square (unsigned_abs d)) (square (unsigned_abs v)) (square (half side + half (span_side place))) (unsigned_abs v * half (span_side place))) same (lower_axis v u e (half side) (half (span_side place)) uw ew);
    }
  where
    joined : (m n p s : ℤ) → (m -ℤ n) +ℤ ((p -ℤ m) +ℤ (n -ℤ s)) ≡ p -ℤ s
    joined m n p s = omega (arith, ints)

-- ---- three axes

-- v.u
lead : Row → GridBox → Pos → ℤ
lead row part p =
    (away row.x part.x *ℤ (p.x -ℤ middle part.x)) +ℤ (away row.y part.y *ℤ (p.y -ℤ middle part.y)) +ℤ (away row.z part.z *ℤ (p.z -ℤ middle part.z))

upper_three : (ax ay az dx dy dz : ℤ) (sx sy sz px py pz : ℕ) → UpTo ax dx sx px → UpTo ay dy sy py
    → UpTo az dz sz pz
    → UpTo (ax +ℤ ay +ℤ az) (dx +ℤ dy +ℤ dz) (sx + sy + sz) (px + py + pz)
upper_three ax ay az dx dy dz sx sy sz px py pz h k l = record { holds = omega (arith, ints, h.holds, k.holds, l.holds) }

lower_three : (ax ay az : ℤ) (nx ny nz sx sy sz gx gy gz px py pz : ℕ) → From ax nx sx gx px
    → From ay ny sy gy py → From az nz sz gz pz
    → From (ax +ℤ ay +ℤ az) (nx + ny + nz) (sx + sy + sz) (gx + gy + gz) (px + py + pz)
lower_three ax ay az nx ny nz sx sy sz gx gy gz px py pz h k l = record { holds = omega (arith, ints, h.holds, k.holds, l.holds) }

-- the squared distance, from the place to the point
distance : {row : Row} → RowValue row → Pos → ℕ
distance v p = square (unsigned_abs (p.x -ℤ v.x)) + square (unsigned_abs (p.y -ℤ v.y)) + square (unsigned_abs (p.z -ℤ v.z))

range_is : (row : Row) (v : RowValue row) (p : Pos) → IsRoot (distance v p) (range_to v.x v.y v.z p)
unfolding range_to distance
range_is row v p = rw (turned p.x v.x, turned p.y v.y, turned p.z v.z) (root_is _)

arm_square : (row : Row) (part : GridBox) → away_square row part < arm row part * arm row part
unfolding arm
arm_square row part = (root_is (away_square row part)).next_square_gt

arm_some : (row : Row) (part : GridBox) → 0 < arm row part
unfolding arm
arm_some row part = omega arith

most_holds : (row : Row) (part : GridBox) (p : Pos) (b : ℤ) → IsPossible p b row → IsInBox part p
    → ((pos (arm row part) *ℤ b) +ℤ lead row part p) ≤ℤ most row part
unfolding most lead away_square play distance
most_holds row part p b k i =
    let v = k.value in
    let x = axis_bounds row.x part.x v.x p.x v.x_in i.x in
    let y = axis_bounds row.y part.y v.y p.y v.y_in i.y in
    let z = axis_bounds row.z part.z v.z p.z v.z_in i.z in
    let r = range_to v.x v.y v.z p in
    upper_numbers (arm row part) r b (row.range.hi -ℤ row.err.lo) _ _ _ _
    (upper_three _ _ _ _ _ _ _ _ _ _ _ _ x.upper y.upper z.upper)
    (product_below (away row.x part.x) (away row.y part.y) (away row.z part.z) (p.x -ℤ v.x) (p.y -ℤ v.y) (p.z -ℤ v.z) (arm row part) r (arm_square row part) (range_is row v p))
    (omega (arith, ints, v.measured_in, k.allowed))

least_holds : (row : Row) (part : GridBox) (p : Pos) (b : ℤ) → IsPossible p b row → IsInBox part p
    → least row part ≤ℤ ((pos (2 * arm row part) *ℤ b) +ℤ (lead row part p +ℤ lead row part p))
unfolding least lead away_square play spread distance
least_holds row part p b k i =
    let v = k.value in
    let x = axis_bounds row.x part.x v.x p.x v.x_in i.x in
    let y = axis_bounds row.y part.y v.y p.y v.y_in i.y in
    let z = axis_bounds row.z part.z v.z p.z v.z_in i.z in
    let r = range_to v.x v.y v.z p in
    lower_numbers (arm row part) r b (row.range.lo -ℤ row.err.hi) _ _ _ _ (distance v p)
    (lower_three _ _ _ _ _ _ _ _ _ _ _ _ _ _ _ x.lower y.lower z.lower)
    (root_product (arm row part) (distance v p) r (range_is row v p))
    (omega (arith, ints, v.measured_in, k.allowed))

-- ---- the form

slope_near : (long : ℕ) (place : Span) (side : Side) (p : ℤ) → 0 < long
    → (side.lo ≤ℤ p) × (p ≤ℤ side.hi)
    → NearProduct ((slope long place side *ℤ (p -ℤ middle side)) *ℤ pos long) (pos scale *ℤ (away place side *ℤ (p -ℤ middle side))) (long * half side)
unfolding slope
slope_near long place side p some j =
    slope_axis (pos scale) (away place side) _ (p -ℤ middle side) long (half side) (floor_is (pos scale *ℤ away place side) (pos long) (positive long some)) (within_half side p j.0 j.1)
  where
    positive : (n : ℕ) → 0 < n → pos 0 <ℤ pos n
    positive n h = omega (arith, ints)

positive : (n : ℕ) → 0 < n → pos 0 <ℤ pos n
positive n h = omega (arith, ints)

twice_positive : (n : ℕ) → 0 < n → pos 0 <ℤ pos (2 * n)
twice_positive n h = omega (arith, ints)

tilt_near : (row : Row) (part : GridBox) (p : Pos) → IsInBox part p
    → NearProduct (tilt (form_of part row) part p *ℤ pos (arm row part)) (pos scale *ℤ lead row part p) (arm row part * rounding part)
unfolding form_of lead rounding
tilt_near row part p i = near_three _ _ _
    (away row.x part.x *ℤ (p.x -ℤ middle part.x)) (away row.y part.y *ℤ (p.y -ℤ middle part.y)) (away row.z part.z *ℤ (p.z -ℤ middle part.z)) (pos scale) (arm row part) _ _ _
    (slope_near (arm row part) row.x part.x p.x (arm_some row part) i.x)
    (slope_near (arm row part) row.y part.y p.y (arm_some row part) i.y)
    (slope_near (arm row part) row.z part.z p.z (arm_some row part) i.z)

-- the form holds at the point with the offset
pub record FormHolds (f : FormValue) (part : GridBox) (p : Pos) (b : ℤ) : Type 0 where
  pub up_to : ((pos scale *ℤ b) +ℤ tilt f part p) ≤ℤ f.upper
  pub from : f.lower ≤ℤ ((pos scale *ℤ b) +ℤ tilt f part p)

upper_holds : (row : Row) (part : GridBox) (p : Pos) (b : ℤ) → IsPossible p b row → IsInBox part p
    → ((pos scale *ℤ b) +ℤ tilt (form_of part row) part p) ≤ℤ upper row part
unfolding upper
upper_holds row part p b k i =
    upper_end (arm row part) (pos scale) b (lead row part p) (tilt (form_of part row) part p) (most row part) _ (rounding part)
    (arm_some row part) (omega (arith, ints)) (tilt_near row part p i) (most_holds row part p b k i)
    (floor_is (pos scale *ℤ most row part) (pos (arm row part)) (positive _ (arm_some row part)))

lower_holds : (row : Row) (part : GridBox) (p : Pos) (b : ℤ) → IsPossible p b row → IsInBox part p
    → lower row part ≤ℤ ((pos scale *ℤ b) +ℤ tilt (form_of part row) part p)
unfolding lower
lower_holds row part p b k i =
    lower_end (arm row part) (pos scale) b (lead row part p) (tilt (form_of part row) part p) (least row part) _ (rounding part)
    (arm_some row part) (omega (arith, ints)) (tilt_near row part p i) (least_holds row part p b k i)
    (floor_is (pos scale *ℤ least row part) (pos (2 * arm row part)) (twice_positive _ (arm_some row part)))

upper_is : (row : Row) (part : GridBox) → upper row part ≡ (form_of part row).upper
unfolding form_of
upper_is row part = refl

lower_is : (row : Row) (part : GridBox) → lower row part ≡ (form_of part row).lower
unfolding form_of
lower_is row part = refl

pub form_holds : (row : Row) (part : GridBox) (p : Pos) (b : ℤ) → IsPossible p b row
    → IsInBox part p → FormHolds (form_of part row) part p b
form_holds row part p b k i = record {
  up_to = subst (λ (u : ℤ). ((pos scale *ℤ b) +ℤ tilt (form_of part row) part p) ≤ℤ u) (upper_is row part) (upper_holds row part p b k i);
  from = subst (λ (u : ℤ). u ≤ℤ ((pos scale *ℤ b) +ℤ tilt (form_of part row) part p)) (lower_is row part) (lower_holds row part p b k i);
}
