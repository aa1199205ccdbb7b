-- How far from the origin the places of a chain are: the radius is, and turns keep it.
use Rattle.std.proofs.Common.{◌≡◌, ℕ, ◌+◌, ◌-◌, ◌*◌, ◌^◌, ◌≤◌, arith, sym, ap, ◌∙◌, subst, lit≤}
use Rattle.std.specs.Prelude.{ℤ, pos, ◌+ℤ◌, ◌-ℤ◌, ◌*ℤ◌, ◌≤ℤ◌}
use Rattle.std.proofs.lemmas.Int.{ints}
use lib.IntN.{*ℤ_comm}
use Rattle.grid_model.specs.Angles.{unit}
use Rattle.grid_model.specs.Intervals.{Between, Close}
use Rattle.gnss_model.specs.RecordBounds.{eccentricity_bound, least_root_a, greatest_root_a, radius_swing_bound}
use Rattle.grid_model.specs.Rounding.{Near}
use Rattle.grid_model.specs.Sines.{NearCircle}
use Rattle.grid_model.specs.Sizes.{IsWithin}
use Rattle.grid_model.proofs.ProductLemmas.{mul_mono, distrib, mul_assoc, product_within, swap4}
use Rattle.broadcast_orbit.proofs.Chains.{one_within}
use Rattle.broadcast_orbit.proofs.PairLemmas.{pair_squares, near_squares, times_near, square_natural, first_within, second_within, product_between, Squares}

-- ---- in um: the radius, and how far the squares of other distances may be from its own

abbrev pub least_radius : ℕ
least_radius = 19979 * 10 ^ 9

abbrev pub greatest_radius : ℕ
greatest_radius = 52293 * 10 ^ 9

abbrev plane_slack : ℕ
plane_slack = 10 ^ 15

abbrev pub radius_slack : ℕ
radius_slack = 4 * 10 ^ 15

-- ---- the radius

-- orbits with such roots of the semi-major axis, whose eccentricity is at most that, have such radii
pub record AreRadii (least_root greatest_root eccentricity low high : ℕ) : Type 0 where
  pub axis_low : ℕ
  pub axis_high : ℕ
  pub axis_from : (axis_low + 1) * 10 ^ 18 ≤ least_root * least_root
  pub axis_to : greatest_root * greatest_root + 10 ^ 18 ≤ axis_high * 10 ^ 18
  pub ellipse : eccentricity + 10 ≤ unit
  pub radius_from : (low + 2 * 10 ^ 10 + 2) * unit ≤ axis_low * (unit - eccentricity - 10)
  pub radius_to : axis_high * (unit + eccentricity + 10) + (2 * 10 ^ 10 + 2) * unit ≤ high * unit

pub all_radii : AreRadii least_root_a greatest_root_a eccentricity_bound least_radius greatest_radius
all_radii = record {
  axis_low = 25 * 10 ^ 12 - 1;
  axis_high = 4356 * 10 ^ 10 + 1;
  axis_from = lit≤ tt;
  axis_to = lit≤ tt;
  ellipse = lit≤ tt;
  radius_from = lit≤ tt;
  radius_to = lit≤ tt;
}

axis_by : (low high l h : ℕ) (ss a : ℤ) → (low + 1) * 10 ^ 18 ≤ l → h + 10 ^ 18 ≤ high * 10 ^ 18
    → Between (pos l) (pos h) ss → Near ss (pos (10 ^ 18)) a → Between (pos low) (pos high) a
axis_by low high l h ss a from to p n = record { from = omega (arith, ints, from, p.from, n.above); to = omega (arith, ints, to, p.to, n.below) }

ratio_by : (e : ℕ) (p g : ℤ) → e + 10 ≤ unit → IsWithin (e * (unit + 8)) p
    → Near (pos (unit * unit) -ℤ p) (pos unit) g
    → Between (pos (unit - e - 10)) (pos (unit + e + 10)) g
ratio_by e p g small w n = record { from = omega (arith, ints, small, w.low, w.high, n.above); to = omega (arith, ints, small, w.low, w.high, n.below) }

correction_by : (p q d : ℤ) → IsWithin (radius_swing_bound * (2 * unit)) p
    → IsWithin (radius_swing_bound * (2 * unit)) q → Near (p +ℤ q) (pos unit) d
    → IsWithin (2 * 10 ^ 10 + 1) d
correction_by p q d v w n = record { low = omega (arith, ints, v.low, w.low, n.above); high = omega (arith, ints, v.high, w.high, n.below) }

radius_by : (low high l h : ℕ) (p d r : ℤ) → (low + 2 * 10 ^ 10 + 2) * unit ≤ l
    → h + (2 * 10 ^ 10 + 2) * unit ≤ high * unit → Between (pos l) (pos h) p
    → IsWithin (2 * 10 ^ 10 + 1) d → Near (p +ℤ (d *ℤ pos unit)) (pos unit) r
    → Between (pos low) (pos high) r
radius_by low high l h p d r from to b w n = record { from = omega (arith, ints, from, b.from, w.low, n.above); to = omega (arith, ints, to, b.to, w.high, n.below) }

eccentricity_within : (m : ℕ) (e : ℤ) → pos 0 ≤ℤ e → e ≤ℤ pos m → IsWithin m e
eccentricity_within m e h k = record { low = omega (arith, ints); high = omega (arith, ints) }

pub radius_between : (s0 s1 m low high : ℕ) (s a e c g crs crc s2 c2 dr r : ℤ)
    → AreRadii s0 s1 m low high → Between (pos s0) (pos s1) s → Near (s *ℤ s) (pos (10 ^ 18)) a
    → pos 0 ≤ℤ e → e ≤ℤ pos m → IsWithin (unit + 8) c
    → Near (pos (unit * unit) -ℤ (e *ℤ c)) (pos unit) g →
    IsWithin radius_swing_bound crs → IsWithin radius_swing_bound crc → IsWithin (2 * unit) s2 → IsWithin (2 * unit) c2 → Near ((crs *ℤ s2) +ℤ (crc *ℤ c2)) (pos unit) dr → Near ((a *ℤ g) +ℤ (dr *ℤ pos unit)) (pos unit) r → Between (pos low) (pos high) r
radius_between s0 s1 m low high s a e c g crs crc s2 c2 dr r radii b na h k w ng ws wc v2 w2 nd nr =
    let axis = axis_by radii.axis_low radii.axis_high (s0 * s0) (s1 * s1) (s *ℤ s) a radii.axis_from radii.axis_to (product_between s0 s1 s0 s1 s s b b) na in
    let ratio = ratio_by m (e *ℤ c) g radii.ellipse (product_within m (unit + 8) e c (eccentricity_within m e h k) w) ng in
    radius_by low high (radii.axis_low * (unit - m - 10)) (radii.axis_high * (unit + m + 10)) (a *ℤ g) dr r radii.radius_from radii.radius_to
    (product_between radii.axis_low radii.axis_high (unit - m - 10) (unit + m + 10) a g axis ratio)
    (correction_by (crs *ℤ s2) (crc *ℤ c2) dr (product_within radius_swing_bound (2 * unit) crs s2 ws v2) (product_within radius_swing_bound (2 * unit) crc c2 wc w2) nd) nr

-- ---- in the plane

turns_of : (t0 t1 : ℕ) (z T : ℤ) → pos 0 ≤ℤ z → Between (pos t0) (pos t1) T
    → ((pos t0 *ℤ z) ≤ℤ (z *ℤ T)) × ((z *ℤ T) ≤ℤ (pos t1 *ℤ z))
turns_of t0 t1 z T h b = (rw (*ℤ_comm z T) (mul_mono (pos t0) T z b.from h), rw (*ℤ_comm z T) (mul_mono T (pos t1) z b.to h))

radius_within : (r : ℤ) → Between (pos least_radius) (pos greatest_radius) r
    → IsWithin greatest_radius r
radius_within r b = record { low = omega (arith, ints, b.from); high = omega (arith, ints, b.to) }

abbrev plane_slip : ℕ
plane_slip = unit * (unit + 2 * (greatest_radius * (2 * unit)))

-- rr is the square of the radius
plane_by : (rr xx yy X Y P Q W : ℤ) → X ≡ xx *ℤ pos (unit * unit) → Y ≡ yy *ℤ pos (unit * unit)
    → IsWithin plane_slip (X -ℤ P) → IsWithin plane_slip (Y -ℤ Q) → P +ℤ Q ≡ W
    → rr ≤ℤ pos (greatest_radius * greatest_radius) →
    (pos (unit * unit - 400 * unit) *ℤ rr) ≤ℤ W → W ≤ℤ (pos (unit * unit + 400 * unit) *ℤ rr) → Close plane_slack rr (xx +ℤ yy)
plane_by rr xx yy X Y P Q W e f v w g most low high = record { below = omega (arith, ints, v.low, w.low, low, most); above = omega (arith, ints, v.high, w.high, high, most) }

pub plane_near : (r c s x y : ℤ) → Between (pos least_radius) (pos greatest_radius) r
    → Squares (unit * unit - 400 * unit) (unit * unit + 400 * unit) c s → Near (r *ℤ c) (pos unit) x
    → Near (r *ℤ s) (pos unit) y → Close plane_slack (r *ℤ r) ((x *ℤ x) +ℤ (y *ℤ y))
plane_near r c s x y b u n m =
    let C = first_within (2 * unit) (unit * unit - 400 * unit) (unit * unit + 400 * unit) c s (lit≤ tt) u in
    let S = second_within (2 * unit) (unit * unit - 400 * unit) (unit * unit + 400 * unit) c s (lit≤ tt) u in
    let R = radius_within r b in
    let v = near_squares (x *ℤ pos unit) (r *ℤ c) unit (greatest_radius * (2 * unit)) (times_near (r *ℤ c) (pos unit) x unit (record { le = tt }) n) (product_within greatest_radius (2 * unit) r c R C) in
    let w = near_squares (y *ℤ pos unit) (r *ℤ s) unit (greatest_radius * (2 * unit)) (times_near (r *ℤ s) (pos unit) y unit (record { le = tt }) m) (product_within greatest_radius (2 * unit) r s R S) in
    let e : ((r *ℤ c) *ℤ (r *ℤ c)) +ℤ ((r *ℤ s) *ℤ (r *ℤ s)) ≡ (r *ℤ r) *ℤ ((c *ℤ c) +ℤ (s *ℤ s)) = ap (λ (z : ℤ). z +ℤ ((r *ℤ s) *ℤ (r *ℤ s))) (swap4 r r c c) ∙ ap (λ (z : ℤ). ((r *ℤ r) *ℤ (c *ℤ c)) +ℤ z) (swap4 r r s s) ∙ sym (distrib (r *ℤ r) (c *ℤ c) (s *ℤ s)) in
    let t = turns_of (unit * unit - 400 * unit) (unit * unit + 400 * unit) (r *ℤ r) ((c *ℤ c) +ℤ (s *ℤ s)) (square_natural r) u in
    plane_by (r *ℤ r) (x *ℤ x) (y *ℤ y) ((x *ℤ pos unit) *ℤ (x *ℤ pos unit)) ((y *ℤ pos unit) *ℤ (y *ℤ pos unit)) ((r *ℤ c) *ℤ (r *ℤ c)) ((r *ℤ s) *ℤ (r *ℤ s)) ((r *ℤ r) *ℤ ((c *ℤ c) +ℤ (s *ℤ s)))
    (swap4 x x (pos unit) (pos unit)) (swap4 y y (pos unit) (pos unit)) v w e (product_between least_radius greatest_radius least_radius greatest_radius r r b b).to t.0 t.1

-- ---- in the earth-fixed frame

abbrev side : ℕ
side = 53 * 10 ^ 12

abbrev turn_low : ℕ
turn_low = unit * unit - 16 * unit

abbrev turn_high : ℕ
turn_high = unit * unit + 16 * unit

-- how far a coordinate that two turns make may be from the axes, in um
abbrev level : ℕ
level = 4 * 10 ^ 14

abbrev level_slip : ℕ
level_slip = unit * unit * (unit * unit + 2 * (level * (unit * unit)))

abbrev height_slip : ℕ
height_slip = unit * (unit + 2 * (side * (2 * unit)))

pub circle_squares : (s c : ℤ) → NearCircle s c → Squares turn_low turn_high c s
circle_squares s c n = record { from = omega (arith, ints, n.below, n.above); to = omega (arith, ints, n.below, n.above) }

-- rr is the square of the radius, xx and yy are squares, B and D are y^2 cos^2 i and y^2 sin^2 i, T is the sum of the
-- squares of the cosine and the sine of the node, and X, Y and Z are the squares of the coordinates
space_by : (rr xx yy B D HT P Q X Y Z : ℤ) → pos 0 ≤ℤ xx → pos 0 ≤ℤ yy → pos 0 ≤ℤ D
    → rr ≤ℤ pos (greatest_radius * greatest_radius) → Close plane_slack rr (xx +ℤ yy)
    → (pos turn_low *ℤ yy) ≤ℤ (B +ℤ D) → (B +ℤ D) ≤ℤ (pos turn_high *ℤ yy) →
    (pos turn_low *ℤ ((pos (unit * unit) *ℤ xx) +ℤ B)) ≤ℤ HT → HT ≤ℤ (pos turn_high *ℤ ((pos (unit * unit) *ℤ xx) +ℤ B)) → P +ℤ Q ≡ HT →
    IsWithin level_slip ((X *ℤ pos (unit * unit * (unit * unit))) -ℤ P) → IsWithin level_slip ((Y *ℤ pos (unit * unit * (unit * unit))) -ℤ Q) → IsWithin height_slip ((Z *ℤ pos (unit * unit)) -ℤ D) → Close radius_slack rr (X +ℤ Y +ℤ Z)
space_by rr xx yy B D HT P Q X Y Z hx hy hd most b bl bh tl th e v w u = record { below = omega (arith, ints, b.below, v.low, w.low, u.low); above = omega (arith, ints, b.above, v.high, w.high, u.high) }

swap_unit : (x c : ℤ) → (x *ℤ c) *ℤ pos unit ≡ (x *ℤ pos unit) *ℤ c
swap_unit x c = mul_assoc x c (pos unit) ∙ ap (λ (z : ℤ). x *ℤ z) (*ℤ_comm c (pos unit)) ∙ sym (mul_assoc x (pos unit) c)

within_side : (rr xx yy : ℤ) → rr ≤ℤ pos (greatest_radius * greatest_radius)
    → Close plane_slack rr (xx +ℤ yy) → pos 0 ≤ℤ (xx +ℤ yy)
    → Between (pos 0) (pos (side * side)) (xx +ℤ yy)
within_side rr xx yy most b some = record { from = some; to = omega (arith, ints, b.above) }

some_square : (x y : ℤ) → pos 0 ≤ℤ ((x *ℤ x) +ℤ (y *ℤ y))
some_square x y = omega (arith, ints, square_natural x, square_natural y)

level_within : (p q : ℤ) → IsWithin (side * unit * (2 * unit)) p
    → IsWithin (side * (2 * unit) * (2 * unit)) q → IsWithin (level * (unit * unit)) (p +ℤ q)
level_within p q v w = record { low = omega (arith, ints, v.low, w.low); high = omega (arith, ints, v.high, w.high) }

level_apart : (p q : ℤ) → IsWithin (side * unit * (2 * unit)) p
    → IsWithin (side * (2 * unit) * (2 * unit)) q → IsWithin (level * (unit * unit)) (p -ℤ q)
level_apart p q v w = record { low = omega (arith, ints, v.low, w.high); high = omega (arith, ints, v.high, w.low) }

sum_natural : (x B : ℤ) → pos 0 ≤ℤ x → pos 0 ≤ℤ B → pos 0 ≤ℤ ((pos (unit * unit) *ℤ x) +ℤ B)
sum_natural x B h k = omega (arith, ints)

product_natural : (x y : ℤ) → pos 0 ≤ℤ x → pos 0 ≤ℤ y → pos 0 ≤ℤ (x *ℤ y)
product_natural x y h k = let p : (pos 0 *ℤ y) ≤ℤ (x *ℤ y) = mul_mono (pos 0) x y h k in omega (arith, ints)

commuted : (p q : ℤ) → p +ℤ q ≡ q +ℤ p
commuted p q = omega (arith, ints)

pub space_near : (rr x y ci si co so X Y Z : ℤ) → rr ≤ℤ pos (greatest_radius * greatest_radius)
    → Close plane_slack rr ((x *ℤ x) +ℤ (y *ℤ y)) → NearCircle si ci → NearCircle so co
    → Near (((x *ℤ co) *ℤ pos unit) -ℤ ((y *ℤ ci) *ℤ so)) (pos (unit * unit)) X
    → Near (((x *ℤ so) *ℤ pos unit) +ℤ ((y *ℤ ci) *ℤ co)) (pos (unit * unit)) Y
    → Near (y *ℤ si) (pos unit) Z → Close radius_slack rr ((X *ℤ X) +ℤ (Y *ℤ Y) +ℤ (Z *ℤ Z))
space_near rr x y ci si co so X Y Z most s i o nx ny nz =
    let I = circle_squares si ci i in
    let O = circle_squares so co o in
    let sides = within_side rr (x *ℤ x) (y *ℤ y) most s (some_square x y) in
    let vx = first_within side 0 (side * side) x y (lit≤ tt) sides in
    let vy = second_within side 0 (side * side) x y (lit≤ tt) sides in
    let vci = first_within (2 * unit) turn_low turn_high ci si (lit≤ tt) I in
    let vsi = second_within (2 * unit) turn_low turn_high ci si (lit≤ tt) I in
    let vco = first_within (2 * unit) turn_low turn_high co so (lit≤ tt) O in
    let vso = second_within (2 * unit) turn_low turn_high co so (lit≤ tt) O in
    let a = x *ℤ pos unit in
    let b = y *ℤ ci in
    let va = product_within side unit x (pos unit) vx one_within in
    let vb = product_within side (2 * unit) y ci vy vci in
    let P = (a *ℤ co) -ℤ (b *ℤ so) in
    let Q = (b *ℤ co) +ℤ (a *ℤ so) in
    let mx : Near P (pos (unit * unit)) X = subst (λ (z : ℤ). Near (z -ℤ (b *ℤ so)) (pos (unit * unit)) X) (swap_unit x co) nx in
    let my : Near Q (pos (unit * unit)) Y = subst (λ (z : ℤ). Near z (pos (unit * unit)) Y) (commuted (a *ℤ so) (b *ℤ co)) (subst (λ (z : ℤ). Near (z +ℤ (b *ℤ co)) (pos (unit * unit)) Y) (swap_unit x so) ny) in
    let wP : IsWithin (level * (unit * unit)) P = level_apart (a *ℤ co) (b *ℤ so) (product_within (side * unit) (2 * unit) a co va vco) (product_within (side * (2 * unit)) (2 * unit) b so vb vso) in
    let wQ : IsWithin (level * (unit * unit)) Q = subst (λ (z : ℤ). IsWithin (level * (unit * unit)) z) (commuted (a *ℤ so) (b *ℤ co)) (level_within (a *ℤ so) (b *ℤ co) (product_within (side * unit) (2 * unit) a so va vso) (product_within (side * (2 * unit)) (2 * unit) b co vb vco)) in
    let u = near_squares (X *ℤ pos (unit * unit)) P (unit * unit) (level * (unit * unit)) (times_near P (pos (unit * unit)) X (unit * unit) (record { le = tt }) mx) wP in
    let v = near_squares (Y *ℤ pos (unit * unit)) Q (unit * unit) (level * (unit * unit)) (times_near Q (pos (unit * unit)) Y (unit * unit) (record { le = tt }) my) wQ in
    let w = near_squares (Z *ℤ pos unit) (y *ℤ si) unit (side * (2 * unit)) (times_near (y *ℤ si) (pos unit) Z unit (record { le = tt }) nz) (product_within side (2 * unit) y si vy vsi) in
    let xx = x *ℤ x in
    let yy = y *ℤ y in
    let B = yy *ℤ (ci *ℤ ci) in
    let D = yy *ℤ (si *ℤ si) in
    let hx = square_natural x in
    let hy = square_natural y in
    let hB = product_natural yy (ci *ℤ ci) hy (square_natural ci) in
    let hD = product_natural yy (si *ℤ si) hy (square_natural si) in
    let F = turns_of turn_low turn_high yy ((ci *ℤ ci) +ℤ (si *ℤ si)) hy I in
    let H = (pos (unit * unit) *ℤ xx) +ℤ B in
    let G = turns_of turn_low turn_high H ((co *ℤ co) +ℤ (so *ℤ so)) (sum_natural xx B hx hB) O in
    let ea : a *ℤ a ≡ pos (unit * unit) *ℤ xx = swap4 x x (pos unit) (pos unit) ∙ *ℤ_comm xx (pos (unit * unit)) in
    let eb : b *ℤ b ≡ B = swap4 y y ci ci in
    let e : (P *ℤ P) +ℤ (Q *ℤ Q) ≡ H *ℤ ((co *ℤ co) +ℤ (so *ℤ so)) = pair_squares a b co so ∙ ap (λ (z : ℤ). (z +ℤ (b *ℤ b)) *ℤ ((co *ℤ co) +ℤ (so *ℤ so))) ea ∙ ap (λ (z : ℤ). ((pos (unit * unit) *ℤ xx) +ℤ z) *ℤ ((co *ℤ co) +ℤ (so *ℤ so))) eb in
    let f : yy *ℤ ((ci *ℤ ci) +ℤ (si *ℤ si)) ≡ B +ℤ D = distrib yy (ci *ℤ ci) (si *ℤ si) in
    space_by rr xx yy B D (H *ℤ ((co *ℤ co) +ℤ (so *ℤ so))) (P *ℤ P) (Q *ℤ Q) (X *ℤ X) (Y *ℤ Y) (Z *ℤ Z) hx hy hD most s
    (subst (λ (z : ℤ). (pos turn_low *ℤ yy) ≤ℤ z) f F.0) (subst (λ (z : ℤ). z ≤ℤ (pos turn_high *ℤ yy)) f F.1) G.0 G.1 e
    (subst (λ (z : ℤ). IsWithin level_slip (z -ℤ (P *ℤ P))) (swap4 X X (pos (unit * unit)) (pos (unit * unit))) u)
    (subst (λ (z : ℤ). IsWithin level_slip (z -ℤ (Q *ℤ Q))) (swap4 Y Y (pos (unit * unit)) (pos (unit * unit))) v)
    (subst (λ (z : ℤ). IsWithin height_slip (z -ℤ D)) (swap4 Z Z (pos unit) (pos unit)) (subst (λ (z : ℤ). IsWithin height_slip (((Z *ℤ pos unit) *ℤ (Z *ℤ pos unit)) -ℤ z)) (swap4 y y si si) w))
