-- Every place of a chain is between two distances from the origin, and so is what is near to it.
use Rattle.std.proofs.Common.{◌≡◌, ℕ, ◌+◌, ◌-◌, ◌*◌, ◌^◌, arith, ap, ◌∙◌, subst, lit≤}
use Rattle.std.specs.Prelude.{ℤ, pos, neg_ℤ, ◌+ℤ◌, ◌-ℤ◌, ◌*ℤ◌, ◌≤ℤ◌}
use Rattle.std.proofs.lemmas.Int.{ints}
use lib.IntN.{*ℤ_comm}
use Rattle.grid_model.specs.Angles.{unit}
use Rattle.grid_model.specs.Intervals.{Between, Close, Ends}
use Rattle.gnss_model.specs.OrbitChain.{OrbitChain}
use Rattle.gnss_model.specs.RecordBounds.{LiesFrom, IsValue, eccentricity_bound, least_root_a, greatest_root_a, radius_swing_bound}
use Rattle.grid_model.specs.Rounding.{Near}
use Rattle.grid_model.specs.Sizes.{IsWithin}
use Rattle.gnss_model.specs.declared.elements.Elements.{Elements}
use Rattle.grid_model.specs.declared.spans.Wide.{Wide}
use Rattle.grid_model.proofs.ProductLemmas.{add_mul}
use Rattle.interval_trig.proofs.CircleLaw.{sine_and_cosine}
use Rattle.interval_trig.proofs.Smoothness.{sine_value_small, cosine_value_small}
use Rattle.broadcast_orbit.specs.OrbitSizes.{eccentricity_amount, place_amount, place_width, coordinate_amount, least_distance, greatest_distance, IsOrbitDistance}
use Rattle.broadcast_orbit.proofs.PairLemmas.{pair_near, near_squares, product_between, square_natural, side_within, first_within, second_within, Squares}
use Rattle.broadcast_orbit.proofs.TrueSquares.{true_squares}
use Rattle.broadcast_orbit.proofs.Distances.{AreRadii, all_radii, least_radius, greatest_radius, radius_slack, circle_squares, radius_between, plane_near, space_near}
use Rattle.grid_model.proofs.IntervalLemmas.{members_within as apart}

-- ---- numbers of a field

value_between : (low high x l h : ℤ) → low ≤ℤ l → h ≤ℤ high → Between l h x → Between low high x
value_between low high x l h p q b = record { from = omega (arith, ints, b.from); to = omega (arith, ints, b.to) }

in_range : (low high : ℤ) (w : Wide) (x : ℤ) → LiesFrom low high w → IsValue w x
    → Between low high x
in_range low high w x l b = value_between low high x w.lo w.hi l.from l.to b

within_of : (n : ℕ) (x : ℤ) → Between (neg_ℤ (pos n)) (pos n) x → IsWithin n x
within_of n x b = record { low = b.from; high = b.to }

less_eccentric : (e : ℤ) → e ≤ℤ pos eccentricity_bound → e ≤ℤ pos eccentricity_amount
less_eccentric e h = omega (arith, ints)

double_is : (s c : ℤ) → (pos 2 *ℤ s) *ℤ c ≡ (s *ℤ c) +ℤ (c *ℤ s)
double_is s c =
    let e : pos 2 *ℤ s ≡ s +ℤ s = omega (arith, ints) in
    ap (λ (z : ℤ). z *ℤ c) e ∙ add_mul s s c ∙ ap (λ (z : ℤ). (s *ℤ c) +ℤ z) (*ℤ_comm s c)

-- ---- the chain

-- sines and cosines on the way to the radius, in 10^-16
record AreTurns (el : Elements) (n t x y z : ℤ) (o : OrbitChain el n t x y z) : Type 0 where
  e_from : pos 0 ≤ℤ o.f.e
  anomaly : IsWithin (unit + 8) o.anomaly.cos_e
  twice : Squares (unit * unit - 700 * unit) (unit * unit + 700 * unit) o.latitude.cos_twice o.latitude.sin_twice
  latitude : Squares (unit * unit - 400 * unit) (unit * unit + 400 * unit) o.cos_u o.sin_u

chain_turns : (el : Elements) (n t x y z : ℤ) → (o : OrbitChain el n t x y z)
    → AreTurns el n t x y z o
chain_turns el n t x y z o =
    let f = o.f in
    let F = o.fields in
    let a = o.anomaly in
    let l = o.latitude in
    let eb = in_range (pos 0) (pos eccentricity_bound) el.e f.e el.e_within F.e_is in
    let wc = cosine_value_small a.eccentric a.cos_e a.cos_e_is in
    let ws = sine_value_small a.eccentric a.sin_e a.sin_e_is in
    let v = true_squares f.e a.cos_e a.sin_e o.ratio o.cos_v o.sin_v a.flatness eb.from (less_eccentric f.e eb.to) wc ws (sine_and_cosine a.eccentric a.sin_e a.cos_e a.sin_e_is a.cos_e_is) a.flatness_low a.flatness_high a.ratio_is a.cos_v_is a.sin_v_is in
    let om = circle_squares l.sin_omega l.cos_omega (sine_and_cosine f.omega l.sin_omega l.cos_omega l.sin_omega_is l.cos_omega_is) in
    let phi = pair_near (unit * unit - 200 * unit) (unit * unit + 200 * unit) (unit * unit - 16 * unit) (unit * unit + 16 * unit) (unit * unit - 300 * unit) (unit * unit + 300 * unit) o.cos_v o.sin_v l.cos_omega l.sin_omega l.cos_phi l.sin_phi v om l.cos_phi_is l.sin_phi_is (lit≤ tt) (lit≤ tt) (lit≤ tt) (lit≤ tt) in
    let tw = pair_near (unit * unit - 300 * unit) (unit * unit + 300 * unit) (unit * unit - 300 * unit) (unit * unit + 300 * unit) (unit * unit - 700 * unit) (unit * unit + 700 * unit) l.cos_phi l.sin_phi l.cos_phi l.sin_phi l.cos_twice l.sin_twice phi phi l.cos_twice_is (subst (λ (z : ℤ). Near z (pos unit) l.sin_twice) (double_is l.sin_phi l.cos_phi) l.sin_twice_is) (lit≤ tt) (lit≤ tt) (lit≤ tt) (lit≤ tt) in
    let du = circle_squares l.sin_du l.cos_du (sine_and_cosine l.du l.sin_du l.cos_du l.sin_du_is l.cos_du_is) in
    let u = pair_near (unit * unit - 300 * unit) (unit * unit + 300 * unit) (unit * unit - 16 * unit) (unit * unit + 16 * unit) (unit * unit - 400 * unit) (unit * unit + 400 * unit) l.cos_phi l.sin_phi l.cos_du l.sin_du o.cos_u o.sin_u phi du l.cos_u_is l.sin_u_is (lit≤ tt) (lit≤ tt) (lit≤ tt) (lit≤ tt) in
    record { e_from = eb.from; anomaly = wc; twice = tw; latitude = u }

-- the radius of an orbit whose fields lie in such ranges
pub chain_radius : (s0 s1 m low high : ℕ) (el : Elements) (n t x y z : ℤ)
    → AreRadii s0 s1 m low high → (o : OrbitChain el n t x y z)
    → Between (pos s0) (pos s1) o.f.root_a → o.f.e ≤ℤ pos m → Between (pos low) (pos high) o.radius
chain_radius s0 s1 m low high el n t x y z radii o root most =
    let f = o.f in
    let F = o.fields in
    let a = o.anomaly in
    let l = o.latitude in
    let p = o.in_plane in
    let turns = chain_turns el n t x y z o in
    radius_between s0 s1 m low high f.root_a p.axis f.e a.cos_e o.ratio f.crs f.crc l.sin_twice l.cos_twice o.dr o.radius radii root p.axis_is turns.e_from most turns.anomaly a.ratio_is
    (within_of radius_swing_bound f.crs (in_range (neg_ℤ (pos radius_swing_bound)) (pos radius_swing_bound) el.crs f.crs el.crs_within F.crs_is)) (within_of radius_swing_bound f.crc (in_range (neg_ℤ (pos radius_swing_bound)) (pos radius_swing_bound) el.crc f.crc el.crc_within F.crc_is))
    (second_within (2 * unit) (unit * unit - 700 * unit) (unit * unit + 700 * unit) l.cos_twice l.sin_twice (lit≤ tt) turns.twice) (first_within (2 * unit) (unit * unit - 700 * unit) (unit * unit + 700 * unit) l.cos_twice l.sin_twice (lit≤ tt) turns.twice) l.swings.dr_is p.radius_is

any_radius : (el : Elements) (n t x y z : ℤ) → (o : OrbitChain el n t x y z)
    → Between (pos least_radius) (pos greatest_radius) o.radius
any_radius el n t x y z o =
    let F = o.fields in
    let e = in_range (pos 0) (pos eccentricity_bound) el.e o.f.e el.e_within F.e_is in
    let root = in_range (pos least_root_a) (pos greatest_root_a) el.root_a o.f.root_a el.root_a_within F.root_a_is in
    chain_radius least_root_a greatest_root_a eccentricity_bound least_radius greatest_radius el n t x y z all_radii o root e.to

-- a place is as far from the origin as its radius is long
pub chain_keeps_radius : (el : Elements) (n t x y z : ℤ) → (o : OrbitChain el n t x y z)
    → Close radius_slack (o.radius *ℤ o.radius) ((x *ℤ x) +ℤ (y *ℤ y) +ℤ (z *ℤ z))
chain_keeps_radius el n t x y z o =
    let p = o.in_plane in
    let e = o.earth_fixed in
    let r = any_radius el n t x y z o in
    let turns = chain_turns el n t x y z o in
    space_near (o.radius *ℤ o.radius) o.plane_x o.plane_y e.cos_i e.sin_i e.cos_node e.sin_node x y z (product_between least_radius greatest_radius least_radius greatest_radius o.radius o.radius r r).to (plane_near o.radius o.cos_u o.sin_u o.plane_x o.plane_y r turns.latitude p.x_is p.y_is)
    (sine_and_cosine e.inclination e.sin_i e.cos_i e.sin_i_is e.cos_i_is) (sine_and_cosine e.node e.sin_node e.cos_node e.sin_node_is e.cos_node_is) e.x_is e.y_is e.z_is

abbrev space_low : ℕ
space_low = (19978 * 10 ^ 9) * (19978 * 10 ^ 9)

abbrev space_high : ℕ
space_high = (52294 * 10 ^ 9) * (52294 * 10 ^ 9)

distance_by : (rr v : ℤ)
    → Between (pos (least_radius * least_radius)) (pos (greatest_radius * greatest_radius)) rr
    → Close radius_slack rr v → Between (pos space_low) (pos space_high) v
distance_by rr v b c = record { from = omega (arith, ints, b.from, c.below); to = omega (arith, ints, b.to, c.above) }

chain_distance : (el : Elements) (n t x y z : ℤ) → OrbitChain el n t x y z
    → Between (pos space_low) (pos space_high) ((x *ℤ x) +ℤ (y *ℤ y) +ℤ (z *ℤ z))
chain_distance el n t x y z o =
    let r = any_radius el n t x y z o in
    distance_by (o.radius *ℤ o.radius) ((x *ℤ x) +ℤ (y *ℤ y) +ℤ (z *ℤ z)) (product_between least_radius greatest_radius least_radius greatest_radius o.radius o.radius r r) (chain_keeps_radius el n t x y z o)

wider_distance : (v : ℤ) → Between (pos space_low) (pos space_high) v
    → Between (pos (least_distance * least_distance)) (pos (greatest_distance * greatest_distance)) v
wider_distance v b = record { from = omega (arith, ints, b.from); to = omega (arith, ints, b.to) }

pub orbit_distance : (el : Elements) (n t x y z : ℤ) → OrbitChain el n t x y z
    → IsOrbitDistance x y z
orbit_distance el n t x y z o = wider_distance ((x *ℤ x) +ℤ (y *ℤ y) +ℤ (z *ℤ z)) (chain_distance el n t x y z o)

-- ---- what is near

abbrev side : ℕ
side = 53 * 10 ^ 12

sides_of : (x y z : ℤ) → Between (pos space_low) (pos space_high) ((x *ℤ x) +ℤ (y *ℤ y) +ℤ (z *ℤ z))
    → IsWithin side x × IsWithin side y × IsWithin side z
sides_of x y z b =
    let t = b.to in
    let p = square_natural x in
    let q = square_natural y in
    let r = square_natural z in
    (side_within side x (omega (arith, ints)), side_within side y (omega (arith, ints)), side_within side z (omega (arith, ints)))

abbrev shift : ℕ
shift = place_width * (place_width + 2 * side)

shifted : (a b c A B C : ℤ) → IsWithin shift (a -ℤ A) → IsWithin shift (b -ℤ B)
    → IsWithin shift (c -ℤ C) → Between (pos space_low) (pos space_high) (A +ℤ B +ℤ C)
    → Between (pos (least_distance * least_distance)) (pos (greatest_distance * greatest_distance)) (a +ℤ b +ℤ c)
shifted a b c A B C u v w d = record { from = omega (arith, ints, u.low, v.low, w.low, d.from); to = omega (arith, ints, u.high, v.high, w.high, d.to) }

pub near_distance : (el : Elements) (n t X Y Z x y z xl xh yl yh zl zh : ℤ)
    → OrbitChain el n t X Y Z → Ends place_amount place_width xl xh
    → Ends place_amount place_width yl yh → Ends place_amount place_width zl zh → Between xl xh X
    → Between yl yh Y → Between zl zh Z → Between xl xh x → Between yl yh y → Between zl zh z
    → IsOrbitDistance x y z
near_distance el n t X Y Z x y z xl xh yl yh zl zh o e f g P Q R p q r =
    let d = chain_distance el n t X Y Z o in
    let s = sides_of X Y Z d in
    shifted (x *ℤ x) (y *ℤ y) (z *ℤ z) (X *ℤ X) (Y *ℤ Y) (Z *ℤ Z)
    (near_squares x X place_width side (apart place_amount place_width xl xh x X e p P) s.0) (near_squares y Y place_width side (apart place_amount place_width yl yh y Y f q Q) s.1) (near_squares z Z place_width side (apart place_amount place_width zl zh z Z g r R) s.2) d

reach_of : (l h x : ℤ) → Ends place_amount place_width l h → Between l h x → IsWithin side x
    → Ends coordinate_amount (2 * coordinate_amount) l h
reach_of l h x e p w = let o = e.order in let d = e.width in record { order = o; low = record { low = omega (arith, ints, p.from, p.to, w.low, w.high); high = omega (arith, ints, p.from, p.to, w.low, w.high) }; high = record { low = omega (arith, ints, p.from, p.to, w.low, w.high); high = omega (arith, ints, p.from, p.to, w.low, w.high) }; width = omega (arith, ints) }

pub near_sizes : (el : Elements) (n t X Y Z xl xh yl yh zl zh : ℤ) → OrbitChain el n t X Y Z
    → Ends place_amount place_width xl xh → Ends place_amount place_width yl yh
    → Ends place_amount place_width zl zh → Between xl xh X → Between yl yh Y → Between zl zh Z
    → Ends coordinate_amount (2 * coordinate_amount) xl xh × Ends coordinate_amount (2 * coordinate_amount) yl yh × Ends coordinate_amount (2 * coordinate_amount) zl zh
near_sizes el n t X Y Z xl xh yl yh zl zh o e f g P Q R = let s = sides_of X Y Z (chain_distance el n t X Y Z o) in (reach_of xl xh X e P s.0, reach_of yl yh Y f Q s.1, reach_of zl zh Z g R s.2)
