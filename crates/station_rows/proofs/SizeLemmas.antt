-- The pseudorange of a single difference is within 55,600 km: by the satellite's clock offset, the
-- range to its place, and what the two pseudoranges differ by.
use Rattle.std.proofs.Common.{◌≡◌, ℕ, ◌+◌, ◌-◌, ◌*◌, ◌^◌, ◌≤◌, arith, lit≤, subst}
use Rattle.std.specs.Prelude.{ℤ, pos, neg_ℤ, ◌+ℤ◌, ◌-ℤ◌, ◌*ℤ◌, ◌≤ℤ◌, Bool, true, false, Option, None, Some, unsigned_abs, nat_abs}
use Rattle.std.proofs.lemmas.Int.{ints}
use Rattle.gnss_model.specs.ChainValues.{Observed, ChainValue}
use Rattle.gnss_model.specs.ClockChain.{ClockChainOf, IsAdvanced, less_delay}
use Rattle.gnss_model.specs.EarthModel.{rate_scale, relativity}
use Rattle.gnss_model.specs.OrbitChain.{OrbitChain}
use Rattle.gnss_model.specs.Pseudorange.{IsSent, IsCorrected, IsRangeOf, IsRangeWith}
use Rattle.gnss_model.specs.RecordBounds.{IsField, IsValue, eccentricity_bound, least_root_a, offset_bound, drift_bound, ageing_bound, delay_bound}
use Rattle.gnss_model.specs.Systems.{relativity_of}
use Rattle.gnss_model.specs.Turn.{Turn}
use Rattle.gnss_model.specs.declared.elements.Elements.{Elements}
use Rattle.gnss_model.specs.declared.systems.System.{System}
use Rattle.gnss_model.specs.declared.systems.System.TheVariants.{Gps, Galileo}
use Rattle.gnss_model.specs.declared.systems.Message.TheVariants.{Fnav, Inav}
use Rattle.grid_model.specs.Amounts.{square}
use Rattle.grid_model.specs.Angles.{unit}
use Rattle.grid_model.specs.Intervals.{Between, Close}
use Rattle.grid_model.specs.Ranges.{range_to}
use Rattle.grid_model.specs.Rounding.{Near}
use Rattle.grid_model.specs.Sizes.{IsWithin}
use Rattle.grid_model.specs.declared.boxes.Pos.{Pos}
use Rattle.grid_model.specs.declared.spans.Wide.{Wide}
use Rattle.grid_model.proofs.ProductLemmas.{larger, product_within, square_of_amount, swap4}
use Rattle.grid_model.proofs.RootLemmas.{root_le}
use Rattle.interval_trig.proofs.Smoothness.{sine_value_small}
use Rattle.broadcast_orbit.proofs.ChainDistance.{chain_radius, chain_keeps_radius}
use Rattle.broadcast_orbit.proofs.Distances.{AreRadii, least_radius, radius_slack}
use Rattle.broadcast_orbit.proofs.PairLemmas.{square_of_sum, square_of_difference, square_natural, product_between}
use Rattle.broadcast_orbit.proofs.TurnKeeps.{turn_keeps, IsTurnBound}
use Rattle.sat_rows.specs.Chains.{Chain}
use Rattle.error_bounds.specs.Sizes.{IsNearGround, station_reach}
use Rattle.station_rows.specs.Differences.{CommonView, IsDifferenceOf}
use Rattle.station_rows.specs.Nearby.{HasNearRecord, AreNearby, ArePlausibleCodes, medium_root_a, clock_time_reach, pseudoranges_apart, difference_reach}
use Rattle.station_rows.proofs.NearbyLemmas.{near_ranges}
use Rattle.usable_sats.specs.Usability.{ArePlausible, ArePlausibleWith}

-- ---- the pseudorange

abbrev range_reach : ℕ
range_reach = 41 * 10 ^ 12

range_within : (system : System) (first : Wide) (second : Option Wide) (pr : ℤ)
    → ArePlausibleWith system first second → IsRangeWith system first second pr
    → Between (pos 0) (pos range_reach) pr
range_within system first None pr h v = record { from = omega (arith, ints, h.from, v.from); to = omega (arith, ints, h.to, v.to) }
range_within Gps first (Some second) pr h (p, q, pv, qv, near) =
    let from : pos (2329 * 15000000000000) ≤ℤ ((pos 5929 *ℤ first.lo) -ℤ (pos 3600 *ℤ second.hi)) = h.2.from in
    let to : ((pos 5929 *ℤ first.hi) -ℤ (pos 3600 *ℤ second.lo)) ≤ℤ pos (2329 * 40000000000000) = h.2.to in
    let below : (pr *ℤ pos 2329) ≤ℤ (((pos 5929 *ℤ p) -ℤ (pos 3600 *ℤ q)) +ℤ pos 2329) = near.below in
    let above : ((pos 5929 *ℤ p) -ℤ (pos 3600 *ℤ q)) ≤ℤ (pr *ℤ pos 2329 +ℤ pos 2329) = near.above in
    record { from = omega (arith, ints, from, above, pv.from, qv.to); to = omega (arith, ints, to, below, pv.to, qv.from) }
range_within (Galileo Fnav) first (Some second) pr h (p, q, pv, qv, near) =
    let from : pos (10491 * 15000000000000) ≤ℤ ((pos 23716 *ℤ first.lo) -ℤ (pos 13225 *ℤ second.hi)) = h.2.from in
    let to : ((pos 23716 *ℤ first.hi) -ℤ (pos 13225 *ℤ second.lo)) ≤ℤ pos (10491 * 40000000000000) = h.2.to in
    let below : (pr *ℤ pos 10491) ≤ℤ (((pos 23716 *ℤ p) -ℤ (pos 13225 *ℤ q)) +ℤ pos 10491) = near.below in
    let above : ((pos 23716 *ℤ p) -ℤ (pos 13225 *ℤ q)) ≤ℤ (pr *ℤ pos 10491 +ℤ pos 10491) = near.above in
    record { from = omega (arith, ints, from, above, pv.from, qv.to); to = omega (arith, ints, to, below, pv.to, qv.from) }
range_within (Galileo Inav) first (Some second) pr h (p, q, pv, qv, near) =
    let from : pos (9792 * 15000000000000) ≤ℤ ((pos 23716 *ℤ first.lo) -ℤ (pos 13924 *ℤ second.hi)) = h.2.from in
    let to : ((pos 23716 *ℤ first.hi) -ℤ (pos 13924 *ℤ second.lo)) ≤ℤ pos (9792 * 40000000000000) = h.2.to in
    let below : (pr *ℤ pos 9792) ≤ℤ (((pos 23716 *ℤ p) -ℤ (pos 13924 *ℤ q)) +ℤ pos 9792) = near.below in
    let above : ((pos 23716 *ℤ p) -ℤ (pos 13924 *ℤ q)) ≤ℤ (pr *ℤ pos 9792 +ℤ pos 9792) = near.above in
    record { from = omega (arith, ints, from, above, pv.from, qv.to); to = omega (arith, ints, to, below, pv.to, qv.from) }

-- ---- the clock

abbrev since_reach : ℕ
since_reach = 21601 * 10 ^ 12

sent_since : (tag toc pr tsv : ℤ) → Between (pos 0) (pos range_reach) pr → IsSent tag pr tsv
    → IsWithin clock_time_reach (tag -ℤ toc) → IsWithin since_reach (tsv -ℤ toc)
sent_since tag toc pr tsv b n w = record { low = omega (arith, ints, b.from, b.to, n.below, n.above, w.low, w.high); high = omega (arith, ints, b.from, b.to, n.below, n.above, w.low, w.high) }

field_within : (n : ℕ) (field : Wide) (x : ℤ) → IsField n field → IsValue field x → IsWithin n x
field_within n field x f v = record { low = omega (arith, ints, f.from, v.from); high = omega (arith, ints, f.to, v.to) }

from_zero : (low high : ℤ) (n : ℕ) (field : Wide) (x : ℤ) → pos 0 ≤ℤ low → high ≤ℤ pos n
    → low ≤ℤ field.lo → field.hi ≤ℤ high → IsValue field x → IsWithin n x
from_zero low high n field x h k f g v = record { low = omega (arith, ints, f, v.from); high = omega (arith, ints, g, v.to) }

advanced_within : (m k : ℕ) (value rate time v : ℤ) → IsWithin m value
    → IsWithin (k * rate_scale) (rate *ℤ time) → IsAdvanced value rate time v
    → IsWithin (m + k + 1) v
advanced_within m k value rate time v f g n = record { low = omega (arith, ints, f.low, g.low, n.above); high = omega (arith, ints, f.high, g.high, n.below) }

delay_within : (m n : ℕ) (single : Bool) (offset delay : ℤ) → IsWithin m offset → IsWithin n delay
    → IsWithin (m + n) (less_delay single offset delay)
delay_within m n true offset delay f g = record { low = omega (arith, ints, f.low, g.high); high = omega (arith, ints, f.high, g.low) }
delay_within m n false offset delay f g = record { low = omega (arith, ints, f.low); high = omega (arith, ints, f.high) }

relativity_within : (system : System) → IsWithin relativity (pos (relativity_of system))
relativity_within Gps = record { low = omega (arith, ints); high = omega (arith, ints) }
relativity_within (Galileo message) = record { low = omega (arith, ints); high = omega (arith, ints) }

relative_within : (n : ℕ) (p v : ℤ) → n ≤ 5 * 10 ^ 9 * 10 ^ 47 → IsWithin n p
    → Near (neg_ℤ p) (pos (10 ^ 47)) v → IsWithin (5 * 10 ^ 9 + 1) v
relative_within n p v h w m = record { low = omega (arith, ints, h, w.high, m.above); high = omega (arith, ints, h, w.low, m.below) }

sum_within : (m n k : ℕ) (a b s : ℤ) → m + n ≤ k → s ≡ a +ℤ b → IsWithin m a → IsWithin n b
    → IsWithin k s
sum_within m n k a b s h e f g = record { low = omega (arith, ints, h, e, f.low, g.low); high = omega (arith, ints, h, e, f.high, g.high) }

abbrev offset_reach : ℕ
offset_reach = offset_bound + 2626703201001 + 1

pub clock_small : (system : System) (el : Elements) (single : Bool) (n tsv dt t : ℤ)
    → el.root_a.hi ≤ℤ pos medium_root_a → IsWithin since_reach (tsv -ℤ el.toc)
    → ClockChainOf system el single n tsv dt t → IsWithin (103 * 10 ^ 12) dt
clock_small system el single n tsv dt t root since k =
    let f = k.f in
    let F = k.fields in
    let x = tsv -ℤ el.toc in
    let a2 = field_within ageing_bound el.af2 f.af2 el.af2_within F.af2_is in
    let p = larger (ageing_bound * since_reach) (21601 * 10 ^ 9 * rate_scale) (f.af2 *ℤ x) (lit≤ tt) (product_within ageing_bound since_reach f.af2 x a2 since) in
    let drift = advanced_within drift_bound (21601 * 10 ^ 9) f.af1 f.af2 x k.drift (field_within drift_bound el.af1 f.af1 el.af1_within F.af1_is) p k.drift_is in
    let q = larger ((drift_bound + 21601 * 10 ^ 9 + 1) * since_reach) (2626703201001 * rate_scale) (k.drift *ℤ x) (lit≤ tt) (product_within (drift_bound + 21601 * 10 ^ 9 + 1) since_reach k.drift x drift since) in
    let offset = advanced_within offset_bound 2626703201001 f.af0 k.drift x k.offset (field_within offset_bound el.af0 f.af0 el.af0_within F.af0_is) q k.offset_is in
    let base : IsWithin (offset_reach + delay_bound) k.base = rw k.base_is (delay_within offset_reach delay_bound single k.offset f.tgd offset (field_within delay_bound el.tgd f.tgd el.tgd_within F.tgd_is)) in
    let e = from_zero (pos 0) (pos eccentricity_bound) eccentricity_bound el.e f.e (record { le = tt }) (record { le = tt }) el.e_within.from el.e_within.to F.e_is in
    let s = from_zero (pos least_root_a) (pos medium_root_a) medium_root_a el.root_a f.root_a (record { le = tt }) (record { le = tt }) el.root_a_within.from root F.root_a_is in
    let re = product_within relativity eccentricity_bound (pos (relativity_of system)) f.e (relativity_within system) e in
    let res = product_within (relativity * eccentricity_bound) medium_root_a (pos (relativity_of system) *ℤ f.e) f.root_a re s in
    let all = product_within (relativity * eccentricity_bound * medium_root_a) (unit + 8) ((pos (relativity_of system) *ℤ f.e) *ℤ f.root_a) k.sine res (sine_value_small k.eccentric k.sine k.sine_is) in
    let relative = relative_within (relativity * eccentricity_bound * medium_root_a * (unit + 8)) (((pos (relativity_of system) *ℤ f.e) *ℤ f.root_a) *ℤ k.sine) k.relative (lit≤ tt) all k.relative_is in
    sum_within (offset_reach + delay_bound) (5 * 10 ^ 9 + 1) (103 * 10 ^ 12) k.base k.relative dt (lit≤ tt) k.dt_is base relative

-- by how much a corrected pseudorange differs from the pseudorange, in um
abbrev corrected_apart : ℕ
corrected_apart = 31 * 10 ^ 11 - 1

corrected_near : (pr dt v : ℤ) → IsWithin (103 * 10 ^ 12) dt → IsCorrected pr dt v
    → IsWithin corrected_apart (v -ℤ pr)
corrected_near pr dt v w n = record { low = omega (arith, ints, w.low, w.high, n.below, n.above); high = omega (arith, ints, w.low, w.high, n.below, n.above) }

-- ---- the range

abbrev medium_radius : ℕ
medium_radius = 37653 * 10 ^ 9

medium_radii : AreRadii least_root_a medium_root_a eccentricity_bound least_radius medium_radius
medium_radii = record {
  axis_low = 25 * 10 ^ 12 - 1;
  axis_high = 3136 * 10 ^ 10 + 1;
  axis_from = lit≤ tt;
  axis_to = lit≤ tt;
  ellipse = lit≤ tt;
  radius_from = lit≤ tt;
  radius_to = lit≤ tt;
}

abbrev orbit_far : ℕ
orbit_far = 37690 * 10 ^ 9

abbrev turned_far : ℕ
turned_far = 377 * 10 ^ 11

abbrev turn_loss : ℕ
turn_loss = 160 * 10 ^ 12

turn_bound : IsTurnBound orbit_far turn_loss
turn_bound = lit≤ tt

far_by : (rr v : ℤ) → rr ≤ℤ pos (medium_radius * medium_radius) → Close radius_slack rr v
    → v ≤ℤ pos (orbit_far * orbit_far)
far_by rr v h c = omega (arith, ints, h, c.above)

value_between : (low high : ℤ) (field : Wide) (x : ℤ) → low ≤ℤ field.lo → field.hi ≤ℤ high
    → IsValue field x → Between low high x
value_between low high field x f g v = record { from = omega (arith, ints, f, v.from); to = omega (arith, ints, g, v.to) }

orbit_near : (el : Elements) (n t x y z : ℤ) → el.root_a.hi ≤ℤ pos medium_root_a
    → OrbitChain el n t x y z
    → ((x *ℤ x) +ℤ (y *ℤ y) +ℤ (z *ℤ z)) ≤ℤ pos (orbit_far * orbit_far)
orbit_near el n t x y z root o =
    let F = o.fields in
    let s = value_between (pos least_root_a) (pos medium_root_a) el.root_a o.f.root_a el.root_a_within.from root F.root_a_is in
    let e = value_between (pos 0) (pos eccentricity_bound) el.e o.f.e el.e_within.from el.e_within.to F.e_is in
    let r = chain_radius least_root_a medium_root_a eccentricity_bound least_radius medium_radius el n t x y z medium_radii o s e.to in
    far_by (o.radius *ℤ o.radius) ((x *ℤ x) +ℤ (y *ℤ y) +ℤ (z *ℤ z)) (product_between least_radius medium_radius least_radius medium_radius o.radius o.radius r r).to (chain_keeps_radius el n t x y z o)

flat_far : (R Z : ℤ) → pos 0 ≤ℤ Z → (R +ℤ Z) ≤ℤ pos (orbit_far * orbit_far)
    → R ≤ℤ pos (orbit_far * orbit_far)
flat_far R Z h k = omega (arith, ints)

still_near : (R S Z : ℤ) → (R +ℤ Z) ≤ℤ pos (orbit_far * orbit_far) → Close turn_loss R S
    → (S +ℤ Z) ≤ℤ pos (turned_far * turned_far)
still_near R S Z h c = omega (arith, ints, h, c.above)

turned_near : (range : ℕ) (p : Pos) (x y z tx ty : ℤ)
    → ((x *ℤ x) +ℤ (y *ℤ y) +ℤ (z *ℤ z)) ≤ℤ pos (orbit_far * orbit_far) → Turn p x y z tx ty range
    → ((tx *ℤ tx) +ℤ (ty *ℤ ty) +ℤ (z *ℤ z)) ≤ℤ pos (turned_far * turned_far)
turned_near range p x y z tx ty h t =
    still_near ((x *ℤ x) +ℤ (y *ℤ y)) ((tx *ℤ tx) +ℤ (ty *ℤ ty)) (z *ℤ z) h
    (turn_keeps orbit_far turn_loss range p x y z tx ty (flat_far ((x *ℤ x) +ℤ (y *ℤ y)) (z *ℤ z) (square_natural z) h) turn_bound t)

-- what is left over is (66 s + 377 p)^2
axis_apart : (s p : ℤ) → (pos 24882 *ℤ ((s -ℤ p) *ℤ (s -ℤ p)))
    ≤ℤ ((pos 29238 *ℤ (s *ℤ s)) +ℤ (pos 167011 *ℤ (p *ℤ p)))
axis_apart s p =
    let over = square_natural ((pos 66 *ℤ s) +ℤ (pos 377 *ℤ p)) in
    let spelled = square_of_sum (pos 66 *ℤ s) (pos 377 *ℤ p) in
    let first = swap4 (pos 66) (pos 66) s s in
    let cross = swap4 (pos 66) (pos 377) s p in
    let second = swap4 (pos 377) (pos 377) p p in
    let apart = square_of_difference s p in
    omega (arith, ints, over, spelled, first, cross, second, apart)

abbrev range_most : ℕ
range_most = 444 * 10 ^ 11

range_by : (dx dy dz xx yy zz px py pz : ℤ)
    → (pos 24882 *ℤ dx) ≤ℤ ((pos 29238 *ℤ xx) +ℤ (pos 167011 *ℤ px))
    → (pos 24882 *ℤ dy) ≤ℤ ((pos 29238 *ℤ yy) +ℤ (pos 167011 *ℤ py))
    → (pos 24882 *ℤ dz) ≤ℤ ((pos 29238 *ℤ zz) +ℤ (pos 167011 *ℤ pz))
    → (xx +ℤ yy +ℤ zz) ≤ℤ pos (turned_far * turned_far)
    → (px +ℤ py +ℤ pz) ≤ℤ pos (station_reach * station_reach)
    → (dx +ℤ dy +ℤ dz) ≤ℤ pos (range_most * range_most)
range_by dx dy dz xx yy zz px py pz x y z s p = omega (arith, ints)

squares_up_to : (n : ℕ) (x y z : ℤ) → ((x *ℤ x) +ℤ (y *ℤ y) +ℤ (z *ℤ z)) ≤ℤ pos n
    → square (nat_abs x) + square (nat_abs y) + square (nat_abs z) ≤ n
squares_up_to n x y z h = omega (arith, ints, h, square_of_amount x, square_of_amount y, square_of_amount z)

range_small : (p : Pos) (x y z : ℤ) → ((x *ℤ x) +ℤ (y *ℤ y) +ℤ (z *ℤ z)) ≤ℤ pos (turned_far * turned_far)
    → IsNearGround p → range_to x y z p ≤ range_most
unfolding range_to
range_small p x y z s g =
    root_le (square (unsigned_abs (x -ℤ p.x)) + square (unsigned_abs (y -ℤ p.y)) + square (unsigned_abs (z -ℤ p.z))) range_most
    (squares_up_to (range_most * range_most) (x -ℤ p.x) (y -ℤ p.y) (z -ℤ p.z)
    (range_by ((x -ℤ p.x) *ℤ (x -ℤ p.x)) ((y -ℤ p.y) *ℤ (y -ℤ p.y)) ((z -ℤ p.z) *ℤ (z -ℤ p.z)) (x *ℤ x) (y *ℤ y) (z *ℤ z) (p.x *ℤ p.x) (p.y *ℤ p.y) (p.z *ℤ p.z)
    (axis_apart x p.x) (axis_apart y p.y) (axis_apart z p.z) s g))

-- ---- the difference

corrected_by : (seen : Observed) (p : Pos) (x y z corrected : ℤ) (range : ℕ)
    → ArePlausible seen.system seen.codes → HasNearRecord seen
    → (v : ChainValue seen p x y z corrected range) → IsWithin corrected_apart (corrected -ℤ v.pr)
corrected_by seen p x y z corrected range plausible near v =
    let pr = range_within seen.system seen.codes.first seen.codes.second v.pr plausible v.pr_is in
    corrected_near v.pr v.dt corrected
    (clock_small seen.system seen.el _ v.n v.tsv v.dt v.t near.orbit (sent_since seen.tag seen.el.toc v.pr v.tsv pr v.tsv_is near.clock_time) v.clock) v.corrected_is

small_by : (c pc q pq e d : ℤ) (r : ℕ) → IsWithin corrected_apart (c -ℤ pc)
    → IsWithin corrected_apart (q -ℤ pq) → IsWithin (pseudoranges_apart + 2) (pc -ℤ pq) → r ≤ range_most
    → e ≡ q -ℤ pos r → d ≡ c -ℤ e → IsWithin difference_reach d
small_by c pc q pq e d r f g h k i j = record { low = omega (arith, ints, f.low, g.high, h.low, k, i, j); high = omega (arith, ints, f.high, g.low, h.high, k, i, j) }

pub difference_small : (view : CommonView) (p : Pos) (c : Chain) → ArePlausibleCodes view
    → AreNearby view → IsNearGround view.place → IsDifferenceOf view p c
    → IsWithin difference_reach c.corrected
difference_small view p c plausible near ground d =
    let s = d.station in
    let v = s.value in
    let far = turned_near s.range view.place v.sent_x v.sent_y s.z s.x s.y (orbit_near view.station.el v.n v.t v.sent_x v.sent_y s.z near.station.orbit v.orbit) v.turn in
    let range : s.range ≤ range_most = rw v.turn.range_is (range_small view.place s.x s.y s.z far ground) in
    small_by d.corrected d.receiver.pr s.corrected v.pr d.residual c.corrected s.range
    (corrected_by view.receiver p c.x c.y c.z d.corrected c.range plausible.receiver near.receiver d.receiver)
    (corrected_by view.station view.place s.x s.y s.z s.corrected s.range plausible.station near.station v)
    (near_ranges view.receiver.system view.receiver.codes.first view.receiver.codes.second view.station.codes.first view.station.codes.second d.receiver.pr v.pr near.codes d.receiver.pr_is
    (subst (λ (system : System). IsRangeOf system view.station.codes v.pr) near.system v.pr_is)) range s.residual_is d.difference_is
