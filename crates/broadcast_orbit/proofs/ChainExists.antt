-- Each record, mean motion and time has a place: the equations are solved one after the other.
use Rattle.std.proofs.Common.{ℕ, ◌+◌, ◌-◌, ◌*◌, ◌^◌, ◌≤◌, arith, refl}
use Rattle.std.specs.Prelude.{ℤ, pos, negsuc, ◌+ℤ◌, ◌-ℤ◌, ◌*ℤ◌, ◌≤ℤ◌, ◌<ℤ◌}
use Rattle.std.proofs.lemmas.Int.{ints}
use Rattle.grid_model.specs.Angles.{unit}
use Rattle.gnss_model.specs.EarthModel.{earth_rate, rate_scale}
use Rattle.gnss_model.specs.OrbitChain.{OrbitFields, AreOrbitFields, Anomaly, Latitude, InPlane, EarthFixed, OrbitChain}
use Rattle.gnss_model.specs.RecordBounds.{IsValue}
use Rattle.grid_model.specs.Roots.{IsRoot, root}
use Rattle.grid_model.specs.Rounding.{Near}
use Rattle.grid_model.specs.Sizes.{IsWithin}
use Rattle.gnss_model.specs.declared.elements.Elements.{Elements}
use Rattle.grid_model.specs.declared.spans.Wide.{Wide}
use Rattle.grid_model.proofs.IntervalLemmas.{low_member}
use Rattle.grid_model.proofs.ProductLemmas.{product_within}
use Rattle.grid_model.proofs.RootLemmas.{root_is, square-mono}
use Rattle.fix_interval.proofs.NearLemmas.{near_exists, near_low}
use Rattle.interval_trig.proofs.Existence.{sine_exists, cosine_exists}
use Rattle.interval_trig.proofs.Smoothness.{cosine_value_small}
use Rattle.kepler_enclosure.proofs.Existence.{kepler_exists}
use Rattle.broadcast_orbit.specs.OrbitSizes.{eccentricity_amount}

-- ---- the low number of each field

low_value : (w : Wide) → IsValue w w.lo
low_value w = low_member w.lo w.hi w.ordered

abbrev low_fields : Elements → OrbitFields
low_fields el = record {
  root_a = el.root_a.lo;
  e = el.e.lo;
  m0 = el.m0.lo;
  omega = el.omega.lo;
  cus = el.cus.lo;
  cuc = el.cuc.lo;
  crs = el.crs.lo;
  crc = el.crc.lo;
  cis = el.cis.lo;
  cic = el.cic.lo;
  i0 = el.i0.lo;
  idot = el.idot.lo;
  om0 = el.om0.lo;
  om_dot = el.om_dot.lo;
  toe_week = el.toe_week.lo;
}

low_fields_are : (el : Elements) → AreOrbitFields el (low_fields el)
low_fields_are el = record {
  root_a_is = low_value el.root_a;
  e_is = low_value el.e;
  m0_is = low_value el.m0;
  omega_is = low_value el.omega;
  cus_is = low_value el.cus;
  cuc_is = low_value el.cuc;
  crs_is = low_value el.crs;
  crc_is = low_value el.crc;
  cis_is = low_value el.cis;
  cic_is = low_value el.cic;
  i0_is = low_value el.i0;
  idot_is = low_value el.idot;
  om0_is = low_value el.om0;
  om_dot_is = low_value el.om_dot;
  toe_is = low_value el.toe_week;
}

-- ---- a number near a fraction over one, over a rate's scale and over the square of one

over_one : (num : ℤ) → (v : ℤ) × Near num (pos unit) v
over_one num = near_exists num (pos unit) (record { lt = tt })

over_rate : (num : ℤ) → (v : ℤ) × Near num (pos rate_scale) v
over_rate num = near_exists num (pos rate_scale) (record { lt = tt })

over_square : (num : ℤ) → (v : ℤ) × Near num (pos (unit * unit)) v
over_square num = near_exists num (pos (unit * unit)) (record { lt = tt })

-- ---- the ellipse

pub small_amount : (e : ℤ) → pos 0 ≤ℤ e → e ≤ℤ pos eccentricity_amount
    → IsWithin eccentricity_amount e
small_amount e h k = record { low = omega (arith, ints); high = omega (arith, ints) }

ratio_from : (p : ℤ) → IsWithin (eccentricity_amount * (unit + 8)) p
    → (pos (7 * 10 ^ 15) *ℤ pos unit) ≤ℤ (pos (unit * unit) -ℤ p)
ratio_from p w = omega (arith, ints, w.high)

positive_from : (r : ℤ) → (pos (7 * 10 ^ 15) -ℤ pos 1) ≤ℤ r → pos 0 <ℤ r
positive_from r h = omega (arith, ints)

ratio_positive : (e x c r : ℤ) → pos 0 ≤ℤ e → e ≤ℤ pos eccentricity_amount → IsWithin (unit + 8) c
    → Near (pos (unit * unit) -ℤ (e *ℤ c)) (pos unit) r → pos 0 <ℤ r
ratio_positive e x c r h k w n = positive_from r (near_low (pos (unit * unit) -ℤ (e *ℤ c)) (pos unit) r (pos (7 * 10 ^ 15)) (record { lt = tt }) (ratio_from (e *ℤ c) (product_within eccentricity_amount (unit + 8) e c (small_amount e h k) w)) n)

-- the root of 1 - e^2
record IsFlatness (e : ℤ) (w : ℕ) : Type 0 where
  low : (pos (w * w) +ℤ (e *ℤ e)) ≤ℤ pos (unit * unit)
  high : pos (unit * unit) <ℤ (pos ((w + 1) * (w + 1)) +ℤ (e *ℤ e))

flatness_from : (k w : ℕ) → k * k ≤ unit * unit → IsRoot (unit * unit - k * k) w
    → IsFlatness (pos k) w
flatness_from k w h r = record { low = omega (arith, ints, r.square_le); high = omega (arith, ints, r.next_square_gt) }

flatness_exists : (e : ℤ) → pos 0 ≤ℤ e → e ≤ℤ pos eccentricity_amount → (w : ℕ) × IsFlatness e w
flatness_exists (pos k) h l =
    let s : k * k ≤ eccentricity_amount * eccentricity_amount = square-mono k eccentricity_amount (omega (arith, ints)) in
    (root (unit * unit - k * k), flatness_from k (root (unit * unit - k * k)) (omega arith) (root_is (unit * unit - k * k)))
flatness_exists (negsuc k) h l = absurd (omega (arith, ints))

anomaly_exists : (f : OrbitFields) (n after : ℤ) → pos 0 ≤ℤ f.e → f.e ≤ℤ pos eccentricity_amount
    → (r : ℤ) × (c : ℤ) × (s : ℤ) × Anomaly f n after r c s
anomaly_exists f n after h l =
    let m = over_rate ((f.m0 *ℤ pos rate_scale) +ℤ (n *ℤ after)) in
    let x = kepler_exists m.0 f.e h in
    let c = cosine_exists x.0 in
    let s = sine_exists x.0 in
    let r = over_one (pos (unit * unit) -ℤ (f.e *ℤ c.0)) in
    let p = ratio_positive f.e x.0 c.0 r.0 h l (cosine_value_small x.0 c.0 c.1) r.1 in
    let w = flatness_exists f.e h l in
    let cv = near_exists ((c.0 -ℤ f.e) *ℤ pos unit) r.0 p in
    let sv = near_exists (pos w.0 *ℤ s.0) r.0 p in (
      r.0,
      cv.0,
      sv.0,
      record {
        mean = m.0;
        mean_is = m.1;
        eccentric = x.0;
        eccentric_is = x.1;
        cos_e = c.0;
        cos_e_is = c.1;
        sin_e = s.0;
        sin_e_is = s.1;
        ratio_is = r.1;
        flatness = w.0;
        flatness_low = w.1.low;
        flatness_high = w.1.high;
        cos_v_is = cv.1;
        sin_v_is = sv.1;
      },
    )

-- ---- the argument of latitude

latitude_exists : (f : OrbitFields) (cv sv : ℤ)
    → (cu : ℤ) × (su : ℤ) × (dr : ℤ) × (di : ℤ) × Latitude f cv sv cu su dr di
latitude_exists f cv sv =
    let cw = cosine_exists f.omega in
    let sw = sine_exists f.omega in
    let cp = over_one ((cv *ℤ cw.0) -ℤ (sv *ℤ sw.0)) in
    let sp = over_one ((sv *ℤ cw.0) +ℤ (cv *ℤ sw.0)) in
    let c2 = over_one ((cp.0 *ℤ cp.0) -ℤ (sp.0 *ℤ sp.0)) in
    let s2 = over_one ((pos 2 *ℤ sp.0) *ℤ cp.0) in
    let du = over_one ((f.cus *ℤ s2.0) +ℤ (f.cuc *ℤ c2.0)) in
    let dr = over_one ((f.crs *ℤ s2.0) +ℤ (f.crc *ℤ c2.0)) in
    let di = over_one ((f.cis *ℤ s2.0) +ℤ (f.cic *ℤ c2.0)) in
    let cd = cosine_exists du.0 in
    let sd = sine_exists du.0 in
    let cu = over_one ((cp.0 *ℤ cd.0) -ℤ (sp.0 *ℤ sd.0)) in
    let su = over_one ((sp.0 *ℤ cd.0) +ℤ (cp.0 *ℤ sd.0)) in (
      cu.0,
      su.0,
      dr.0,
      di.0,
      record {
        cos_omega = cw.0;
        cos_omega_is = cw.1;
        sin_omega = sw.0;
        sin_omega_is = sw.1;
        cos_phi = cp.0;
        cos_phi_is = cp.1;
        sin_phi = sp.0;
        sin_phi_is = sp.1;
        cos_twice = c2.0;
        cos_twice_is = c2.1;
        sin_twice = s2.0;
        sin_twice_is = s2.1;
        du = du.0;
        swings = record { du_is = du.1; dr_is = dr.1; di_is = di.1 };
        cos_du = cd.0;
        cos_du_is = cd.1;
        sin_du = sd.0;
        sin_du_is = sd.1;
        cos_u_is = cu.1;
        sin_u_is = su.1;
      },
    )

-- ---- the plane of the orbit and the earth-fixed frame

plane_exists : (f : OrbitFields) (g dr c s : ℤ)
    → (r : ℤ) × (x : ℤ) × (y : ℤ) × InPlane f g dr c s r x y
plane_exists f g dr c s =
    let a = over_rate (f.root_a *ℤ f.root_a) in
    let r = over_one ((a.0 *ℤ g) +ℤ (dr *ℤ pos unit)) in
    let x = over_one (r.0 *ℤ c) in
    let y = over_one (r.0 *ℤ s) in
    (r.0, x.0, y.0, record { axis = a.0; axis_is = a.1; radius_is = r.1; x_is = x.1; y_is = y.1 })

space_exists : (f : OrbitFields) (after di p q : ℤ)
    → (x : ℤ) × (y : ℤ) × (z : ℤ) × EarthFixed f after di p q x y z
space_exists f after di p q =
    let i = over_rate (((f.i0 +ℤ di) *ℤ pos rate_scale) +ℤ (f.idot *ℤ after)) in
    let ci = cosine_exists i.0 in
    let si = sine_exists i.0 in
    let o = over_rate (((f.om0 *ℤ pos rate_scale) +ℤ ((f.om_dot -ℤ pos earth_rate) *ℤ after)) -ℤ (pos earth_rate *ℤ f.toe_week)) in
    let co = cosine_exists o.0 in
    let so = sine_exists o.0 in
    let x = over_square (((p *ℤ co.0) *ℤ pos unit) -ℤ ((q *ℤ ci.0) *ℤ so.0)) in
    let y = over_square (((p *ℤ so.0) *ℤ pos unit) +ℤ ((q *ℤ ci.0) *ℤ co.0)) in
    let z = over_one (q *ℤ si.0) in (
      x.0,
      y.0,
      z.0,
      record {
        inclination = i.0;
        inclination_is = i.1;
        cos_i = ci.0;
        cos_i_is = ci.1;
        sin_i = si.0;
        sin_i_is = si.1;
        node = o.0;
        node_is = o.1;
        cos_node = co.0;
        cos_node_is = co.1;
        sin_node = so.0;
        sin_node_is = so.1;
        x_is = x.1;
        y_is = y.1;
        z_is = z.1;
      },
    )

-- ---- the whole chain

small_by : (l h : ℤ) → l ≤ℤ h → h ≤ℤ pos (2 * 10 ^ 15) → l ≤ℤ pos eccentricity_amount
small_by l h o k = omega (arith, ints)

pub orbit_exists : (el : Elements) (n t : ℤ) → (x : ℤ) × (y : ℤ) × (z : ℤ) × OrbitChain el n t x y z
orbit_exists el n t =
    let f = low_fields el in
    let after = t -ℤ (el.week_start +ℤ el.toe_week.lo) in
    let a = anomaly_exists f n after el.e_within.from (small_by el.e.lo el.e.hi el.e.ordered el.e_within.to) in
    let l = latitude_exists f a.1 a.2 in
    let p = plane_exists f a.0 l.2 l.0 l.1 in
    let s = space_exists f after l.3 p.1 p.2 in (
      s.0,
      s.1,
      s.2,
      record {
        f = f;
        fields = low_fields_are el;
        after = after;
        after_is = refl;
        ratio = a.0;
        cos_v = a.1;
        sin_v = a.2;
        anomaly = a.3;
        cos_u = l.0;
        sin_u = l.1;
        dr = l.2;
        di = l.3;
        latitude = l.4;
        radius = p.0;
        plane_x = p.1;
        plane_y = p.2;
        in_plane = p.3;
        earth_fixed = s.3;
      },
    )
