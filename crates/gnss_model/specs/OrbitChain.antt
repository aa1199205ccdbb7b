-- The satellite's place at a time (IS-GPS-200, table 20-IV), with one whole number for each
-- equation. Angles whose sines and cosines alone are wanted are kept as that pair, so no inverse
-- tangent is taken.
use Rattle.std.specs.Prelude.{ℕ, ◌≡◌, ◌+◌, ◌*◌, ◌^◌, ℤ, pos, ◌+ℤ◌, ◌-ℤ◌, ◌*ℤ◌, ◌≤ℤ◌, ◌<ℤ◌}
use Rattle.grid_model.specs.Angles.{unit}
use Rattle.gnss_model.specs.ClockChain.{IsAdvanced}
use Rattle.gnss_model.specs.EarthModel.{earth_rate, rate_scale}
use Rattle.gnss_model.specs.Kepler.{Kepler}
use Rattle.gnss_model.specs.RecordBounds.{IsValue}
use Rattle.grid_model.specs.Rounding.{Near}
use Rattle.grid_model.specs.Sines.{Sine, Cosine}
use Rattle.gnss_model.specs.declared.elements.Elements.{Elements}

-- one number of each field that the orbit takes
pub record OrbitFields : Type 0 where
  pub root_a : ℤ
  pub e : ℤ
  pub m0 : ℤ
  pub omega : ℤ
  pub cus : ℤ
  pub cuc : ℤ
  pub crs : ℤ
  pub crc : ℤ
  pub cis : ℤ
  pub cic : ℤ
  pub i0 : ℤ
  pub idot : ℤ
  pub om0 : ℤ
  pub om_dot : ℤ
  pub toe_week : ℤ

pub record AreOrbitFields (el : Elements) (f : OrbitFields) : Type 0 where
  pub root_a_is : IsValue el.root_a f.root_a
  pub e_is : IsValue el.e f.e
  pub m0_is : IsValue el.m0 f.m0
  pub omega_is : IsValue el.omega f.omega
  pub cus_is : IsValue el.cus f.cus
  pub cuc_is : IsValue el.cuc f.cuc
  pub crs_is : IsValue el.crs f.crs
  pub crc_is : IsValue el.crc f.crc
  pub cis_is : IsValue el.cis f.cis
  pub cic_is : IsValue el.cic f.cic
  pub i0_is : IsValue el.i0 f.i0
  pub idot_is : IsValue el.idot f.idot
  pub om0_is : IsValue el.om0 f.om0
  pub om_dot_is : IsValue el.om_dot f.om_dot
  pub toe_is : IsValue el.toe_week f.toe_week

-- ---- the orbit's ellipse

-- a product of two ratios, or of a length and a ratio, and a sum or a difference of two such
-- products
abbrev pub IsProduct : ℤ → ℤ → ℤ → Type 0
IsProduct a b v = Near (a *ℤ b) (pos unit) v

abbrev pub IsSumOf : ℤ → ℤ → ℤ → ℤ → ℤ → Type 0
IsSumOf a b c d v = Near ((a *ℤ b) +ℤ (c *ℤ d)) (pos unit) v

abbrev pub IsDifferenceOf : ℤ → ℤ → ℤ → ℤ → ℤ → Type 0
IsDifferenceOf a b c d v = Near ((a *ℤ b) -ℤ (c *ℤ d)) (pos unit) v

-- where the satellite is on the ellipse, `after` ps behind the ephemeris time: its distance, as a
-- ratio of the semi-major axis, and the cosine and sine of the true anomaly v_k
pub record Anomaly (f : OrbitFields) (n after ratio cos_v sin_v : ℤ) : Type 0 where
  -- M_k = M_0 + n t_k
  pub mean : ℤ
  pub mean_is : IsAdvanced f.m0 n after mean
  -- M_k = E_k - e sin E_k
  pub eccentric : ℤ
  pub eccentric_is : Kepler mean f.e eccentric
  pub cos_e : ℤ
  pub cos_e_is : Cosine eccentric cos_e
  pub sin_e : ℤ
  pub sin_e_is : Sine eccentric sin_e
  -- 1 - e cos E_k
  pub ratio_is : Near (pos (unit * unit) -ℤ (f.e *ℤ cos_e)) (pos unit) ratio
  -- sqrt(1 - e^2), cut off
  pub flatness : ℕ
  pub flatness_low : (pos (flatness * flatness) +ℤ (f.e *ℤ f.e)) ≤ℤ pos (unit * unit)
  pub flatness_high : pos (unit * unit) <ℤ (pos ((flatness + 1) * (flatness + 1)) +ℤ (f.e *ℤ f.e))
  -- cos v_k = (cos E_k - e) / (1 - e cos E_k)
  pub cos_v_is : Near ((cos_e -ℤ f.e) *ℤ pos unit) ratio cos_v
  -- sin v_k = sqrt(1 - e^2) sin E_k / (1 - e cos E_k)
  pub sin_v_is : Near (pos flatness *ℤ sin_e) ratio sin_v

-- the corrections of the argument of latitude, the radius and the inclination, by the cosine and
-- sine of twice the argument of latitude
pub record Swings (f : OrbitFields) (cos_twice sin_twice du dr di : ℤ) : Type 0 where
  -- du_k = C_us sin 2 phi_k + C_uc cos 2 phi_k
  pub du_is : IsSumOf f.cus sin_twice f.cuc cos_twice du
  -- dr_k = C_rs sin 2 phi_k + C_rc cos 2 phi_k
  pub dr_is : IsSumOf f.crs sin_twice f.crc cos_twice dr
  -- di_k = C_is sin 2 phi_k + C_ic cos 2 phi_k
  pub di_is : IsSumOf f.cis sin_twice f.cic cos_twice di

-- the cosine and sine of the corrected argument of latitude u_k, and the corrections of the radius
-- and the inclination
pub record Latitude (f : OrbitFields) (cos_v sin_v cos_u sin_u dr di : ℤ) : Type 0 where
  pub cos_omega : ℤ
  pub cos_omega_is : Cosine f.omega cos_omega
  pub sin_omega : ℤ
  pub sin_omega_is : Sine f.omega sin_omega
  -- phi_k = v_k + omega
  pub cos_phi : ℤ
  pub cos_phi_is : IsDifferenceOf cos_v cos_omega sin_v sin_omega cos_phi
  pub sin_phi : ℤ
  pub sin_phi_is : IsSumOf sin_v cos_omega cos_v sin_omega sin_phi
  -- 2 phi_k
  pub cos_twice : ℤ
  pub cos_twice_is : IsDifferenceOf cos_phi cos_phi sin_phi sin_phi cos_twice
  pub sin_twice : ℤ
  pub sin_twice_is : IsProduct (pos 2 *ℤ sin_phi) cos_phi sin_twice
  pub du : ℤ
  pub swings : Swings f cos_twice sin_twice du dr di
  -- u_k = phi_k + du_k
  pub cos_du : ℤ
  pub cos_du_is : Cosine du cos_du
  pub sin_du : ℤ
  pub sin_du_is : Sine du sin_du
  pub cos_u_is : IsDifferenceOf cos_phi cos_du sin_phi sin_du cos_u
  pub sin_u_is : IsSumOf sin_phi cos_du cos_phi sin_du sin_u

-- ---- the earth-fixed frame

-- the place in the orbital plane
pub record InPlane (f : OrbitFields) (ratio dr cos_u sin_u radius x y : ℤ) : Type 0 where
  -- A = sqrt(A)^2
  pub axis : ℤ
  pub axis_is : Near (f.root_a *ℤ f.root_a) (pos (10 ^ 18)) axis
  -- r_k = A (1 - e cos E_k) + dr_k
  pub radius_is : IsSumOf axis ratio dr (pos unit) radius
  -- x_k' = r_k cos u_k, y_k' = r_k sin u_k
  pub x_is : IsProduct radius cos_u x
  pub y_is : IsProduct radius sin_u y

-- the place in the earth-fixed frame from that in the orbital plane
pub record EarthFixed (f : OrbitFields) (after di x y : ℤ)
    (place_x place_y place_z : ℤ) : Type 0 where
  -- i_k = i_0 + di_k + IDOT t_k
  pub inclination : ℤ
  pub inclination_is : IsAdvanced (f.i0 +ℤ di) f.idot after inclination
  pub cos_i : ℤ
  pub cos_i_is : Cosine inclination cos_i
  pub sin_i : ℤ
  pub sin_i_is : Sine inclination sin_i
  -- Om_k = Om_0 + (OmDot - Om_e) t_k - Om_e t_oe
  pub node : ℤ
  pub node_is : Near (((f.om0 *ℤ pos rate_scale) +ℤ ((f.om_dot -ℤ pos earth_rate) *ℤ after))
      -ℤ (pos earth_rate *ℤ f.toe_week)) (pos rate_scale) node
  pub cos_node : ℤ
  pub cos_node_is : Cosine node cos_node
  pub sin_node : ℤ
  pub sin_node_is : Sine node sin_node
  -- x_k = x_k' cos Om_k - y_k' cos i_k sin Om_k
  pub x_is : Near (((x *ℤ cos_node) *ℤ pos unit) -ℤ ((y *ℤ cos_i) *ℤ sin_node))
      (pos (unit * unit)) place_x
  -- y_k = x_k' sin Om_k + y_k' cos i_k cos Om_k
  pub y_is : Near (((x *ℤ sin_node) *ℤ pos unit) +ℤ ((y *ℤ cos_i) *ℤ cos_node))
      (pos (unit * unit)) place_y
  -- z_k = y_k' sin i_k
  pub z_is : IsProduct y sin_i place_z

-- ---- the whole chain

-- x, y, z is the satellite's place at t, in um, with n as its mean motion
pub record OrbitChain (el : Elements) (n t x y z : ℤ) : Type 0 where
  pub f : OrbitFields
  pub fields : AreOrbitFields el f
  -- t_k = t - t_oe
  pub after : ℤ
  pub after_is : after ≡ t -ℤ (el.week_start +ℤ f.toe_week)
  pub ratio : ℤ
  pub cos_v : ℤ
  pub sin_v : ℤ
  pub anomaly : Anomaly f n after ratio cos_v sin_v
  pub cos_u : ℤ
  pub sin_u : ℤ
  pub dr : ℤ
  pub di : ℤ
  pub latitude : Latitude f cos_v sin_v cos_u sin_u dr di
  pub radius : ℤ
  pub plane_x : ℤ
  pub plane_y : ℤ
  pub in_plane : InPlane f ratio dr cos_u sin_u radius plane_x plane_y
  pub earth_fixed : EarthFixed f after di plane_x plane_y x y z
