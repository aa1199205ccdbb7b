-- How large the numbers of the orbit's equations are, and how far the numbers of one result may be
-- apart where the time is one of at most 64 ps. They follow one from the other in the order of
-- table 20-IV, with four units more for each product, for eccentricities up to 0.2 and roots of the
-- semi-major axis up to 6,600 m^(1/2). Amounts are crude: no law on sines and cosines is used.
use Rattle.std.specs.Prelude.{ℕ, ◌+◌, ◌*◌, ◌^◌, ℤ, pos, ◌+ℤ◌, ◌*ℤ◌}
use Rattle.grid_model.specs.Angles.{unit}
use Rattle.grid_model.specs.Intervals.{Between}

-- how far a time may be from the ephemeris time: 14,501 s in ps
abbrev pub orbit_reach : ℕ
orbit_reach = 14501 * 10 ^ 12

-- a mean motion, in 10^-22 rad/s
abbrev pub motion_amount : ℕ
motion_amount = 2 * 10 ^ 18

abbrev pub motion_width : ℕ
motion_width = 4096

-- how wide a time is whose place is wanted, and the time from the ephemeris time, in ps
abbrev pub time_width : ℕ
time_width = 64

abbrev pub after_width : ℕ
after_width = 65

-- ---- the ellipse, in 10^-16

abbrev pub eccentricity_amount : ℕ
eccentricity_amount = 2 * 10 ^ 15

abbrev pub mean_amount : ℕ
mean_amount = 99002000000000002

abbrev pub mean_width : ℕ
mean_width = 195

abbrev pub eccentric_width : ℕ
eccentric_width = 456

-- every sine and cosine
abbrev pub value_amount : ℕ
value_amount = unit + 8

abbrev pub eccentric_value_width : ℕ
eccentric_value_width = 472

abbrev pub ratio_amount : ℕ
ratio_amount = 12000000000000004

abbrev pub ratio_width : ℕ
ratio_width = 100

abbrev pub least_ratio : ℕ
least_ratio = 7999999999999996

-- the root of 1 - e^2 times a sine, in 10^-32
abbrev pub height_amount : ℕ
height_amount = 100000000000000080000000000000002

abbrev pub height_width : ℕ
height_width = 4730000000000000012

-- the true anomaly's cosine and sine
abbrev pub true_amount : ℕ
true_amount = 15000000000000020

abbrev pub true_width : ℕ
true_width = 1079

-- ---- the argument of latitude, in 10^-16

abbrev pub perigee_width : ℕ
perigee_width = 17

abbrev pub phi_amount : ℕ
phi_amount = 30000000000000070

abbrev pub phi_width : ℕ
phi_width = 2218

abbrev pub twice_amount : ℕ
twice_amount = 180000000000000846

abbrev pub twice_width : ℕ
twice_width = 26626

-- the corrections of an angle, in 10^-16, and of the radius, in um
abbrev pub angle_swing_amount : ℕ
angle_swing_amount = 360000000000006

abbrev pub angle_swing_width : ℕ
angle_swing_width = 98

abbrev pub radius_swing_amount : ℕ
radius_swing_amount = 180000000006

abbrev pub radius_swing_width : ℕ
radius_swing_width = 46

-- the cosine and sine of the correction: its sine is small
abbrev pub swing_value_width : ℕ
swing_value_width = 114

abbrev pub swing_sine_amount : ℕ
swing_sine_amount = 1080000000000041

abbrev pub latitude_amount : ℕ
latitude_amount = 33240000000000230

abbrev pub latitude_width : ℕ
latitude_width = 3151

-- ---- lengths, in um

-- the root of the semi-major axis, in 10^-12 m^(1/2)
abbrev pub root_a_amount : ℕ
root_a_amount = 66 * 10 ^ 14

abbrev pub axis_amount : ℕ
axis_amount = 43560000000002

abbrev pub axis_width : ℕ
axis_width = 5

abbrev pub radius_amount : ℕ
radius_amount = 52452000000011

abbrev pub radius_width : ℕ
radius_width = 57

abbrev pub plane_amount : ℕ
plane_amount = 174350448000040

abbrev pub plane_width : ℕ
plane_width = 210

-- ---- the earth-fixed frame

abbrev pub inclination_amount : ℕ
inclination_amount = 70374501000000008

abbrev pub inclination_width : ℕ
inclination_width = 104

abbrev pub inclination_value_width : ℕ
inclination_value_width = 120

abbrev pub node_amount : ℕ
node_amount = 521615921246645674

abbrev pub node_width : ℕ
node_width = 58

abbrev pub node_value_width : ℕ
node_value_width = 74

-- the part of y' in the plane of the equator
abbrev pub level_amount : ℕ
level_amount = 174350448000043

abbrev pub level_width : ℕ
level_width = 217

abbrev pub place_amount : ℕ
place_amount = 348700896000089

abbrev pub place_width : ℕ
place_width = 439

-- ---- how far a satellite is from the earth's centre, in um: 19,900 to 52,300 km

abbrev pub least_distance : ℕ
least_distance = 19900 * 10 ^ 9

abbrev pub greatest_distance : ℕ
greatest_distance = 52300 * 10 ^ 9

-- a coordinate at a time of at most 64 ps
abbrev pub coordinate_amount : ℕ
coordinate_amount = 54 * 10 ^ 12

abbrev pub IsOrbitDistance : ℤ → ℤ → ℤ → Type 0
IsOrbitDistance x y z = Between (pos (least_distance * least_distance))
    (pos (greatest_distance * greatest_distance)) ((x *ℤ x) +ℤ (y *ℤ y) +ℤ (z *ℤ z))
