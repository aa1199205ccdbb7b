-- The bounds of the numbers of a broadcast ephemeris, in the units of its fields. IS-GPS-200
-- (tables 20-I and 20-III) gives the fields; the bounds are wide of what GPS satellites send.
use Rattle.std.specs.Prelude.{ℕ, ◌*◌, ◌^◌, ℤ, pos, neg_ℤ, ◌+ℤ◌, ◌-ℤ◌, ◌≤ℤ◌}
use Rattle.grid_model.specs.Intervals.{Between}
use Rattle.grid_model.specs.Sizes.{IsWithin}
use Rattle.grid_model.specs.declared.spans.Wide.{Wide}

-- ---- the bounds

-- the coefficients of the clock: 10^-2 s in 10^-16 s, 10^-8 per s in 10^-22, 10^-13 per s^2 in
-- 10^-28
abbrev pub offset_bound : ℕ
offset_bound = 10 ^ 14

abbrev pub drift_bound : ℕ
drift_bound = 10 ^ 14

abbrev pub ageing_bound : ℕ
ageing_bound = 10 ^ 15

-- the group delay: 10^-5 s in 10^-16 s
abbrev pub delay_bound : ℕ
delay_bound = 10 ^ 11

-- an angle: 7 rad in 10^-16
abbrev pub angle_bound : ℕ
angle_bound = 7 * 10 ^ 16

-- a rate of an angle: 10^-7 per s in 10^-22
abbrev pub rate_bound : ℕ
rate_bound = 10 ^ 15

-- an amplitude of a correction: 10^-3 rad in 10^-16, or 5,000 m in um
abbrev pub angle_swing_bound : ℕ
angle_swing_bound = 10 ^ 13

abbrev pub radius_swing_bound : ℕ
radius_swing_bound = 5 * 10 ^ 9

-- the eccentricity, up to 0.2 in 10^-16
abbrev pub eccentricity_bound : ℕ
eccentricity_bound = 2 * 10 ^ 15

-- the root of the semi-major axis, from 5,000 to 6,600 m^(1/2) in 10^-12
abbrev pub least_root_a : ℕ
least_root_a = 5 * 10 ^ 15

abbrev pub greatest_root_a : ℕ
greatest_root_a = 66 * 10 ^ 14

-- a week, 604,800 s in ps
abbrev pub week : ℕ
week = 604800 * 10 ^ 12

-- absolute times end before 4 * 10^9 s, in ps
abbrev pub time_bound : ℕ
time_bound = 4 * 10 ^ 21

-- how far the clock time may be from the ephemeris time: half a week and a second, in ps
abbrev pub clock_reach : ℕ
clock_reach = 302401 * 10 ^ 12

-- ---- what a field holds

-- The numbers of a field lie from low to high. They are the floor and the ceiling of one decimal,
-- so they are at most one unit apart.
pub record LiesFrom (low high : ℤ) (field : Wide) : Type 0 where
  pub from : low ≤ℤ field.lo
  pub to : field.hi ≤ℤ high
  pub narrow : field.hi ≤ℤ (field.lo +ℤ pos 1)

abbrev pub IsField : ℕ → Wide → Type 0
IsField bound field = LiesFrom (neg_ℤ (pos bound)) (pos bound) field

-- x is a number of the field
abbrev pub IsValue : Wide → ℤ → Type 0
IsValue field x = Between field.lo field.hi x

-- the clock time is near both ends of the ephemeris time
pub record IsNearTime (toc start : ℤ) (toe : Wide) : Type 0 where
  pub low : IsWithin clock_reach (toc -ℤ (start +ℤ toe.lo))
  pub high : IsWithin clock_reach (toc -ℤ (start +ℤ toe.hi))
