-- How large and how wide the numbers are from which a code is found. Lengths are in um, times in
-- ps.
use Rattle.std.specs.Prelude.{ℕ, ◌*◌, ◌^◌, ℤ, pos, neg_ℤ, ◌+ℤ◌, ◌-ℤ◌, ◌≤ℤ◌}
use Rattle.broadcast_orbit.specs.OrbitSizes.{orbit_reach}
use Rattle.grid_model.specs.Sizes.{IsWithin}
use Rattle.grid_model.specs.declared.boxes.Pos.{Pos}
use Rattle.gnss_model.specs.declared.elements.Elements.{Elements}

-- how far the ephemeris time may be from the time of the epoch: 14,401 s in ps
abbrev pub epoch_reach : ℕ
epoch_reach = 14401 * 10 ^ 12

pub record IsNearEpoch (el : Elements) (tag : ℤ) : Type 0 where
  pub low : IsWithin epoch_reach (tag -ℤ (el.week_start +ℤ el.toe_week.lo))
  pub high : IsWithin epoch_reach (tag -ℤ (el.week_start +ℤ el.toe_week.hi))

pub record IsNearOrbit (el : Elements) (lo hi : ℤ) : Type 0 where
  pub from : neg_ℤ (pos orbit_reach) ≤ℤ (lo -ℤ (el.week_start +ℤ el.toe_week.hi))
  pub to : (hi -ℤ (el.week_start +ℤ el.toe_week.lo)) ≤ℤ pos orbit_reach

-- a code from -20,000 km to 80,000 km, and two neighbours
abbrev pub code_amount : ℕ
code_amount = 81 * 10 ^ 12

abbrev pub code_width : ℕ
code_width = 1002

-- the code with what the clock's offset makes of it
abbrev pub corrected_amount : ℕ
corrected_amount = 97 * 10 ^ 12

-- a point within 5,000 km on each axis
pub record IsNearPoint (p : Pos) : Type 0 where
  pub x : IsWithin 5000000000000 p.x
  pub y : IsWithin 5000000000000 p.y
  pub z : IsWithin 5000000000000 p.z

-- what the clock's offset makes of a code, at most: 0.05 s of light in um, rounded up
abbrev pub greatest_offset : ℕ
greatest_offset = 14990 * 10 ^ 9

-- a satellite is at most so far from such a point, in um: its orbit is within 52,300 km of the
-- earth's centre
abbrev pub farthest_range : ℕ
farthest_range = 61000 * 10 ^ 9

-- codes are counted in mm from -20,000 km on, up to 80,000 km
abbrev pub last_code : ℕ
last_code = 10 ^ 11

-- how wide, in um, the residuals of one code are, and those of two neighbours
abbrev pub one_width : ℕ
one_width = 3507

abbrev pub pair_width : ℕ
pair_width = 4507
