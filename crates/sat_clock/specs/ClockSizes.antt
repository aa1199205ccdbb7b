-- How large the numbers of the clock chain are, line by line, by the bounds of the record's fields.
-- Each rounded line adds at most two units to what its factors give.
use Rattle.std.specs.Prelude.{ℕ, ◌+◌, ◌*◌, ◌/◌, ◌^◌, ℤ, pos, neg_ℤ, ◌+ℤ◌, ◌-ℤ◌, ◌≤ℤ◌, nat_abs}
use Rattle.grid_model.specs.Angles.{unit}
use Rattle.gnss_model.specs.EarthModel.{relativity, rate_scale}
use Rattle.gnss_model.specs.RecordBounds.{offset_bound, drift_bound, ageing_bound, delay_bound}
use Rattle.gnss_model.specs.RecordBounds.{angle_bound, eccentricity_bound, greatest_root_a}
use Rattle.gnss_model.specs.RecordBounds.{clock_reach}
use Rattle.gnss_model.specs.declared.elements.Elements.{Elements}

-- how far a signal may be sent from the ephemeris time: 14,500 s in ps
abbrev pub ephemeris_reach : ℕ
ephemeris_reach = 14500 * 10 ^ 12

-- the times from lo to hi are so near to each ephemeris time
pub record IsNearEphemeris (el : Elements) (lo hi : ℤ) : Type 0 where
  pub low : neg_ℤ (pos ephemeris_reach) ≤ℤ (lo -ℤ (el.week_start +ℤ el.toe_week.hi))
  pub high : (hi -ℤ (el.week_start +ℤ el.toe_week.lo)) ≤ℤ pos ephemeris_reach

-- how far apart two ends are
abbrev pub width : ℤ → ℤ → ℕ
width lo hi = nat_abs (hi -ℤ lo)

-- a product of numbers of amounts m and n over den, rounded
abbrev pub rounded_size : ℕ → ℕ → ℕ → ℕ
rounded_size m n den = m * n / den + 1 + 2

-- tsv - toc
abbrev pub since_size : ℕ
since_size = ephemeris_reach + clock_reach

-- af1 + af2 (tsv - toc)
abbrev pub drift_size : ℕ
drift_size = drift_bound + rounded_size ageing_bound since_size rate_scale

-- af0 + af1 (tsv - toc) + af2 (tsv - toc)^2
abbrev pub offset_size : ℕ
offset_size = offset_bound + rounded_size drift_size since_size rate_scale

-- the same less the group delay
abbrev pub base_size : ℕ
base_size = offset_size + delay_bound

-- t_k
abbrev pub after_size : ℕ
after_size = ephemeris_reach + rounded_size base_size 1 (10 ^ 4)

-- n: 2 * 10^-4 rad/s in 10^-22, and how wide it is known
abbrev pub motion_size : ℕ
motion_size = 2 * 10 ^ 18

abbrev pub motion_width : ℕ
motion_width = 4096

-- M_k
abbrev pub mean_size : ℕ
mean_size = angle_bound + rounded_size motion_size after_size rate_scale

-- e sqrt(A) in 10^-16 m^(1/2), and times sin E_k
abbrev pub focus_size : ℕ
focus_size = rounded_size eccentricity_bound greatest_root_a (10 ^ 12)

abbrev pub height_size : ℕ
height_size = rounded_size focus_size (unit + 8) unit

-- dt_r
abbrev pub relative_size : ℕ
relative_size = rounded_size height_size relativity (10 ^ 19)

-- dt: 0.05 s in 10^-16 s
abbrev pub correction_size : ℕ
correction_size = 5 * 10 ^ 14

-- how far t may be from tsv: a second in ps
abbrev pub sent_reach : ℕ
sent_reach = 10 ^ 12

-- tsv and t, in ps
abbrev pub sent_size : ℕ
sent_size = 10 ^ 22

-- roots of semi-major axes, in 10^-12 m^(1/2), up to which the mean motion is known so narrowly
abbrev pub root_limit : ℕ
root_limit = 7 * 10 ^ 15
