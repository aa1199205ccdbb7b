-- The bases of a receiver and of a station from which that of their difference is formed. No public
-- clause cites this.
use Rattle.std.specs.Prelude.{ℕ, ◌+◌, ◌*◌, ◌^◌, pos, ◌-ℤ◌, ◌≤ℤ◌}
use Rattle.gnss_model.specs.declared.delays.Delays.{Delays}
use Rattle.grid_model.specs.Sizes.{IsWithin}
use Rattle.grid_model.specs.declared.boxes.Pos.{Pos}
use Rattle.sat_rows.specs.Bases.{ComesFrom, IsNarrowBase}
use Rattle.sat_rows.specs.Chains.{Chain}
use Rattle.sat_rows.specs.declared.bases.Base.{Base}
use Rattle.station_rows.specs.Differences.{residual_of}
use Rattle.station_rows.specs.Nearby.{difference_reach}

-- how far the corrected pseudoranges of one receiver are apart, and the ranges to a station, in um
abbrev pub corrected_width : ℕ
corrected_width = 14

abbrev pub station_range_width : ℕ
station_range_width = 1779

-- how large the residuals of a station are, in um, and how far they are apart
abbrev pub residual_amount : ℕ
residual_amount = 179 * 10 ^ 12

abbrev pub residual_width : ℕ
residual_width = corrected_width + station_range_width

-- a base that was formed from one receiver's pseudorange
pub record IsBaseOfOne (base : Base) : Type 0 where
  pub narrow : IsNarrowBase base
  pub corrected : (base.range.hi -ℤ base.range.lo) ≤ℤ pos corrected_width

-- some values come from each, and the receiver's corrected pseudorange less the station's residual
-- is within 55,600 km
pub record HaveSmallDifference (receiver station : Base) (place : Pos) : Type 0 where
  pub delays : Delays
  pub p : Pos
  pub values : Chain
  pub comes : ComesFrom delays receiver p values
  pub station_delays : Delays
  pub station_values : Chain
  pub station_comes : ComesFrom station_delays station place station_values
  pub small : IsWithin difference_reach (values.corrected -ℤ residual_of station_values)
