-- The ephemeris time: which week it is in, and how far a time is from it (IS-GPS-200, 20.3.3.4.3
-- and 20.3.3.3.3.1). A record gives the time in its week; times are in ps since 1980-01-06 00:00:00
-- GPS time.
use Rattle.std.specs.Prelude.{ℕ, ◌*◌, ◌^◌, ◌≡◌, ℤ, pos, neg_ℤ, ◌+ℤ◌, ◌-ℤ◌, ◌*ℤ◌, ◌≤ℤ◌, ◌<ℤ◌}
use Rattle.std.specs.Prelude.{unsigned_abs}
use Rattle.exact_decimal.specs.Units.{numerator, denominator}
use Rattle.exact_decimal.specs.declared.unit.Unit.TheVariants.{Time}
use Rattle.gnss_model.specs.RecordBounds.{week}
use Rattle.grid_model.specs.Rounding.{IsFloor}
use Rattle.rinex_nav.specs.FieldBounds.{field_of, IsInside}
use Rattle.rinex_nav.specs.declared.record.NavRecord.{NavRecord}

abbrev pub half_week : ℕ
half_week = 302400 * 10 ^ 12

-- start begins the week that brings the time in it nearest to the clock time, at a tie the later
-- week
pub record IsNearestWeek (toc toe start : ℤ) : Type 0 where
  pub weeks : ℤ
  pub start_is : start ≡ weeks *ℤ pos week
  pub after : neg_ℤ (pos half_week) <ℤ ((start +ℤ toe) -ℤ toc)
  pub before : ((start +ℤ toe) -ℤ toc) ≤ℤ pos half_week

-- the ephemeris time; its time in the week is rounded down
pub record IsEphemerisTime (r : NavRecord) (time : ℤ) : Type 0 where
  pub inside : IsInside r.fields 11
  pub toe : ℤ
  pub start : ℤ
  pub toe_is : IsFloor (numerator (field_of r.fields 11).digits (field_of r.fields 11).ten Time)
      (pos (denominator (field_of r.fields 11).ten Time)) toe
  pub start_is : IsNearestWeek r.toc toe start
  pub time_is : time ≡ start +ℤ toe

-- age is how far a time is from the ephemeris time
abbrev pub IsAge : NavRecord → ℤ → ℤ → Type 0
IsAge r tag age = (time : ℤ) × IsEphemerisTime r time × (age ≡ pos (unsigned_abs (tag -ℤ time)))
