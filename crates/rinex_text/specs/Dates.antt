-- Times in picoseconds since 1980-01-06 00:00:00 of GPS time, in which no second is left out or
-- added.
use Rattle.std.specs.Prelude.{ℕ, ◌+◌, ◌*◌, ◌≤◌, ◌<◌, ℤ, pos, ◌≤ℤ◌}
use Rattle.jiff_core.specs.Calendar.{IsDate, days_from_civil}
use Rattle.grid_model.specs.Amounts.{above}

-- the day numbers of 1980-01-06, on which GPS time begins, and of 2099-12-31
abbrev pub first_day : ℤ
first_day = days_from_civil (pos 1980) 1 6

abbrev pub last_day : ℤ
last_day = days_from_civil (pos 2099) 12 31

-- a date from the first of these days to the last
pub record IsGpsDate (year month day : ℕ) : Type 0 where
  pub date : IsDate (pos year) (pos month) (pos day)
  pub from : first_day ≤ℤ days_from_civil (pos year) month day
  pub to : days_from_civil (pos year) month day ≤ℤ last_day

-- such a date, and a time of that day in hours, minutes and 10^-7 s
pub record IsGpsTime (year month day hour minute tenths : ℕ) : Type 0 where
  pub date : IsGpsDate year month day
  pub hour_in : hour ≤ 23
  pub minute_in : minute ≤ 59
  pub tenths_in : tenths < 600000000

abbrev pub days_behind_first : ℕ → ℕ → ℕ → ℕ
days_behind_first year month day = above (days_from_civil (pos year) month day) first_day

-- a day has 86,400 s, a second 10^12 ps, and 10^-7 s are 10^5 ps
abbrev pub gps_time : ℕ → ℕ → ℕ → ℕ → ℕ → ℕ → ℕ
gps_time year month day hour minute tenths =
    (days_behind_first year month day * 86400 + hour * 3600 + minute * 60) * 1000000000000 + tenths
    * 100000
