-- The first and the last day of the calendar that is read.
use Rattle.std.proofs.Common.{◌≡◌, ℕ, arith, refl}
use Rattle.std.specs.Prelude.{ℤ, pos, ◌-ℤ◌, ◌≤ℤ◌, ◌<ℤ◌}
use Rattle.std.proofs.lemmas.Int.{ints}
use Rattle.jiff_core.specs.Calendar.{IsDate, days_of_years, days_of_months, day_count, days_from_civil}
use Rattle.grid_model.proofs.AmountLemmas.{above_is}
use Rattle.rinex_text.specs.Dates.{first_day, last_day, IsGpsDate, days_behind_first}

pub first_day_is : first_day ≡ pos 3657
unfolding days_from_civil day_count days_of_years days_of_months
first_day_is = refl

pub last_day_is : last_day ≡ pos 47481
unfolding days_from_civil day_count days_of_years days_of_months
last_day_is = refl

-- the day number n of a date
pub too_early : (year month day : ℕ) (n : ℤ) → n ≡ days_from_civil (pos year) month day
    → n <ℤ pos 3657 → IsGpsDate year month day → ⊥
too_early year month day n e early g = let f = first_day_is in omega (arith, ints, f, g.from)

pub too_late : (year month day : ℕ) (n : ℤ) → n ≡ days_from_civil (pos year) month day
    → pos 47481 <ℤ n → IsGpsDate year month day → ⊥
too_late year month day n e late g = let f = last_day_is in omega (arith, ints, f, g.to)

pub in_time : (year month day : ℕ) (n : ℤ) → IsDate (pos year) (pos month) (pos day)
    → n ≡ days_from_civil (pos year) month day → pos 3657 ≤ℤ n → n ≤ℤ pos 47481
    → IsGpsDate year month day
in_time year month day n date e from to =
    let f = first_day_is in
    let g = last_day_is in
    record { date = date; from = omega (arith, ints, f); to = omega (arith, ints, g) }

pub days_are : (year month day : ℕ) (n : ℤ) (days : ℕ) → n ≡ days_from_civil (pos year) month day
    → pos days ≡ n -ℤ pos 3657 → days ≡ days_behind_first year month day
days_are year month day n days e is =
    let f = first_day_is in
    let a = above_is (days_from_civil (pos year) month day) first_day in
    omega (arith, ints, f, a)
