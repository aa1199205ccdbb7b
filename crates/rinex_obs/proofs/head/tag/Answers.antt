use Rattle.grid_model.proofs.PlainLemmas.{false_is_not_true}
use Rattle.rinex_obs.proofs.HeadLemmas.{no_tag}
use Rattle.rinex_obs.proofs.head.tag.Goals as goal

pub returns-in_err-year-clause-none : goal.returns-in_err-year-clause-none
returns-in_err-year-clause-none c = rw c.from_residual.ensures (λ v is. c.in_err-year.ensures.none is.year is.year_is)

pub returns-in_err-month-clause-none : goal.returns-in_err-month-clause-none
returns-in_err-month-clause-none c = rw c.from_residual-in_err-month.ensures (λ v is. c.in_err-month.ensures.none is.month is.month_is)

pub returns-in_err-day-clause-none : goal.returns-in_err-day-clause-none
returns-in_err-day-clause-none c = rw c.from_residual-in_err-day.ensures (λ v is. c.in_err-day.ensures.none is.day is.day_is)

pub returns-in_err-hour-clause-none : goal.returns-in_err-hour-clause-none
returns-in_err-hour-clause-none c = rw c.from_residual-in_err-hour.ensures (λ v is. c.in_err-hour.ensures.none is.hour is.hour_is)

pub returns-in_err-minute-clause-none : goal.returns-in_err-minute-clause-none
returns-in_err-minute-clause-none c = rw c.from_residual-in_err-minute.ensures (λ v is. c.in_err-minute.ensures.none is.minute is.minute_is)

pub returns-in_err-tenths-clause-none : goal.returns-in_err-tenths-clause-none
returns-in_err-tenths-clause-none c = rw c.from_residual-in_err-tenths.ensures (λ v is. c.in_err-tenths.ensures.none is.tenths is.seconds_are)

pub returns-in-Err-clause-none : goal.returns-in-Err-clause-none
returns-in-Err-clause-none c = λ tag is.
    false_is_not_true (c.in-Err.ensures.date.1 (no_tag _ _ _ _ _ _ _ c.in_ok-year.ensures.number c.in_ok-month.ensures.number c.in_ok-day.ensures.number c.in_ok-hour.ensures.number c.in_ok-minute.ensures.number c.in_ok-tenths.ensures.tenths tag is))
