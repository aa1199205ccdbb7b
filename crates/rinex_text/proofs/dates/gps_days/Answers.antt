use Rattle.std.proofs.Common.{refl, arith}
use Rattle.std.proofs.lemmas.Int.{ints}
use Rattle.rinex_text.proofs.DateLemmas.{too_early, too_late, in_time, days_are}
use Rattle.rinex_text.proofs.dates.gps_days.Goals as goal

pub returns-then-number-lt-FIRST_DAY-clause-date : goal.returns-then-number-lt-FIRST_DAY-clause-date
returns-then-number-lt-FIRST_DAY-clause-date c = (λ e. absurd cc, λ g. absurd (too_early _ _ _ c.in-Some.number c.in-Some.ensures.value (omega (arith, ints, c.if-number-lt-FIRST_DAY.true)) g))

pub returns-then-number-gt-LAST_DAY-clause-date : goal.returns-then-number-gt-LAST_DAY-clause-date
returns-then-number-gt-LAST_DAY-clause-date c = (λ e. absurd cc, λ g. absurd (too_late _ _ _ c.in-Some.number c.in-Some.ensures.value (omega (arith, ints, c.if-number-gt-LAST_DAY.true)) g))

pub returns-clause-date : goal.returns-clause-date
returns-clause-date c = (
  λ e. in_time _ _ _ c.in-Some.number (c.in-Some.ensures.date.0 refl) c.in-Some.ensures.value
      (omega (arith, ints, c.if-number-lt-FIRST_DAY.false)) (omega (arith, ints, c.if-number-gt-LAST_DAY.false)),
  λ g. refl,
)

pub returns-clause-value : goal.returns-clause-value
returns-clause-value c = days_are _ _ _ c.in-Some.number _ c.in-Some.ensures.value (omega (arith, ints, c.if-number-lt-FIRST_DAY.false, c.if-number-gt-LAST_DAY.false))
