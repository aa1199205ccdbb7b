-- The ephemeris time of made records, and how far the epochs are from it.
use Rattle.std.proofs.Common.{◌≡◌, ℕ, ◌+◌, ◌*◌, ◌^◌, ◌<◌, List, ap, subst, refl, ◌∙◌, arith}
use Rattle.std.specs.Prelude.{ℤ, pos, ◌+ℤ◌, ◌*ℤ◌, ◌≤ℤ◌, ◌<ℤ◌}
use Rattle.std.proofs.lemmas.Int.{ints}
use Rattle.exact_decimal.specs.declared.decimal.Decimal.{Decimal}
use Rattle.exact_decimal.specs.declared.unit.Unit.TheVariants.{Time}
use Rattle.rinex_nav.specs.ElementsOf.{IsRounded, AreElements}
use Rattle.rinex_nav.specs.FieldBounds.{field_of}
use Rattle.rinex_nav.specs.Reading.{plain_record}
use Rattle.rinex_nav.specs.Records.{Broadcast}
use Rattle.rinex_nav.specs.Weeks.{IsNearestWeek}
use Rattle.rinex_nav.specs.declared.record.NavRecord.{NavRecord}
use Rattle.jiff_core.specs.Calendar.{days_of_years, days_of_months, day_count, days_from_civil}
use Rattle.rinex_text.specs.Dates.{gps_time}
use Rattle.grid_model.specs.Amounts.{above}
use Rattle.gnss_model.specs.declared.elements.Elements.{Elements}
use Rattle.code_simulation.specs.SearchSizes.{IsNearEpoch}
use Rattle.made_input.specs.MadeCodes.{tag_of}
use Rattle.made_input.specs.MadeRecords.{made_broadcast}

pub first_time : gps_time 2024 1 7 1 0 0 ≡ 1388624400000000000000
unfolding above days_from_civil day_count days_of_years days_of_months
first_time = refl

pub clock_time : gps_time 2024 1 7 2 0 0 ≡ 1388628000000000000000
unfolding above days_from_civil day_count days_of_years days_of_months
clock_time = refl

pub tag_is : (j : ℕ) → tag_of j ≡ pos (1388624400000000000000 + 30 * j * 10 ^ 12)
tag_is j = ap (λ (n : ℕ). pos (n + 30 * j * 10 ^ 12)) first_time

pub toc_is : (k u : ℕ) (r : NavRecord) → plain_record r ≡ made_broadcast k u
    → r.toc ≡ pos 1388628000000000000000
toc_is k u r numbers = ap (λ (b : Broadcast). b.toc) numbers ∙ ap (λ (n : ℕ). pos n) clock_time

-- 2024-01-07 02:00:00 is 7,200 s into a week
pub week_is : (toe start : ℤ) → toe ≡ pos 7200000000000000
    → IsNearestWeek (pos 1388628000000000000000) toe start → start ≡ pos 1388620800000000000000
week_is toe start is k =
    let e : start ≡ k.weeks *ℤ pos 604800000000000000 = k.start_is in
    let from : pos 1388628000000000000000 <ℤ (start +ℤ toe +ℤ pos 302400000000000000) = omega (arith, ints, k.after) in
    let to : (start +ℤ toe) ≤ℤ pos 1388930400000000000000 = omega (arith, ints, k.before) in
    let weeks : k.weeks ≡ pos 2296 = omega (arith, ints, e, is, from, to) in
    omega (arith, ints, e, weeks)

pub record IsMadeTime (el : Elements) : Type 0 where
  pub start : el.week_start ≡ pos 1388620800000000000000
  pub low : el.toe_week.lo ≡ pos 7200000000000000
  pub high : el.toe_week.hi ≡ pos 7200000000000000

pub made_time : (k u : ℕ) (r : NavRecord) (el : Elements) → plain_record r ≡ made_broadcast k u
    → AreElements r el → IsMadeTime el
made_time k u r el numbers a =
    let toc = toc_is k u r numbers in
    let fields : r.fields ≡ (made_broadcast k u).fields = ap (λ (b : Broadcast). b.fields) numbers in
    let toe = subst (λ (fs : List Decimal). IsRounded el.toe_week (field_of fs 11) Time) fields a.toe_week in
    let floor_le : (el.toe_week.lo *ℤ pos 1) ≤ℤ pos 7200000000000000 = toe.floor.le in
    let floor_gt : pos 7200000000000000 <ℤ ((el.toe_week.lo *ℤ pos 1) +ℤ pos 1) = toe.floor.gt in
    let ceiling_ge : pos 7200000000000000 ≤ℤ (el.toe_week.hi *ℤ pos 1) = toe.ceiling.ge in
    let ceiling_lt : (el.toe_week.hi *ℤ pos 1) <ℤ (pos 7200000000000000 +ℤ pos 1) = toe.ceiling.lt in
    let low : el.toe_week.lo ≡ pos 7200000000000000 = omega (arith, ints, floor_le, floor_gt) in
    let high : el.toe_week.hi ≡ pos 7200000000000000 = omega (arith, ints, ceiling_ge, ceiling_lt) in
    record { start = week_is el.toe_week.lo el.week_start low (subst (λ (z : ℤ). IsNearestWeek z el.toe_week.lo el.week_start) toc a.week_start); low = low; high = high }

pub near_epoch : (j : ℕ) (el : Elements) → j < 240 → IsMadeTime el → IsNearEpoch el (tag_of j)
near_epoch j el few is =
    rw (tag_is j) (record {
      low = record { low = omega (arith, ints, few, is.start, is.low); high = omega (arith, ints, few, is.start, is.low) };
      high = record { low = omega (arith, ints, few, is.start, is.high); high = omega (arith, ints, few, is.start, is.high) };
    })
