-- Fields, counts and clock times: what none is, and that there is only one.
use Rattle.std.proofs.Common.{◌≡◌, ℕ, ◌*◌, List, inl, inr, Option, None, Result, Ok, Err}
use Rattle.std.specs.Prelude.{ℤ, pos, ◌↔◌}
use Rattle.exact_decimal.specs.declared.decimal.BadNumber.{BadNumber}
use Rattle.exact_decimal.specs.declared.decimal.Decimal.{Decimal}
use Rattle.exact_decimal.specs.Counts.{IsCount}
use Rattle.exact_decimal.specs.NumberFields.{AreBlanks, IsFloating}
use Rattle.exact_decimal.specs.Reading.{Reads}
use Rattle.rinex_text.specs.Columns.{columns_of}
use Rattle.rinex_text.specs.Dates.{IsGpsTime, gps_time}
use Rattle.rinex_text.proofs.FieldLemmas.{same_count}
use Rattle.rinex_nav.specs.Fields.{IsField, IsClockTime}

pub no_field : (read : Result (Option Decimal) BadNumber) (field : List ℕ) (e : BadNumber)
    → (read ≡ Ok None) ↔ AreBlanks field
    → ((digits ten : ℤ) → Reads read digits ten ↔ IsFloating field digits ten)
    → read ≡ Err e → (number : Decimal) → IsField field number → ⊥
no_field read field e blank numbers is number of = elim of [
  | inl (blanks, zero) ↦ let other = blank.1 blanks in cc
  | inr floating ↦ let other = (numbers number.digits number.ten).1 floating in cc
]

pub no_time : (text : List ℕ) (year month day hour minute second : ℕ)
    → IsCount (columns_of text 5 8) year → IsCount (columns_of text 10 11) month
    → IsCount (columns_of text 13 14) day → IsCount (columns_of text 16 17) hour
    → IsCount (columns_of text 19 20) minute → IsCount (columns_of text 22 23) second
    → (toc : ℤ) → IsClockTime text toc
    → IsGpsTime year month day hour minute (second * 10000000) × (toc ≡ pos (gps_time year month day hour minute (second * 10000000)))
no_time text year month day hour minute second y mo d h mi s toc is =
    let ey = same_count _ _ _ is.year_is y in
    let emo = same_count _ _ _ is.month_is mo in
    let ed = same_count _ _ _ is.day_is d in
    let eh = same_count _ _ _ is.hour_is h in
    let emi = same_count _ _ _ is.minute_is mi in
    let es = same_count _ _ _ is.second_is s in
    (rw (ey, emo, ed, eh, emi, es) at is.time, rw (ey, emo, ed, eh, emi, es) at is.value)
