-- The version that a header names.
use Rattle.std.proofs.Common.{◌≡◌, ℕ, List, subst, Option, Some, Result, Ok}
use Rattle.std.specs.Prelude.{ℤ, pos, ◌↔◌}
use Rattle.exact_decimal.specs.declared.decimal.BadNumber.{BadNumber}
use Rattle.exact_decimal.specs.declared.decimal.Decimal.{Decimal}
use Rattle.exact_decimal.specs.declared.unit.Unit.TheVariants.{Ratio}
use Rattle.exact_decimal.specs.NumberFields.{IsFixed}
use Rattle.exact_decimal.specs.Reading.{Reads}
use Rattle.exact_decimal.specs.Units.{LiesBetween}
use Rattle.rinex_text.specs.Headers.{IsVersion}

-- the field's number is the only one
pub version_lies : (read : Result (Option Decimal) BadNumber) (field : List ℕ) (number : Decimal)
    → ((digits ten : ℤ) → Reads read digits ten ↔ IsFixed field digits ten)
    → read ≡ Ok (Some number) → IsVersion field
    → LiesBetween number.digits number.ten Ratio (pos 30000000000000000) (pos 30500000000000000)
version_lies read field number numbers is v =
    let other = (numbers v.digits v.ten).1 v.number in
    let same : ◌≡◌ {A = Decimal} (record { digits = v.digits; ten = v.ten }) number = cc in
    subst (λ (n : Decimal). LiesBetween n.digits n.ten Ratio (pos 30000000000000000) (pos 30500000000000000)) same v.lies

pub is_version : (read : Result (Option Decimal) BadNumber) (field : List ℕ) (number : Decimal)
    → ((digits ten : ℤ) → Reads read digits ten ↔ IsFixed field digits ten)
    → read ≡ Ok (Some number)
    → LiesBetween number.digits number.ten Ratio (pos 30000000000000000) (pos 30500000000000000)
    → IsVersion field
is_version read field number numbers is lies = record {
  digits = number.digits;
  ten = number.ten;
  number = (numbers number.digits number.ten).0 is;
  lies = lies;
}
