-- Seconds in 10^-7 s.
use Rattle.std.proofs.Common.{◌≡◌, ℕ, ◌-◌, ◌*◌, ◌^◌, ◌<◌, ◌≤◌, arith, ap, refl, ◌∙◌}
use Rattle.std.specs.Prelude.{pos, neg_ℤ}
use Rattle.std.proofs.lemmas.Int.{ints}
use Rattle.std.proofs.Math.Nat.{le-mul_of_pos_right, mul-le-mul_left}
use Rattle.exact_decimal.specs.declared.decimal.Decimal.{Decimal}
use Rattle.exact_decimal.proofs.Units.{power_some}
use Rattle.rinex_obs.specs.Reading.{AreTenths}

pub product_fits : (digits power : ℕ) → digits < 600000000 → power ≤ 10000000
    → digits * power ≤ 6000000000000000
product_fits digits power d p = omega (arith, d, mul-le-mul_left digits p)

pub digits_under : (number : Decimal) (tenths : ℕ) (t : AreTenths number tenths)
    → t.digits < 600000000
digits_under number tenths t = omega (arith, t.value, t.under, le-mul_of_pos_right t.digits (power_some (7 - t.decimals)))

-- the answer is this number
pub same_tenths : (number : Decimal) (digits decimals power tenths : ℕ) → number.digits ≡ pos digits
    → number.ten ≡ neg_ℤ (pos decimals) → power ≡ 10 ^ (7 - decimals)
    → AreTenths number tenths → tenths ≡ digits * power
same_tenths number digits decimals power tenths d e p t =
    let same : t.digits ≡ digits = omega (arith, ints, d, t.digits_are) in
    let also : t.decimals ≡ decimals = omega (arith, ints, e, t.ten_is) in
    t.value ∙ (rw (same, also, p) refl)

pub over_minute : (number : Decimal) (digits decimals power : ℕ) → number.digits ≡ pos digits
    → number.ten ≡ neg_ℤ (pos decimals) → power ≡ 10 ^ (7 - decimals)
    → 600000000 ≤ digits * power → (tenths : ℕ) → AreTenths number tenths → ⊥
over_minute number digits decimals power d e p over tenths t =
    let same = same_tenths number digits decimals power tenths d e p t in
    absurd (omega (arith, over, same, t.under))

pub are_tenths : (number : Decimal) (digits decimals power : ℕ) → number.digits ≡ pos digits
    → number.ten ≡ neg_ℤ (pos decimals) → decimals ≤ 7 → power ≡ 10 ^ (7 - decimals)
    → digits * power < 600000000 → AreTenths number (digits * power)
are_tenths number digits decimals power d e few p under = record {
  digits = digits;
  decimals = decimals;
  digits_are = d;
  ten_is = e;
  few = few;
  value = ap (λ (n : ℕ). digits * n) p;
  under = under;
}
