-- Digits that spell a number in the one way: some, of which the first isn't a zero in front of others.
use Rattle.std.proofs.Common.{◌≡◌, ℕ, zero, suc, ◌+◌, ◌-◌, ◌*◌, ◌^◌, ◌%◌, ◌<◌, ◌≤◌, List, ◌∷◌, length, take, drop, get_or, refl, sym, ap, subst, ◌∙◌, inl, inr, arith}
use Rattle.std.proofs.Math.Nat.{pow-le-pow_right}
use Rattle.std.proofs.lemmas.Bool.{cases_lt}
use Rattle.std.proofs.Common.{length-take-le}
use Rattle.std.specs.Prelude.{ℤ, pos, negsuc}
use Rattle.std.specs.Fmt.{decimal, signed_decimal}
use Rattle.std.proofs.lemmas.Int.{ints}
use Rattle.std.proofs.lemmas.Grind.{common_steps}
use lib.Signed.{mag}
use Rattle.grid_model.specs.Sizes.{IsWithin}
use Rattle.std.specs.Str.Parse.{AllDigits, digits_value}
use Rattle.std.specs.Char.{digit_value}
use Rattle.std.proofs.lemmas.Fmt.{decimal_is_IsNumeral, decimal_is_IsNumeral_wide, decimal_digit, first_decimal, length-decimal-le, decimal-digits_value}
use Rattle.std.proofs.lemmas.Str.{digit_value_digit}
use Rattle.std.proofs.lemmas.Str.Parse.{digit_at, numerals_by_value, tells_digits}
use Rattle.std.proofs.lemmas.Int.Digits.{digits_more, digits_value_more, digits_value-lt}

pub record AreDigitsOf (digits : List ℕ) (n : ℕ) : Type 0 where
  pub some : 0 < length digits
  pub few : length digits ≤ 19
  pub plain : 1 < length digits → get_or digits 0 0 ≡ 48 → ⊥
  pub range : (i : ℕ) → i < length digits → (48 ≤ get_or digits i 0) × (get_or digits i 0 ≤ 57)

pub digits_of_number : (digits : List ℕ) (n : ℕ) → n ≤ 9999999999999999999 → digits ≡ decimal n
    → AreDigitsOf digits n
digits_of_number digits n small e = subst (λ ds. AreDigitsOf ds n) (sym e) record {
  some = (decimal_is_IsNumeral n (omega (arith, small))).0.0;
  few = length-decimal-le 19 n (omega arith) (omega (arith, small)) (omega (arith, small));
  plain = plain n small;
  range = λ i within. let is = digit_at (decimal n) i (decimal_is_IsNumeral n (omega (arith, small))).0.1 within in (is.0, is.1);
}
  where
    plain : (n : ℕ) → n ≤ 9999999999999999999 → 1 < length (decimal n) → get_or (decimal n) 0 0 ≡ 48
        → ⊥
    plain zero small more zeros = omega (arith, more, ap length (decimal_digit 0 (omega arith)))
    plain (suc k) small more zeros = omega (arith, zeros, first_decimal (suc k) (omega arith) (omega (arith, small)))

-- the byte of a digit, by the rest of its distance from that of 0
pub record IsDigitByte (byte digit : ℕ) : Type 0 where
  pub value : digit_value byte ≡ digit
  pub small : digit_value byte < 10

pub digit_byte : (byte : ℕ) → byte < 256 → (byte + 208) % 256 ≤ 9
    → IsDigitByte byte ((byte + 208) % 256)
digit_byte byte fits small =
    let is : digit_value byte + 48 ≡ byte = digit_value_digit byte (omega arith, omega arith) in
    record { value = omega (arith, is); small = omega (arith, is) }

-- one more digit is read
pub value_more : (digits : List ℕ) (i number digit : ℕ) → i < length digits
    → number ≡ digits_value 10 (take i digits) → digit_value (get_or digits i 0) ≡ digit
    → number * 10 + digit ≡ digits_value 10 (take (i + 1) digits)
value_more digits i number digit within value is = omega (arith, value, is, digits_value_more 10 digits i within)

-- 19 digits fit
pub below : (digits : List ℕ) (number : ℕ) → length digits ≤ 19 → AllDigits 10 digits
    → number ≡ digits_value 10 digits → number < 10 ^ 19
below digits number few all value = omega (arith, value, digits_value-lt 10 digits all, pow-le-pow_right {n = 10} (omega arith) few)

pub value_fits : (digits : List ℕ) (i number : ℕ) → get_or digits i 0 < 256
    → (get_or digits i 0 + 208) % 256 ≤ 9 → i < length digits → length digits ≤ 19
    → AllDigits 10 (take i digits) → number ≡ digits_value 10 (take i digits)
    → number * 10 + (get_or digits i 0 + 208) % 256 < 10 ^ 19
value_fits digits i number fits small within few all value =
    let is = digit_byte (get_or digits i 0) fits small in
    below (take (i + 1) digits) _ (omega (arith, length-take-le (i + 1) digits (omega arith))) (digits_more 10 digits i within all is.small) (value_more digits i number _ within value is.value)

one_only : (len : ℕ) → 0 < len → (1 < len → ⊥) → len ≡ 1
one_only len some not_more = elim (cases_lt 1 len) [ inl more ↦ absurd (not_more more) | inr one ↦ omega (arith, some, one) ]

pub number_spelled : (digits : List ℕ) (number : ℕ) → 0 < length digits → length digits ≤ 19
    → (1 < length digits → get_or digits 0 0 ≡ 48 → ⊥)
    → AllDigits 10 digits → number ≡ digits_value 10 digits → digits ≡ decimal number
number_spelled digits number some few plain all value =
    let small = below digits (digits_value 10 digits) few all refl in
    let spelled = decimal-digits_value (numerals_by_value _ tells_digits) digits all some (λ zeros. one_only (length digits) some (λ more. plain more zeros)) (omega (arith, small)) in
    sym (ap decimal value ∙ spelled)

pub behind_sign : (digits : List ℕ)
    → take (length (45 ∷ digits) - 1) (drop 1 (45 ∷ digits)) ≡ digits
behind_sign digits = grind (arith, common_steps)

-- what stands behind the minus of a word that spells a number
pub record IsBehindMinus (digits : List ℕ) : Type 0 where
  pub amount : ℕ
  pub some : 0 < amount
  pub within : amount ≤ 9999999999999999999
  pub spelled : digits ≡ decimal amount

pub behind_minus : (word : List ℕ) (n : ℤ) → get_or word 0 0 ≡ 45 → IsWithin 9999999999999999999 n
    → word ≡ signed_decimal n → IsBehindMinus (take (length word - 1) (drop 1 word))
behind_minus word (pos k) minus within e =
    let are = digits_of_number word k (omega (arith, ints, within.high)) e in
    absurd (omega (arith, minus, (are.range 0 are.some).0))
behind_minus word (negsuc k) minus within e = record {
  amount = suc k;
  some = omega arith;
  within = omega (arith, ints, within.low);
  spelled = rw e (behind_sign (decimal (suc k)));
}

-- two numbers of 128 bits that are spelled alike are one
pub one_amount : (m n : ℕ) → m < 10 ^ 64 → n < 10 ^ 64 → decimal m ≡ decimal n → m ≡ n
one_amount m n m_fits n_fits e = sym (decimal_is_IsNumeral_wide m m_fits).1 ∙ ap (digits_value 10) e ∙ (decimal_is_IsNumeral_wide n n_fits).1

no_minus : (m : ℕ) (digits : List ℕ) → m < 10 ^ 64 → decimal m ≡ 45 ∷ digits → ⊥
no_minus m digits fits e =
    let is = (decimal_is_IsNumeral_wide m fits).0 in
    let first : get_or (decimal m) 0 0 ≡ 45 = ap (λ ds. get_or ds 0 0) e in
    omega (arith, first, (digit_at (decimal m) 0 is.1 is.0).0)

pub one_spelled : (y z : ℤ) → mag y < 2 ^ 127 → mag z < 2 ^ 127
    → signed_decimal y ≡ signed_decimal z → y ≡ z
one_spelled (pos m) (pos n) y_fits z_fits e = ap pos (one_amount m n (omega (arith, y_fits)) (omega (arith, z_fits)) e)
one_spelled (pos m) (negsuc n) y_fits z_fits e = absurd (no_minus m (decimal (suc n)) (omega (arith, y_fits)) e)
one_spelled (negsuc m) (pos n) y_fits z_fits e = absurd (no_minus n (decimal (suc m)) (omega (arith, z_fits)) (sym e))
one_spelled (negsuc m) (negsuc n) y_fits z_fits e =
    let behind : decimal (suc m) ≡ decimal (suc n) = cc in
    let same : suc m ≡ suc n = one_amount (suc m) (suc n) (omega (arith, y_fits)) (omega (arith, z_fits)) behind in
    ap negsuc (omega (arith, same))
