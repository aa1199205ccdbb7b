-- The digits of a number as bytes of a field: digits, printable, and not blank.
use Rattle.std.proofs.Common.{◌≡◌, ℕ, zero, suc, ◌+◌, ◌/◌, ◌%◌, ◌^◌, ◌<◌, true, false, refl, arith}
use Rattle.std.specs.Char.{is_ascii_digit}
use Rattle.std.specs.List.{list_all}
use Rattle.std.proofs.lemmas.Bool.{and_from}
use Rattle.std.proofs.lemmas.List.Sums.{AllPass-from_list_all}
use Rattle.decimal_digits.specs.Digits.{last_digits}
use Rattle.decimal_digits.proofs.DigitLemmas.{all_digits}
use Rattle.exact_decimal.specs.NumberFields.{is_blank, AreDigits}
use Rattle.rinex_text.specs.Bodies.{is_printable}

pub record IsDigitByte (byte : ℕ) : Type 0 where
  pub passes : is_ascii_digit byte ≡ true
  pub printable : is_printable byte ≡ true
  pub solid : is_blank byte ≡ false

pub a_digit : (d : ℕ) → d < 10 → IsDigitByte (48 + d)
a_digit d h = record { passes = grind arith; printable = grind arith; solid = grind arith }

pub are_digits : (k n : ℕ) → AreDigits (last_digits k n)
are_digits k n = AllPass-from_list_all is_ascii_digit (last_digits k n) (all_digits k n)

pub printable_digits : (k n : ℕ) → list_all is_printable (last_digits k n) ≡ true
unfolding last_digits
printable_digits zero n = refl
printable_digits (suc k) n = and_from _ _ (a_digit (n / 10 ^ k % 10) (omega arith)).printable (printable_digits k n)
