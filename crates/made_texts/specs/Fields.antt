-- An exponent field of a RINEX 3 navigation file (format D19.12), and the number that it has.
use Rattle.std.specs.Prelude.{ℕ, ◌+◌, ◌/◌, ◌%◌, ◌^◌, pos, ◌-ℤ◌, Bool, true, false, List, ◌∷◌, ◌++◌}
use Rattle.decimal_digits.specs.Digits.{last_digits}
use Rattle.exact_decimal.specs.NumberFields.{signed}
use Rattle.exact_decimal.specs.declared.decimal.Decimal.{Decimal}
use Rattle.made_texts.specs.declared.field_number.FieldNumber.{FieldNumber}

-- a minus, or another byte
abbrev pub minus_or : ℕ → Bool → ℕ
minus_or other true = 45
minus_or other false = other

-- 19 columns: a minus or a blank, a digit, a point, twelve digits, `D`, a sign and two digits
unfoldable pub field_text : FieldNumber → List ℕ
field_text w =
    minus_or 32 w.negative
    ∷ (48 + w.digits / 10 ^ 12 % 10)
    ∷ 46
    ∷ (last_digits 12 w.digits ++ 68 ∷ minus_or 43 w.negative_power ∷ last_digits 2 w.power)

-- the number that it has
abbrev pub number_of : FieldNumber → Decimal
number_of w = record {
  digits = signed w.negative (w.digits % 10 ^ 13);
  ten = signed w.negative_power (w.power % 10 ^ 2) -ℤ pos 12;
}

-- of 0
abbrev pub zero_field : FieldNumber
zero_field = record { negative = false; digits = 0; negative_power = false; power = 0 }
