-- How a reader cuts a number field, from left to right. No public clause cites this.
use Rattle.std.specs.Prelude.{◌≡◌, ℕ, ◌+◌, ◌-◌, ◌⊎◌, ℤ, pos, neg_ℤ, ◌-ℤ◌, Bool, true, false}
use Rattle.std.specs.Prelude.{◌||◌, ◌&&◌, ◌==◌}
use Rattle.std.specs.Prelude.{nat_lt, nat_le, cond, List, [], ◌∷◌, ◌++◌, length, take, drop, Option}
use Rattle.std.specs.Prelude.{None, Some, Result, Ok, Err}
use Rattle.std.specs.Char.{is_ascii_digit}
use Rattle.std.specs.List.{prefix_len}
use Rattle.std.specs.Str.Parse.{digits_value}
use Rattle.exact_decimal.specs.declared.decimal.BadNumber.{BadNumber}
use Rattle.exact_decimal.specs.declared.decimal.Decimal.{Decimal}
use Rattle.exact_decimal.specs.NumberFields.{is_blank, is_exponent_letter, signed}

-- the longest front of bytes that pass, and what stands behind it
abbrev pub front : (ℕ → Bool) → List ℕ → List ℕ
front passes text = take (prefix_len passes text) text

abbrev pub behind : (ℕ → Bool) → List ℕ → List ℕ
behind passes text = drop (prefix_len passes text) text

abbrev pub is_negative : List ℕ → Bool
is_negative [] = false
is_negative (byte ∷ bytes) = byte == 45

abbrev pub behind_sign : List ℕ → List ℕ
behind_sign [] = []
behind_sign (byte ∷ bytes) = cond (byte == 45 || byte == 43) bytes (byte ∷ bytes)

abbrev pub fraction_of : List ℕ → List ℕ
fraction_of [] = []
fraction_of (byte ∷ bytes) = cond (byte == 46) (front is_ascii_digit bytes) []

abbrev pub behind_fraction : List ℕ → List ℕ
behind_fraction [] = []
behind_fraction (byte ∷ bytes) = cond (byte == 46) (behind is_ascii_digit bytes) (byte ∷ bytes)

-- the parts of the mantissa at the front of a text
abbrev pub whole_at : List ℕ → List ℕ
whole_at text = front is_ascii_digit (behind_sign text)

abbrev pub fraction_at : List ℕ → List ℕ
fraction_at text = fraction_of (behind is_ascii_digit (behind_sign text))

abbrev pub behind_mantissa : List ℕ → List ℕ
behind_mantissa text = behind_fraction (behind is_ascii_digit (behind_sign text))

-- 1 to 18 digits
abbrev pub has_digits : List ℕ → List ℕ → Bool
has_digits whole fraction =
    nat_lt 0 (length whole + length fraction) && nat_le (length whole + length fraction) 18

abbrev pub digits_at : List ℕ → ℤ
digits_at text = signed (is_negative text) (digits_value 10 (whole_at text ++ fraction_at text))

-- the exponent in a text, and what stands behind it: 0 and the text where there is no letter, and
-- none where a letter has no exponent behind it
abbrev pub exponent_with : Bool → List ℕ → List ℕ → Option (ℤ × List ℕ)
exponent_with negative digits rest =
    cond (nat_lt 0 (length digits) && nat_le (length digits) 2)
    (Some (signed negative (digits_value 10 digits), rest)) None

abbrev pub exponent_behind : List ℕ → Option (ℤ × List ℕ)
exponent_behind text = exponent_with (is_negative text) (front is_ascii_digit (behind_sign text))
    (behind is_ascii_digit (behind_sign text))

abbrev pub exponent_of : List ℕ → Option (ℤ × List ℕ)
exponent_of [] = Some (signed false 0, [])
exponent_of (byte ∷ bytes) =
    cond (is_exponent_letter byte) (exponent_behind bytes) (Some (signed false 0, byte ∷ bytes))

-- what a number of the usual form begins with: a blank, or a minus sign
abbrev pub Begins : Bool → ℕ → Type 0
Begins false byte = byte ≡ 32
Begins true byte = byte ≡ 45

-- the two bytes in front of its point: its digit behind such a byte, or none, which stands for 0,
-- behind a blank and such a byte
abbrev pub Opens : ℕ → ℕ → Bool → ℕ → Type 0
Opens first second negative whole =
    (Begins negative first × (is_ascii_digit second ≡ true) × (whole ≡ second - 48))
    ⊎ ((first ≡ 32) × Begins negative second × (whole ≡ 0))

-- ---- the answers

abbrev pub is_blank_text : List ℕ → Bool
is_blank_text text = length (behind is_blank text) == 0

abbrev pub number : ℤ → ℤ → Result (Option Decimal) BadNumber
number digits ten = Ok (Some (record { digits = digits; ten = ten }))

abbrev pub fixed_text : List ℕ → Result (Option Decimal) BadNumber
fixed_text text =
    cond (has_digits (whole_at text) (fraction_at text) && is_blank_text (behind_mantissa text))
    (number (digits_at text) (neg_ℤ (pos (length (fraction_at text))))) (Err (record {}))

abbrev pub fixed_of : List ℕ → Result (Option Decimal) BadNumber
fixed_of field = cond (is_blank_text field) (Ok None) (fixed_text (behind is_blank field))

abbrev pub with_exponent : List ℕ → Option (ℤ × List ℕ) → Result (Option Decimal) BadNumber
with_exponent text None = Err (record {})
with_exponent text (Some (exponent, rest)) =
    cond (is_blank_text rest)
    (number (digits_at text) (exponent -ℤ pos (length (fraction_at text)))) (Err (record {}))

abbrev pub floating_text : List ℕ → Result (Option Decimal) BadNumber
floating_text text =
    cond (has_digits (whole_at text) (fraction_at text))
    (with_exponent text (exponent_of (behind_mantissa text))) (Err (record {}))

abbrev pub floating_of : List ℕ → Result (Option Decimal) BadNumber
floating_of field = cond (is_blank_text field) (Ok None) (floating_text (behind is_blank field))

-- ---- counts

abbrev pub count_text : List ℕ → Option ℕ
count_text text =
    cond (nat_lt 0 (length (front is_ascii_digit text)))
    (cond (is_blank_text (behind is_ascii_digit text))
    (Some (digits_value 10 (front is_ascii_digit text))) None) None

abbrev pub count_of : List ℕ → Option ℕ
count_of field = count_text (behind is_blank field)
