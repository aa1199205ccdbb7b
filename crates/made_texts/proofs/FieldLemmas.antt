-- What a field of 19 columns reads as.
use Rattle.std.proofs.Common.{◌≡◌, ℕ, ◌+◌, ◌/◌, ◌%◌, ◌^◌, ◌<◌, Bool, true, false, List, [], ◌∷◌, ◌++◌, refl, sym, ap, ◌∙◌, arith, inl, inr}
use Rattle.std.specs.Prelude.{pos, ◌-ℤ◌}
use Rattle.std.proofs.lemmas.List.{append-nil}
use Rattle.std.proofs.lemmas.List.Sums.{AllPass-from_list_all}
use Rattle.std.proofs.lemmas.List.Folds.{list_all-append}
use Rattle.std.proofs.lemmas.Bool.{and_from}
use Rattle.std.specs.List.{list_all}
use Rattle.std.specs.Char.{is_ascii_digit}
use Rattle.exact_decimal.specs.NumberFields.{is_blank, AreBlanks, AreDigits, IsSign, signed, IsMantissa, IsExponent, IsFloating}
use Rattle.rinex_text.specs.Bodies.{is_printable}
use Rattle.decimal_digits.specs.Digits.{last_digits}
use Rattle.made_texts.specs.Fields.{minus_or, field_text, number_of}
use Rattle.made_texts.specs.declared.field_number.FieldNumber.{FieldNumber}
use Rattle.made_texts.proofs.DigitBytes.{a_digit, are_digits, printable_digits}
use Rattle.decimal_digits.proofs.DigitLemmas.{length_digits, value_is}
use Rattle.made_texts.proofs.CellLemmas.{IsCell, beside}

-- ---- its bytes

signs_print : (other : ℕ) (negative : Bool) → is_printable other ≡ true
    → is_printable (minus_or other negative) ≡ true
signs_print other true h = refl
signs_print other false h = h

pub field_cell : (w : FieldNumber) → IsCell 19 (field_text w)
unfolding field_text
field_cell w =
    let sign : IsCell 1 (minus_or 32 w.negative ∷ []) = record { len = refl; printable = and_from _ _ (signs_print 32 w.negative refl) refl } in
    let down : IsCell 1 (minus_or 43 w.negative_power ∷ []) = record { len = refl; printable = and_from _ _ (signs_print 43 w.negative_power refl) refl } in
    let one : IsCell 1 (last_digits 1 (w.digits / 10 ^ 12)) = record { len = length_digits 1 (w.digits / 10 ^ 12); printable = printable_digits 1 (w.digits / 10 ^ 12) } in
    let twelve : IsCell 12 (last_digits 12 w.digits) = record { len = length_digits 12 w.digits; printable = printable_digits 12 w.digits } in
    let two : IsCell 2 (last_digits 2 w.power) = record { len = length_digits 2 w.power; printable = printable_digits 2 w.power } in
    let point : IsCell 1 (46 ∷ []) = record { len = refl; printable = refl } in
    let letter : IsCell 1 (68 ∷ []) = record { len = refl; printable = refl } in
    let tail = beside 1 3 _ _ letter (beside 1 2 _ _ down two) in
    let first : IsCell 1 ((48 + w.digits / 10 ^ 12 % 10) ∷ []) = record { len = refl; printable = and_from _ _ (a_digit (w.digits / 10 ^ 12 % 10) (omega arith)).printable refl } in
    beside 1 18 _ _ sign (beside 1 17 _ _ first (beside 1 16 _ _ point (beside 12 4 _ _ twelve tail)))

-- ---- its number

one_digit : (d : ℕ) → d < 10 → AreDigits ((48 + d) ∷ [])
one_digit d h = AllPass-from_list_all is_ascii_digit ((48 + d) ∷ []) (and_from _ _ (a_digit d h).passes refl)

-- a sign and 13 digits
mantissa : (negative : Bool) (n : ℕ) (sign : List ℕ) → IsSign sign negative
    → IsMantissa (sign ++ (((48 + n / 10 ^ 12 % 10) ∷ []) ++ 46 ∷ last_digits 12 n)) (signed negative (n % 10 ^ 13)) 12
unfolding last_digits
mantissa negative n sign is = record {
  sign = sign;
  negative = negative;
  is_sign = is;
  whole = (48 + n / 10 ^ 12 % 10) ∷ [];
  whole_digits = one_digit (n / 10 ^ 12 % 10) (omega arith);
  fraction = last_digits 12 n;
  fraction_digits = are_digits 12 n;
  pointed = 46 ∷ last_digits 12 n;
  is_fraction = inr refl;
  spelled = refl;
  some = omega (arith, length_digits 12 n);
  at_most = omega (arith, length_digits 12 n);
  value = ap (signed negative) (sym (value_is 13 n));
  places = sym (length_digits 12 n);
}

exponent : (down : Bool) (p : ℕ)
    → IsExponent (68 ∷ minus_or 43 down ∷ last_digits 2 p) (signed down (p % 10 ^ 2))
exponent down p = record {
  letter = 68;
  is_letter = refl;
  sign = minus_or 43 down ∷ [];
  negative = down;
  is_sign = sign_is down;
  digits = last_digits 2 p;
  are_digits = are_digits 2 p;
  some = omega (arith, length_digits 2 p);
  at_most = omega (arith, length_digits 2 p);
  spelled = refl;
  value = ap (signed down) (sym (value_is 2 p));
} where
  sign_is : (b : Bool) → IsSign (minus_or 43 b ∷ []) b
  sign_is true = refl
  sign_is false = inr refl

no_blanks : AreBlanks []
no_blanks k d l = absurd (omega arith)

one_blank : AreBlanks (32 ∷ [])
one_blank = AllPass-from_list_all is_blank (32 ∷ []) refl

floating : (negative : Bool) (n : ℕ) (down : Bool) (p : ℕ)
    → IsFloating (minus_or 32 negative ∷ (48 + n / 10 ^ 12 % 10) ∷ 46 ∷ (last_digits 12 n ++ 68 ∷ minus_or 43 down ∷ last_digits 2 p)) (signed negative (n % 10 ^ 13)) (signed down (p % 10 ^ 2) -ℤ pos 12)
floating true n down p = record {
  before = [];
  blanks_before = no_blanks;
  mantissa = (45 ∷ []) ++ (((48 + n / 10 ^ 12 % 10) ∷ []) ++ 46 ∷ last_digits 12 n);
  decimals = 12;
  is_mantissa = mantissa true n (45 ∷ []) refl;
  letters = 68 ∷ minus_or 43 down ∷ last_digits 2 p;
  exponent = signed down (p % 10 ^ 2);
  may_be_exponent = inr (exponent down p);
  after = [];
  blanks_after = no_blanks;
  spelled = sym (rw (append-nil (last_digits 2 p)) refl);
  power = refl;
}
floating false n down p = record {
  before = 32 ∷ [];
  blanks_before = one_blank;
  mantissa = [] ++ (((48 + n / 10 ^ 12 % 10) ∷ []) ++ 46 ∷ last_digits 12 n);
  decimals = 12;
  is_mantissa = mantissa false n [] (inl refl);
  letters = 68 ∷ minus_or 43 down ∷ last_digits 2 p;
  exponent = signed down (p % 10 ^ 2);
  may_be_exponent = inr (exponent down p);
  after = [];
  blanks_after = no_blanks;
  spelled = sym (rw (append-nil (last_digits 2 p)) refl);
  power = refl;
}

pub field_reads : (w : FieldNumber)
    → IsFloating (field_text w) (number_of w).digits (number_of w).ten
unfolding field_text
field_reads w = floating w.negative w.digits w.negative_power w.power

-- ---- it isn't blank

pub solid_field : (w : FieldNumber) → list_all is_blank (field_text w) ≡ false
unfolding field_text
solid_field w = solid w.negative (w.digits / 10 ^ 12 % 10) (omega arith) (46 ∷ (last_digits 12 w.digits ++ 68 ∷ minus_or 43 w.negative_power ∷ last_digits 2 w.power)) where
  solid : (negative : Bool) (d : ℕ) → d < 10 → (more : List ℕ)
      → list_all is_blank (minus_or 32 negative ∷ (48 + d) ∷ more) ≡ false
  solid true d h more = refl
  solid false d h more = rw (a_digit d h).solid refl

pub solid_before : (a b : List ℕ) → list_all is_blank a ≡ false → list_all is_blank (a ++ b) ≡ false
solid_before a b h = list_all-append is_blank a b ∙ (rw h refl)
