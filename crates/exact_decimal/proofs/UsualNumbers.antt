-- A number field of the usual form: a blank or a minus sign, a digit, a point, twelve digits, and a letter, a sign and two digits; or without the digit in front of the point.
use Rattle.std.proofs.Common.{◌≡◌, ℕ, zero, suc, ◌+◌, ◌-◌, ◌*◌, ◌%◌, ◌^◌, ◌<◌, ◌≤◌, Bool, true, false, List, [], ◌∷◌, ◌++◌, length, get_or, take, drop, arith, refl, sym, ap, ◌∙◌, inl, inr}
use Rattle.std.specs.Prelude.{ℤ, pos, ◌-ℤ◌, slice_range}
use Rattle.std.specs.List.{prefix_len}
use Rattle.std.proofs.Math.Nat.{mod-eq_of_lt, pow-suc}
use Rattle.std.proofs.Math.Seq.{take-length}
use Rattle.std.proofs.lemmas.List.{append-nil, take-append-drop}
use Rattle.std.specs.Char.{is_ascii_digit, digit_value}
use Rattle.std.specs.Str.Parse.{digits_value, digits_value_after}
use Rattle.exact_decimal.specs.NumberFields.{is_exponent_letter, AreBlanks, AreDigits, IsSign, IsMantissa, IsExponent, IsFloating, signed}
use Rattle.exact_decimal.specs.Parts.{Begins, Opens}
use Rattle.exact_decimal.proofs.Digits.{digit_byte, after_below}
use Rattle.exact_decimal.proofs.Runs.{front_passes}
use Rattle.grid_model.proofs.ListLemmas.{all_dropped}

-- ---- twelve digits

after_is : (n : ℕ) (digits : List ℕ)
    → digits_value_after 10 n digits ≡ n * 10 ^ length digits + digits_value 10 digits
after_is n [] = omega arith
after_is n (c ∷ cs) =
    let a = after_is (n * 10 + digit_value c) cs in
    let b = after_is (0 * 10 + digit_value c) cs in
    omega (arith, ap (λ x. n * x) (pow-suc 10 (length cs)))

-- what a reader of digits gives that has read all of a text of twelve
pub record AreTwelve (text : List ℕ) (before number : ℕ) : Type 0 where
  pub digits : AreDigits text
  pub value : number ≡ digits_value_after 10 before text
  pub bound : number < 10 ^ 13

pub are_twelve : (text : List ℕ) (before end number : ℕ) → length text ≡ 12 → before ≤ 9
    → end ≡ prefix_len is_ascii_digit text → end ≡ 12
    → number ≡ (before * 10 ^ (end - 0) + digits_value 10 (slice_range text 0 end)) % 2 ^ 64
    → AreTwelve text before number
are_twelve text before end number long few run whole e =
    let all : take 12 text ≡ text = rw (sym long) (take-length text) in
    let digits : AreDigits text = front_passes is_ascii_digit text text 12 (sym whole ∙ run) (sym all) in
    let below : digits_value_after 10 before text < 10 ^ (1 + length text) = after_below before 1 text digits (omega arith) in
    let worth : digits_value_after 10 before text ≡ before * 10 ^ 12 + digits_value 10 text = rw long at (after_is before text) in
    let bound : digits_value_after 10 before text < 10 ^ 13 = rw long at below in
    let read : number ≡ (before * 10 ^ 12 + digits_value 10 text) % 2 ^ 64 = rw all at (rw whole at e) in
    let value : number ≡ digits_value_after 10 before text = read ∙ (mod-eq_of_lt (omega (arith, worth, bound)) ∙ sym worth) in
    record { digits = digits; value = value; bound = omega (arith, value, bound) }

-- ---- exponents

digits_more : (c : ℕ) (cs : List ℕ) → is_ascii_digit c ≡ true → AreDigits cs → AreDigits (c ∷ cs)
digits_more c cs here all zero d within = here
digits_more c cs here all (suc k) d within = all k d (omega arith)

no_digits : AreDigits []
no_digits k d within = absurd (omega arith)

four_bytes : (text : List ℕ) → length text ≡ 4
    → text ≡ get_or text 0 0 ∷ get_or text 1 0 ∷ get_or text 2 0 ∷ get_or text 3 0 ∷ []
four_bytes [] long = absurd (omega arith)
four_bytes (a ∷ []) long = absurd (omega arith)
four_bytes (a ∷ b ∷ []) long = absurd (omega arith)
four_bytes (a ∷ b ∷ c ∷ []) long = absurd (omega arith)
four_bytes (a ∷ b ∷ c ∷ d ∷ []) long = refl
four_bytes (a ∷ b ∷ c ∷ d ∷ e ∷ more) long = absurd (omega arith)

pub exponent_is : (text : List ℕ) (number : ℕ) (negative : Bool) (exponent : ℤ) → length text ≡ 4
    → is_exponent_letter (get_or text 0 0) ≡ true
    → IsSign (get_or text 1 0 ∷ []) negative → is_ascii_digit (get_or text 2 0) ≡ true
    → is_ascii_digit (get_or text 3 0) ≡ true
    → number ≡ (get_or text 2 0 - 48) * 10 + (get_or text 3 0 - 48)
    → exponent ≡ signed negative number → IsExponent text exponent
exponent_is text number negative exponent long letter sign tens ones e value =
    let a = digit_byte (get_or text 2 0) tens in
    let b = digit_byte (get_or text 3 0) ones in
    let written : number ≡ digits_value 10 (get_or text 2 0 ∷ get_or text 3 0 ∷ []) = omega (arith, e, a.value, b.value) in
    record {
      letter = get_or text 0 0;
      is_letter = letter;
      sign = get_or text 1 0 ∷ [];
      negative = negative;
      is_sign = sign;
      digits = get_or text 2 0 ∷ get_or text 3 0 ∷ [];
      are_digits = digits_more (get_or text 2 0) (get_or text 3 0 ∷ []) tens (digits_more (get_or text 3 0) [] ones no_digits);
      some = omega arith;
      at_most = omega arith;
      spelled = four_bytes text long;
      value = value ∙ ap (λ (n : ℕ). signed negative n) written;
    }

-- ---- fields

three_bytes : (text : List ℕ) → 3 ≤ length text
    → text ≡ get_or text 0 0 ∷ get_or text 1 0 ∷ get_or text 2 0 ∷ drop 3 text
three_bytes [] long = absurd (omega arith)
three_bytes (a ∷ []) long = absurd (omega arith)
three_bytes (a ∷ b ∷ []) long = absurd (omega arith)
three_bytes (a ∷ b ∷ c ∷ more) long = refl

-- what stands behind the point, cut behind twelve bytes
pub parts_join : (text fraction letters : List ℕ)
    → fraction ≡ take 12 (take (length text - 3) (drop 3 text))
    → letters ≡ drop 12 (take (length text - 3) (drop 3 text))
    → drop 3 text ≡ fraction ++ letters
parts_join text fraction letters e f = sym (rw (e, f, all_dropped text 3) (take-append-drop 12 (drop 3 text)))

-- what stands in a field of the usual form
pub record IsUsual (field fraction letters : List ℕ) (negative : Bool) (before amount : ℕ) (exponent : ℤ) : Type 0 where
  pub long : 3 ≤ length field
  pub opens : Opens (get_or field 0 0) (get_or field 1 0) negative before
  pub point : get_or field 2 0 ≡ 46
  pub rest : drop 3 field ≡ fraction ++ letters
  pub digits : AreDigits fraction
  pub twelve : length fraction ≡ 12
  pub value : amount ≡ digits_value_after 10 before fraction
  pub exponent_is : IsExponent letters exponent

usual_mantissa : (sign fraction : List ℕ) (whole amount : ℕ) (negative : Bool)
    → IsSign sign negative → is_ascii_digit whole ≡ true → AreDigits fraction
    → length fraction ≡ 12 → amount ≡ digits_value_after 10 (whole - 48) fraction
    → IsMantissa (sign ++ (whole ∷ 46 ∷ fraction)) (signed negative amount) 12
usual_mantissa sign fraction whole amount negative is_sign digit digits twelve e =
    let byte = digit_byte whole digit in
    let first : whole - 48 ≡ 0 * 10 + digit_value whole = omega (arith, byte.value) in
    record {
      sign = sign;
      negative = negative;
      is_sign = is_sign;
      whole = whole ∷ [];
      whole_digits = digits_more whole [] digit no_digits;
      fraction = fraction;
      fraction_digits = digits;
      pointed = 46 ∷ fraction;
      is_fraction = inr refl;
      spelled = refl;
      some = omega arith;
      at_most = omega (arith, twelve);
      value = ap (λ (n : ℕ). signed negative n) (e ∙ ap (λ n. digits_value_after 10 n fraction) first);
      places = sym twelve;
    }

-- with no digit in front of the point
bare_mantissa : (sign fraction : List ℕ) (amount : ℕ) (negative : Bool) → IsSign sign negative
    → AreDigits fraction → length fraction ≡ 12
    → amount ≡ digits_value_after 10 0 fraction
    → IsMantissa (sign ++ (46 ∷ fraction)) (signed negative amount) 12
bare_mantissa sign fraction amount negative is_sign digits twelve e = record {
  sign = sign;
  negative = negative;
  is_sign = is_sign;
  whole = [];
  whole_digits = no_digits;
  fraction = fraction;
  fraction_digits = digits;
  pointed = 46 ∷ fraction;
  is_fraction = inr refl;
  spelled = refl;
  some = omega (arith, twelve);
  at_most = omega (arith, twelve);
  value = ap (λ (n : ℕ). signed negative n) e;
  places = sym twelve;
}

one_blank : AreBlanks (32 ∷ [])
one_blank zero d within = refl
one_blank (suc k) d within = absurd (omega arith)

no_blanks : AreBlanks []
no_blanks k d within = absurd (omega arith)

two_blanks : AreBlanks (32 ∷ 32 ∷ [])
two_blanks zero d within = refl
two_blanks (suc zero) d within = refl
two_blanks (suc (suc k)) d within = absurd (omega arith)

spelled : (field fraction letters : List ℕ) (first : ℕ) → 3 ≤ length field
    → get_or field 0 0 ≡ first → get_or field 2 0 ≡ 46 → drop 3 field ≡ fraction ++ letters
    → field ≡ first ∷ get_or field 1 0 ∷ 46 ∷ (fraction ++ (letters ++ []))
spelled field fraction letters first long begins point rest =
    three_bytes field long ∙ rw (begins, point, rest, append-nil letters) refl

-- a digit in front of the point
with_digit : (field fraction letters : List ℕ) (negative : Bool) (before amount : ℕ) (exponent digits ten : ℤ)
    → IsUsual field fraction letters negative before amount exponent
    → Begins negative (get_or field 0 0) → is_ascii_digit (get_or field 1 0) ≡ true
    → before ≡ get_or field 1 0 - 48
    → digits ≡ signed negative amount → ten ≡ exponent -ℤ pos 12 → IsFloating field digits ten
with_digit field fraction letters false before amount exponent digits ten u begins whole is value power = record {
  before = 32 ∷ [];
  blanks_before = one_blank;
  mantissa = get_or field 1 0 ∷ 46 ∷ fraction;
  decimals = 12;
  is_mantissa = rw value (usual_mantissa [] fraction (get_or field 1 0) amount false (inl refl) whole u.digits u.twelve (rw is at u.value));
  letters = letters;
  exponent = exponent;
  may_be_exponent = inr u.exponent_is;
  after = [];
  blanks_after = no_blanks;
  spelled = spelled field fraction letters 32 u.long begins u.point u.rest;
  power = power;
}
with_digit field fraction letters true before amount exponent digits ten u begins whole is value power = record {
  before = [];
  blanks_before = no_blanks;
  mantissa = 45 ∷ get_or field 1 0 ∷ 46 ∷ fraction;
  decimals = 12;
  is_mantissa = rw value (usual_mantissa (45 ∷ []) fraction (get_or field 1 0) amount true refl whole u.digits u.twelve (rw is at u.value));
  letters = letters;
  exponent = exponent;
  may_be_exponent = inr u.exponent_is;
  after = [];
  blanks_after = no_blanks;
  spelled = spelled field fraction letters 45 u.long begins u.point u.rest;
  power = power;
}

spelled_bare : (field fraction letters : List ℕ) (second : ℕ) → 3 ≤ length field
    → get_or field 0 0 ≡ 32 → get_or field 1 0 ≡ second → get_or field 2 0 ≡ 46
    → drop 3 field ≡ fraction ++ letters → field ≡ 32 ∷ second ∷ 46 ∷ (fraction ++ (letters ++ []))
spelled_bare field fraction letters second long blank begins point rest =
    spelled field fraction letters 32 long blank point rest ∙ ap (λ byte. 32 ∷ byte ∷ 46 ∷ (fraction ++ (letters ++ []))) begins

without_digit : (field fraction letters : List ℕ) (negative : Bool) (before amount : ℕ) (exponent digits ten : ℤ)
    → IsUsual field fraction letters negative before amount exponent
    → get_or field 0 0 ≡ 32 → Begins negative (get_or field 1 0) → before ≡ 0
    → digits ≡ signed negative amount → ten ≡ exponent -ℤ pos 12 → IsFloating field digits ten
without_digit field fraction letters false before amount exponent digits ten u blank begins none value power = record {
  before = 32 ∷ 32 ∷ [];
  blanks_before = two_blanks;
  mantissa = 46 ∷ fraction;
  decimals = 12;
  is_mantissa = rw value (bare_mantissa [] fraction amount false (inl refl) u.digits u.twelve (rw none at u.value));
  letters = letters;
  exponent = exponent;
  may_be_exponent = inr u.exponent_is;
  after = [];
  blanks_after = no_blanks;
  spelled = spelled_bare field fraction letters 32 u.long blank begins u.point u.rest;
  power = power;
}
without_digit field fraction letters true before amount exponent digits ten u blank begins none value power = record {
  before = 32 ∷ [];
  blanks_before = one_blank;
  mantissa = 45 ∷ 46 ∷ fraction;
  decimals = 12;
  is_mantissa = rw value (bare_mantissa (45 ∷ []) fraction amount true refl u.digits u.twelve (rw none at u.value));
  letters = letters;
  exponent = exponent;
  may_be_exponent = inr u.exponent_is;
  after = [];
  blanks_after = no_blanks;
  spelled = spelled_bare field fraction letters 45 u.long blank begins u.point u.rest;
  power = power;
}

pub usual_is : (field fraction letters : List ℕ) (negative : Bool) (before amount : ℕ) (exponent digits ten : ℤ)
    → IsUsual field fraction letters negative before amount exponent
    → digits ≡ signed negative amount → ten ≡ exponent -ℤ pos 12 → IsFloating field digits ten
usual_is field fraction letters negative before amount exponent digits ten u value power = elim u.opens [
  | inl x ↦ with_digit field fraction letters negative before amount exponent digits ten u x.0 x.1 x.2 value power
  | inr y ↦ without_digit field fraction letters negative before amount exponent digits ten u y.0 y.1 y.2 value power
]
