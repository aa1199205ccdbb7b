-- What the fields of an observation file read as.
use Rattle.std.proofs.Common.{◌≡◌, ℕ, zero, suc, ◌+◌, ◌-◌, ◌*◌, ◌/◌, ◌%◌, ◌^◌, ◌<◌, ◌≤◌, Bool, true, false, List, [], ◌∷◌, ◌++◌, length, replicate, cond, refl, sym, ap, ◌∙◌, arith, inl, inr, length-append}
use Rattle.std.specs.Prelude.{ℤ, pos, negsuc, neg_ℤ, nat_abs, nat_lt, codes}
use Rattle.std.proofs.lemmas.Int.{ints}
use Rattle.std.proofs.lemmas.List.{append-nil, length-replicate}
use Rattle.std.proofs.lemmas.List.Folds.{list_all-append}
use Rattle.std.proofs.lemmas.List.Sums.{AllPass-from_list_all}
use Rattle.std.proofs.lemmas.Bool.{cases_Bool, and_from, and_parts}
use Rattle.std.proofs.lemmas.Fmt.{decimal_is_IsNumeral, length-decimal-le}
use Rattle.std.proofs.lemmas.Str.Parse.{digit_from_value}
use Rattle.std.specs.Fmt.{decimal}
use Rattle.std.specs.List.{list_all}
use Rattle.std.specs.Char.{is_ascii_digit}
use Rattle.std.specs.Str.Parse.{AllDigits, digits_value, digits_value_after}
use Rattle.exact_decimal.specs.Counts.{IsCount}
use Rattle.exact_decimal.specs.NumberFields.{is_blank, AreBlanks, AreDigits, IsSign, signed, IsMantissa, IsFixed}
use Rattle.exact_decimal.proofs.Digits.{after-append}
use Rattle.rinex_text.specs.Bodies.{is_printable}
use Rattle.rinex_obs.specs.Epochs.{IsObserved, IsSeconds, IsLineCount}
use Rattle.decimal_digits.specs.Digits.{last_digits}
use Rattle.made_texts.specs.ObsText.{right, metres_text, two_wide, observed_of}
use Rattle.made_texts.proofs.DigitBytes.{a_digit, are_digits, printable_digits}
use Rattle.decimal_digits.proofs.DigitLemmas.{length_digits, value_after, a_digit as written_digit}
use Rattle.made_texts.proofs.CellLemmas.{IsCell}

-- ---- numbers without zeros in front

pub record IsPlain (n : ℕ) (text : List ℕ) : Type 0 where
  pub digits : list_all is_ascii_digit text ≡ true
  pub printable : list_all is_printable text ≡ true
  pub some : 0 < length text
  pub value : digits_value 10 text ≡ n

digits_all : (text : List ℕ) → AllDigits 10 text → list_all is_ascii_digit text ≡ true
digits_all [] all = refl
digits_all (c ∷ cs) all =
    let digit : is_ascii_digit c ≡ true = grind (arith, digit_from_value c all.0) in
    and_from _ _ digit (digits_all cs all.1)

digits_print : (text : List ℕ) → AllDigits 10 text → list_all is_printable text ≡ true
digits_print [] all = refl
digits_print (c ∷ cs) all =
    let printable : is_printable c ≡ true = grind (arith, digit_from_value c all.0) in
    and_from _ _ printable (digits_print cs all.1)

pub plain_decimal : (n : ℕ) → n < 2 ^ 64 → IsPlain n (decimal n)
plain_decimal n h =
    let is = decimal_is_IsNumeral n h in
    record { digits = digits_all (decimal n) is.0.1; printable = digits_print (decimal n) is.0.1; some = is.0.0; value = is.1 }

-- ---- fields that stand right

blanks_pass : (n : ℕ) → list_all is_blank (replicate n 32) ≡ true
blanks_pass zero = refl
blanks_pass (suc n) = blanks_pass n

blanks_print : (n : ℕ) → list_all is_printable (replicate n 32) ≡ true
blanks_print zero = refl
blanks_print (suc n) = blanks_print n

pub are_blanks : (n : ℕ) → AreBlanks (replicate n 32)
are_blanks n = AllPass-from_list_all is_blank (replicate n 32) (blanks_pass n)

pub right_cell : (width : ℕ) (text : List ℕ) → length text ≤ width
    → list_all is_printable text ≡ true → IsCell width (right width text)
unfolding right
right_cell width text fits printable = record {
  len = length-append (replicate (width - length text) 32) text ∙ (rw (length-replicate {A = ℕ} (width - length text) 32) (omega (arith, fits)));
  printable = list_all-append is_printable (replicate (width - length text) 32) text ∙ and_from _ _ (blanks_print (width - length text)) printable;
}

pub no_blanks : AreBlanks []
no_blanks k d l = absurd (omega arith)

pub right_count : (width n : ℕ) → n < 2 ^ 64 → IsCount (right width (decimal n)) n
unfolding right
right_count width n h =
    let plain = plain_decimal n h in
    record {
      before = replicate (width - length (decimal n)) 32;
      blanks_before = are_blanks (width - length (decimal n));
      digits = decimal n;
      are_digits = AllPass-from_list_all is_ascii_digit (decimal n) plain.digits;
      some = plain.some;
      after = [];
      blanks_after = no_blanks;
      spelled = ap (λ (l : List ℕ). replicate (width - length (decimal n)) 32 ++ l) (sym (append-nil (decimal n)));
      value = sym plain.value;
    }

-- ---- lengths

mantissa : (negative : Bool) (n : ℕ) (sign : List ℕ) → IsSign sign negative → n < 10 ^ 11
    → IsMantissa (sign ++ (decimal (n / 1000) ++ 46 ∷ last_digits 3 n)) (signed negative n) 3
mantissa negative n sign is small =
    let plain = plain_decimal (n / 1000) (omega arith) in
    let short = length-decimal-le 8 (n / 1000) (omega arith) (omega arith) (omega arith) in
    let whole : digits_value 10 (decimal (n / 1000) ++ last_digits 3 n) ≡ n =
    after-append 0 (decimal (n / 1000)) (last_digits 3 n) ∙ (ap (λ (m : ℕ). digits_value_after 10 m (last_digits 3 n)) plain.value ∙ (value_after 3 n (n / 1000) ∙ omega arith)) in
    record {
      sign = sign;
      negative = negative;
      is_sign = is;
      whole = decimal (n / 1000);
      whole_digits = AllPass-from_list_all is_ascii_digit (decimal (n / 1000)) plain.digits;
      fraction = last_digits 3 n;
      fraction_digits = are_digits 3 n;
      pointed = 46 ∷ last_digits 3 n;
      is_fraction = inr refl;
      spelled = refl;
      some = omega (arith, length_digits 3 n);
      at_most = omega (arith, length_digits 3 n, short);
      value = ap (signed negative) (sym whole);
      places = sym (length_digits 3 n);
    }

fixed : (blanks : ℕ) (text : List ℕ) (digits : ℤ) → IsMantissa text digits 3
    → IsFixed (replicate blanks 32 ++ text) digits (neg_ℤ (pos 3))
fixed blanks text digits is = record {
  before = replicate blanks 32;
  blanks_before = are_blanks blanks;
  mantissa = text;
  decimals = 3;
  is_mantissa = is;
  after = [];
  blanks_after = no_blanks;
  spelled = ap (λ (l : List ℕ). replicate blanks 32 ++ l) (sym (append-nil text));
  power = refl;
}

pub metres_fixed : (code : ℤ) → nat_abs code < 10 ^ 11
    → IsFixed (right 14 (metres_text code)) code (neg_ℤ (pos 3))
unfolding right metres_text
metres_fixed (pos n) small = fixed _ _ (pos n) (mantissa false n [] (inl refl) (omega (arith, ints)))
metres_fixed (negsuc n) small = fixed _ _ (negsuc n) (mantissa true (suc n) (45 ∷ []) refl (omega (arith, ints)))

pub metres_observed : (code : ℤ) → nat_abs code < 10 ^ 11
    → IsObserved (right 14 (metres_text code)) (observed_of code)
metres_observed (pos zero) small = inr (neg_ℤ (pos 3), metres_fixed (pos zero) small)
metres_observed (pos (suc n)) small = (metres_fixed (pos (suc n)) small, λ e. absurd (omega (arith, ints, e)))
metres_observed (negsuc n) small = (metres_fixed (negsuc n) small, λ e. absurd (omega (arith, ints, e)))

point_cell : (n : ℕ) → n < 10 ^ 11
    → (length (decimal (n / 1000) ++ 46 ∷ last_digits 3 n) ≤ 12) × (list_all is_printable (decimal (n / 1000) ++ 46 ∷ last_digits 3 n) ≡ true)
point_cell n small =
    let short = length-decimal-le 8 (n / 1000) (omega arith) (omega arith) (omega arith) in
    let plain = plain_decimal (n / 1000) (omega arith) in (
      omega (arith, short, length-append (decimal (n / 1000)) (46 ∷ last_digits 3 n), length_digits 3 n),
      list_all-append is_printable (decimal (n / 1000)) (46 ∷ last_digits 3 n) ∙ and_from _ _ plain.printable (printable_digits 3 n),
    )

pub metres_cell : (code : ℤ) → nat_abs code < 10 ^ 11 → IsCell 14 (right 14 (metres_text code))
unfolding metres_text
metres_cell (pos n) small =
    let point = point_cell n (omega (arith, ints)) in
    right_cell 14 (decimal (n / 1000) ++ 46 ∷ last_digits 3 n) (omega (arith, point.0)) point.1
metres_cell (negsuc n) small =
    let point = point_cell (suc n) (omega (arith, ints)) in
    right_cell 14 (45 ∷ (decimal (suc n / 1000) ++ 46 ∷ last_digits 3 (suc n))) (omega (arith, point.0)) point.1

-- ---- seconds

zeros_are : codes "0000000" ≡ last_digits 7 0
unfolding last_digits
zeros_are = refl

seconds_with : (blanks digits : List ℕ) (n : ℕ) → AreBlanks blanks → AreDigits digits
    → 0 < length digits → length digits ≤ 2 → digits_value 10 digits ≡ n → n ≤ 59
    → IsSeconds (blanks ++ (digits ++ codes ".0000000")) (n * 10000000)
seconds_with blanks digits n all are some few value small =
    let whole : digits_value 10 (digits ++ last_digits 7 0) ≡ n * 10000000 =
    after-append 0 digits (last_digits 7 0) ∙ (ap (λ (m : ℕ). digits_value_after 10 m (last_digits 7 0)) value ∙ (value_after 7 0 n ∙ omega arith)) in
    record {
      digits = n * 10000000;
      decimals = 7;
      number = record {
        before = blanks;
        blanks_before = all;
        mantissa = digits ++ 46 ∷ last_digits 7 0;
        decimals = 7;
        is_mantissa = record {
          sign = [];
          negative = false;
          is_sign = inl refl;
          whole = digits;
          whole_digits = are;
          fraction = last_digits 7 0;
          fraction_digits = are_digits 7 0;
          pointed = 46 ∷ last_digits 7 0;
          is_fraction = inr refl;
          spelled = refl;
          some = omega arith;
          at_most = omega (arith, length_digits 7 0);
          value = ap pos (sym whole);
          places = sym (length_digits 7 0);
        };
        after = [];
        blanks_after = no_blanks;
        spelled = ap (λ (l : List ℕ). blanks ++ (digits ++ 46 ∷ l)) zeros_are ∙ ap (λ (l : List ℕ). blanks ++ l) (sym (append-nil (digits ++ 46 ∷ last_digits 7 0)));
        power = refl;
      };
      few = omega arith;
      value = omega arith;
      under = omega arith;
    }

one_second : (n : ℕ) → n < 10 → IsSeconds (32 ∷ 32 ∷ (48 + n) ∷ codes ".0000000") (n * 10000000)
one_second n h = seconds_with (32 ∷ 32 ∷ []) ((48 + n) ∷ []) n (AllPass-from_list_all is_blank (32 ∷ 32 ∷ []) refl) (AllPass-from_list_all is_ascii_digit ((48 + n) ∷ []) (and_from _ _ (a_digit n h).passes refl)) (omega arith) (omega arith) (omega (arith, (written_digit n h).value)) (omega arith)

two_seconds : (n : ℕ) → n ≤ 59
    → IsSeconds (32 ∷ (48 + n / 10) ∷ (48 + n % 10) ∷ codes ".0000000") (n * 10000000)
two_seconds n small =
    let tens = a_digit (n / 10) (omega arith) in
    let ones = a_digit (n % 10) (omega arith) in
    seconds_with (32 ∷ []) ((48 + n / 10) ∷ (48 + n % 10) ∷ []) n (AllPass-from_list_all is_blank (32 ∷ []) refl)
    (AllPass-from_list_all is_ascii_digit ((48 + n / 10) ∷ (48 + n % 10) ∷ []) (and_from _ _ tens.passes (and_from _ _ ones.passes refl)))
    (omega arith) (omega arith) (omega (arith, (written_digit (n / 10) (omega arith)).value, (written_digit (n % 10) (omega arith)).value)) small

pub seconds_read : (n : ℕ) → n ≤ 59 → IsSeconds (32 ∷ two_wide n (codes ".0000000")) (n * 10000000)
seconds_read n small = elim (cases_Bool (nat_lt n 10)) [
  | inl h ↦
      let below : n < 10 = grind (arith, h) in
      let rest : n % 10 ≡ n = omega (arith, below) in
      rw (h, rest) (one_second n below)
  | inr h ↦ rw h (two_seconds n small)
]

pub two_wide_cell : (n : ℕ) → n ≤ 59 → IsCell 2 (two_wide n [])
two_wide_cell n small = record { len = refl; printable = and_from _ _ (lead n small) (and_from _ _ (a_digit (n % 10) (omega arith)).printable refl) } where
  lead : (n : ℕ) → n ≤ 59 → is_printable (cond (nat_lt n 10) 32 (48 + n / 10)) ≡ true
  lead n small = elim (cases_Bool (nat_lt n 10)) [
    | inl h ↦ rw h refl
    | inr h ↦ rw h (a_digit (n / 10) (omega arith)).printable
  ]

-- ---- a count isn't blank

solid_digits : (text : List ℕ) → list_all is_ascii_digit text ≡ true → 0 < length text
    → list_all is_blank text ≡ false
solid_digits [] all some = absurd (omega arith)
solid_digits (c ∷ cs) all some =
    let digit = (and_parts (is_ascii_digit c) (list_all is_ascii_digit cs) all).0 in
    let solid : is_blank c ≡ false = grind (arith, digit) in
    rw solid refl

right_solid : (width n : ℕ) → n < 2 ^ 64 → list_all is_blank (right width (decimal n)) ≡ false
unfolding right
right_solid width n h =
    let plain = plain_decimal n h in
    list_all-append is_blank (replicate (width - length (decimal n)) 32) (decimal n) ∙ (rw (blanks_pass (width - length (decimal n)), solid_digits (decimal n) plain.digits plain.some) refl)

pub count_read : (width n : ℕ) → n < 2 ^ 64 → IsLineCount (right width (decimal n)) n
count_read width n h =
    let solid = right_solid width n h in
    inr ((λ e. absurd (both e solid)), right_count width n h) where
      both : {b : Bool} → b ≡ true → b ≡ false → ⊥
      both e f = cc

pub count_cell : (n : ℕ) → n < 1000 → IsCell 3 (right 3 (decimal n))
count_cell n small = right_cell 3 (decimal n) (length-decimal-le 3 n (omega arith) (omega arith) (omega arith)) (plain_decimal n (omega arith)).printable
