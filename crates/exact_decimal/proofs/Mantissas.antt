-- A mantissa at the front of a text.
use Rattle.std.proofs.Common.{◌≡◌, ℕ, ◌+◌, ◌<◌, Bool, true, false, List, [], ◌∷◌, ◌++◌, length, arith, refl, sym, ap, subst, ◌∙◌, inl, inr, append_assoc, length-append}
use Rattle.std.specs.Prelude.{ℤ, ◌==◌}
use Rattle.std.specs.Char.{is_ascii_digit}
use Rattle.std.specs.Str.Parse.{digits_value}
use Rattle.exact_decimal.specs.NumberFields.{is_blank, AreDigits, IsSign, IsFraction, signed, IsMantissa}
use Rattle.exact_decimal.specs.Parts.{front, behind, is_negative, behind_sign, fraction_of, behind_fraction, whole_at, fraction_at, behind_mantissa, has_digits, digits_at}
use Rattle.std.proofs.lemmas.Bool.{cases_Bool}
use Rattle.exact_decimal.proofs.Digits.{digit_byte, AreFew, are_few, has_few}
use Rattle.exact_decimal.proofs.Runs.{Stops, head_passes, cut_at, passes_front, front_and_behind}
use Rattle.exact_decimal.proofs.Signs as signs
use Rattle.exact_decimal.proofs.Signs.{NoSign, EndsNumber, no_digit}

-- ---- what is cut off is a mantissa

pub record MantissaCut (text : List ℕ) : Type 0 where
  pub mantissa : List ℕ
  pub parts : text ≡ mantissa ++ behind_mantissa text
  pub is_mantissa : IsMantissa mantissa (digits_at text) (length (fraction_at text))

fraction_digits_of : (text : List ℕ) → AreDigits (fraction_of text)
fraction_digits_of [] = λ k d within. absurd (omega arith)
fraction_digits_of (byte ∷ bytes) = elim (cases_Bool (byte == 46)) [
  | inl point ↦ rw point (passes_front is_ascii_digit bytes)
  | inr no_point ↦ rw no_point (λ k d within. absurd (omega arith))
]

joined : (text sign unsigned whole tail pointed rest : List ℕ) → text ≡ sign ++ unsigned
    → unsigned ≡ whole ++ tail → tail ≡ pointed ++ rest
    → text ≡ (sign ++ (whole ++ pointed)) ++ rest
joined text sign unsigned whole tail pointed rest e f g =
    rw (e, f, g, append_assoc sign (whole ++ pointed) rest, append_assoc whole pointed rest) refl

pub mantissa_cut : (text : List ℕ) → has_digits (whole_at text) (fraction_at text) ≡ true
    → MantissaCut text
mantissa_cut text h =
    let sign = signs.sign_cut text in
    let point = signs.fraction_cut (behind is_ascii_digit (behind_sign text)) in
    let few = are_few (whole_at text) (fraction_at text) h in
    record {
      mantissa = sign.sign ++ (whole_at text ++ point.pointed);
      parts = joined text sign.sign (behind_sign text) (whole_at text) _ point.pointed _ sign.parts (front_and_behind is_ascii_digit (behind_sign text)) point.parts;
      is_mantissa = record {
        sign = sign.sign;
        negative = is_negative text;
        is_sign = sign.is_sign;
        whole = whole_at text;
        whole_digits = passes_front is_ascii_digit (behind_sign text);
        fraction = fraction_at text;
        fraction_digits = fraction_digits_of (behind is_ascii_digit (behind_sign text));
        pointed = point.pointed;
        is_fraction = point.is_fraction;
        spelled = refl;
        some = few.some;
        at_most = few.at_most;
        value = refl;
        places = refl;
      };
    }

-- ---- a mantissa is cut off

pub record MantissaAt (mantissa : List ℕ) (digits : ℤ) (decimals : ℕ) (tail : List ℕ) : Type 0 where
  pub digits_are : digits_at (mantissa ++ tail) ≡ digits
  pub decimals_are : length (fraction_at (mantissa ++ tail)) ≡ decimals
  pub has : has_digits (whole_at (mantissa ++ tail)) (fraction_at (mantissa ++ tail)) ≡ true
  pub rest_is : behind_mantissa (mantissa ++ tail) ≡ tail
  pub not_blank : Stops is_blank (mantissa ++ tail)
  pub some : 0 < length (mantissa ++ tail)

-- what is no digit behind the whole digits
pub ends_whole : (pointed fraction tail : List ℕ) → IsFraction pointed fraction → EndsNumber tail
    → Stops is_ascii_digit (pointed ++ tail)
ends_whole pointed fraction tail is ends = elim is [
  | inl (none, empty) ↦ subst (λ (p : List ℕ). Stops is_ascii_digit (p ++ tail)) (sym none) (no_digit tail ends)
  | inr point ↦ subst (λ (p : List ℕ). Stops is_ascii_digit (p ++ tail)) (sym point) refl
]

pub other_byte : (a b : ℕ) → b < a → (a == b) ≡ false
other_byte a b h = grind arith

pub digit_is_no_sign : (byte : ℕ) → is_ascii_digit byte ≡ true
    → ((byte == 45) ≡ false) × ((byte == 43) ≡ false)
digit_is_no_sign byte h = let is = digit_byte byte h in (other_byte byte 45 (omega (arith, is.low)), other_byte byte 43 (omega (arith, is.low)))

pub digit_is_not_blank : (byte : ℕ) → is_ascii_digit byte ≡ true → is_blank byte ≡ false
digit_is_not_blank byte h = let is = digit_byte byte h in rw (other_byte byte 32 (omega (arith, is.low)), other_byte byte 9 (omega (arith, is.low))) refl

-- digits and a point are neither a sign nor blank
pub record Begins (text : List ℕ) : Type 0 where
  pub no_sign : NoSign text
  pub not_blank : Stops is_blank text
  pub some : 0 < length text

begins : (whole pointed fraction tail : List ℕ) → AreDigits whole → IsFraction pointed fraction
    → 0 < length whole + length fraction → Begins (whole ++ (pointed ++ tail))
begins (byte ∷ bytes) pointed fraction tail digits is some =
    let digit = head_passes is_ascii_digit byte bytes digits in
    record { no_sign = digit_is_no_sign byte digit; not_blank = digit_is_not_blank byte digit; some = omega arith }
begins [] pointed fraction tail digits is some = elim is [
  | inl (none, empty) ↦ absurd (let e = ap (λ (l : List ℕ). length l) empty in omega arith)
  | inr point ↦ subst (λ (p : List ℕ). Begins (p ++ tail)) (sym point) (record { no_sign = (refl, refl); not_blank = refl; some = omega arith })
]

signed_begins : (sign rest : List ℕ) (negative : Bool) → IsSign sign negative → Begins rest
    → Stops is_blank (sign ++ rest)
signed_begins sign rest true is b = subst (λ (s : List ℕ). Stops is_blank (s ++ rest)) (sym is) refl
signed_begins sign rest false is b = elim is [
  | inl e ↦ subst (λ (s : List ℕ). Stops is_blank (s ++ rest)) (sym e) b.not_blank
  | inr e ↦ subst (λ (s : List ℕ). Stops is_blank (s ++ rest)) (sym e) refl
]

-- what the cuts leave of a sign, whole digits, a point with digits, and a tail
cut_mantissa : (sign whole pointed fraction tail : List ℕ) (negative : Bool) → IsSign sign negative
    → AreDigits whole → AreDigits fraction
    → IsFraction pointed fraction → AreFew whole fraction → EndsNumber tail
    → MantissaAt (sign ++ (whole ++ pointed)) (signed negative (digits_value 10 (whole ++ fraction))) (length fraction) tail
cut_mantissa sign whole pointed fraction tail negative is_sign whole_digits fraction_digits is_fraction few ends =
    let start = begins whole pointed fraction tail whole_digits is_fraction few.some in
    let at_sign = signs.sign_at sign negative (whole ++ (pointed ++ tail)) is_sign start.no_sign in
    let at_digits = cut_at is_ascii_digit whole (pointed ++ tail) whole_digits (ends_whole pointed fraction tail is_fraction ends) in
    let at_point = signs.fraction_at pointed fraction tail is_fraction fraction_digits ends in
    let text : (sign ++ (whole ++ pointed)) ++ tail ≡ sign ++ (whole ++ (pointed ++ tail)) =
    append_assoc sign (whole ++ pointed) tail ∙ ap (λ (l : List ℕ). sign ++ l) (append_assoc whole pointed tail) in
    let unsigned : behind_sign ((sign ++ (whole ++ pointed)) ++ tail) ≡ whole ++ (pointed ++ tail) = ap (λ (l : List ℕ). behind_sign l) text ∙ at_sign.rest_is in
    let minus : is_negative ((sign ++ (whole ++ pointed)) ++ tail) ≡ negative = ap (λ (l : List ℕ). is_negative l) text ∙ at_sign.minus in
    let whole_is : whole_at ((sign ++ (whole ++ pointed)) ++ tail) ≡ whole = ap (λ (l : List ℕ). front is_ascii_digit l) unsigned ∙ at_digits.front in
    let left : behind is_ascii_digit (behind_sign ((sign ++ (whole ++ pointed)) ++ tail)) ≡ pointed ++ tail = ap (λ (l : List ℕ). behind is_ascii_digit l) unsigned ∙ at_digits.behind in
    let fraction_is : fraction_at ((sign ++ (whole ++ pointed)) ++ tail) ≡ fraction = ap (λ (l : List ℕ). fraction_of l) left ∙ at_point.digits_are in
    record {
      digits_are = rw (minus, whole_is, fraction_is) refl;
      decimals_are = ap (λ (l : List ℕ). length l) fraction_is;
      has = rw (whole_is, fraction_is) (has_few whole fraction few);
      rest_is = ap (λ (l : List ℕ). behind_fraction l) left ∙ at_point.rest_is;
      not_blank = rw text (signed_begins sign (whole ++ (pointed ++ tail)) negative is_sign start);
      some = rw text (omega (arith, start.some, length-append sign (whole ++ (pointed ++ tail))));
    }

pub mantissa_at : (mantissa : List ℕ) (digits : ℤ) (decimals : ℕ) (tail : List ℕ)
    → IsMantissa mantissa digits decimals → EndsNumber tail
    → MantissaAt mantissa digits decimals tail
mantissa_at mantissa digits decimals tail m ends =
    let cut = cut_mantissa m.sign m.whole m.pointed m.fraction tail m.negative m.is_sign m.whole_digits m.fraction_digits m.is_fraction
    (record { some = m.some; at_most = m.at_most }) ends in
    rw (m.spelled, m.value, m.places) cut
