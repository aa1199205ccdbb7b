-- An exponent at the front of a text.
use Rattle.std.proofs.Common.{◌≡◌, ℕ, ◌<◌, ◌≤◌, Bool, true, false, ◌&&◌, List, [], ◌∷◌, ◌++◌, length, arith, refl, sym, ap, subst, ◌∙◌, inl, inr, append_assoc, Option, Some, None}
use Rattle.std.specs.Prelude.{ℤ, pos, ◌==◌, nat_lt, nat_le}
use Rattle.std.proofs.lemmas.Bool.{cases_Bool}
use Rattle.std.specs.Char.{is_ascii_digit}
use Rattle.std.specs.Str.Parse.{digits_value}
use Rattle.exact_decimal.specs.NumberFields.{is_blank, is_exponent_letter, AreBlanks, AreDigits, IsSign, MayBeExponent, signed}
use Rattle.exact_decimal.specs.Parts.{front, behind, is_negative, behind_sign, exponent_behind, exponent_of}
use Rattle.exact_decimal.proofs.Runs.{Stops, head_passes, cut_at, passes_front, front_and_behind}
use Rattle.exact_decimal.proofs.Signs.{NoSign, EndsNumber, sign_cut, sign_at}
use Rattle.exact_decimal.proofs.Mantissas.{digit_is_no_sign}

-- ---- what is cut off is an exponent

pub record ExponentCut (text : List ℕ) (exponent : ℤ) (rest : List ℕ) : Type 0 where
  pub letters : List ℕ
  pub parts : text ≡ letters ++ rest
  pub may_be : MayBeExponent letters exponent

-- an exponent and what stands behind it
abbrev pub found : ℤ → List ℕ → Option (ℤ × List ℕ)
found exponent rest = let both : ℤ × List ℕ = (exponent, rest) in Some both

some_same : (a b : ℤ) (xs ys : List ℕ) → found a xs ≡ found b ys → (a ≡ b) × (xs ≡ ys)
some_same a b xs ys e = let pair : ◌≡◌ {A = ℤ × List ℕ} (a, xs) (b, ys) = cc in (ap (λ (p : ℤ × List ℕ). p.0) pair, ap (λ (p : ℤ × List ℕ). p.1) pair)

none_left : (byte : ℕ) (bytes : List ℕ) (exponent : ℤ) (rest : List ℕ)
    → found (pos 0) (byte ∷ bytes) ≡ found exponent rest → ExponentCut (byte ∷ bytes) exponent rest
none_left byte bytes exponent rest e =
    let (same, all) = some_same (pos 0) exponent (byte ∷ bytes) rest e in record { letters = []; parts = all; may_be = inl (refl, sym same) }

counted : (digits : List ℕ) → nat_lt 0 (length digits) && nat_le (length digits) 2 ≡ true
    → (0 < length digits) × (length digits ≤ 2)
counted digits h = (grind arith, grind arith)

letter_left : (byte : ℕ) (bytes : List ℕ) (exponent : ℤ) (rest : List ℕ) → is_exponent_letter byte ≡ true → exponent_behind bytes ≡ found exponent rest
    → ExponentCut (byte ∷ bytes) exponent rest
letter_left byte bytes exponent rest letter e =
    let digits = front is_ascii_digit (behind_sign bytes) in
    let sign = sign_cut bytes in
    elim (cases_Bool (nat_lt 0 (length digits) && nat_le (length digits) 2)) [
      | inl few ↦
          let (value, left) = some_same (signed (is_negative bytes) (digits_value 10 digits)) exponent (behind is_ascii_digit (behind_sign bytes)) rest (rw few at e) in
          let size = counted digits few in
          record {
            letters = byte ∷ (sign.sign ++ digits);
            parts = ap (λ (l : List ℕ). byte ∷ l)
                (sign.parts ∙ (ap (λ (l : List ℕ). sign.sign ++ l) (front_and_behind is_ascii_digit (behind_sign bytes) ∙ ap (λ (l : List ℕ). digits ++ l) left)
                ∙ sym (append_assoc sign.sign digits rest)));
            may_be = inr (record {
              letter = byte;
              is_letter = letter;
              sign = sign.sign;
              negative = is_negative bytes;
              is_sign = sign.is_sign;
              digits = digits;
              are_digits = passes_front is_ascii_digit (behind_sign bytes);
              some = size.0;
              at_most = size.1;
              spelled = refl;
              value = sym value;
            });
          }
      | inr many ↦ absurd (let none : None ≡ found exponent rest = rw many at e in cc)
    ]

pub exponent_cut : (text : List ℕ) (exponent : ℤ) (rest : List ℕ)
    → exponent_of text ≡ found exponent rest → ExponentCut text exponent rest
exponent_cut [] exponent rest e =
    let (same, all) = some_same (pos 0) exponent [] rest e in record { letters = []; parts = all; may_be = inl (refl, sym same) }
exponent_cut (byte ∷ bytes) exponent rest e = elim (cases_Bool (is_exponent_letter byte)) [
  | inl letter ↦ letter_left byte bytes exponent rest letter (rw letter at e)
  | inr none ↦ none_left byte bytes exponent rest (rw none at e)
]

-- ---- an exponent is cut off

blank_ends : (byte : ℕ) → is_blank byte ≡ true
    → (is_ascii_digit byte ≡ false) × ((byte == 46) ≡ false) × (is_exponent_letter byte ≡ false)
blank_ends byte h = (grind arith, grind arith, grind arith)

letter_ends : (byte : ℕ) → is_exponent_letter byte ≡ true → (is_ascii_digit byte ≡ false) × ((byte == 46) ≡ false)
letter_ends byte h = (grind arith, grind arith)

pub blanks_end : (after : List ℕ) → AreBlanks after → EndsNumber after
blanks_end [] blanks = tt
blanks_end (byte ∷ bytes) blanks = let ends = blank_ends byte (head_passes is_blank byte bytes blanks) in (ends.0, ends.1)

pub exponent_ends : (letters : List ℕ) (exponent : ℤ) (after : List ℕ)
    → MayBeExponent letters exponent → AreBlanks after → EndsNumber (letters ++ after)
exponent_ends letters exponent after may blanks = elim may [
  | inl (none, zero) ↦ subst (λ (l : List ℕ). EndsNumber (l ++ after)) (sym none) (blanks_end after blanks)
  | inr is ↦ subst (λ (l : List ℕ). EndsNumber (l ++ after)) (sym is.spelled) (letter_ends is.letter is.is_letter)
]

none_at : (after : List ℕ) → AreBlanks after → exponent_of after ≡ found (pos 0) after
none_at [] blanks = refl
none_at (byte ∷ bytes) blanks = rw (blank_ends byte (head_passes is_blank byte bytes blanks)).2 refl

pub blanks_no_digit : (after : List ℕ) → AreBlanks after → Stops is_ascii_digit after
blanks_no_digit [] blanks = tt
blanks_no_digit (byte ∷ bytes) blanks = (blank_ends byte (head_passes is_blank byte bytes blanks)).0

digits_no_sign : (digits after : List ℕ) → AreDigits digits → 0 < length digits
    → NoSign (digits ++ after)
digits_no_sign [] after all some = absurd (omega arith)
digits_no_sign (byte ∷ bytes) after all some = digit_is_no_sign byte (head_passes is_ascii_digit byte bytes all)

count_passes : (digits : List ℕ) → 0 < length digits → length digits ≤ 2
    → nat_lt 0 (length digits) && nat_le (length digits) 2 ≡ true
count_passes digits h k = grind arith

behind_letter : (sign digits after : List ℕ) (negative : Bool) → IsSign sign negative
    → AreDigits digits → 0 < length digits → length digits ≤ 2 → AreBlanks after
    → exponent_behind ((sign ++ digits) ++ after) ≡ found (signed negative (digits_value 10 digits)) (after)
behind_letter sign digits after negative is_sign are_digits some at_most blanks =
    let at_sign = sign_at sign negative (digits ++ after) is_sign (digits_no_sign digits after are_digits some) in
    let at_digits = cut_at is_ascii_digit digits after are_digits (blanks_no_digit after blanks) in
    let text : (sign ++ digits) ++ after ≡ sign ++ (digits ++ after) = append_assoc sign digits after in
    rw (text, at_sign.minus, at_sign.rest_is, at_digits.front, at_digits.behind, count_passes digits some at_most) refl

letter_at : (letter : ℕ) (text after : List ℕ) (exponent : ℤ) → is_exponent_letter letter ≡ true → exponent_behind text ≡ found exponent after
    → exponent_of (letter ∷ text) ≡ found exponent after
letter_at letter text after exponent h e = rw h e

pub exponent_at : (letters : List ℕ) (exponent : ℤ) (after : List ℕ)
    → MayBeExponent letters exponent → AreBlanks after
    → exponent_of (letters ++ after) ≡ found exponent after
exponent_at letters exponent after may blanks = elim may [
  | inl (none, zero) ↦ rw (none, zero) (none_at after blanks)
  | inr is ↦ rw (is.spelled, is.value)
      (letter_at is.letter ((is.sign ++ is.digits) ++ after) after _ is.is_letter (behind_letter is.sign is.digits after is.negative is.is_sign is.are_digits is.some is.at_most blanks))
]
