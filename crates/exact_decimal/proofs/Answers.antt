-- What is cut from a field is its number, and a field's number is what is cut.
use Rattle.std.proofs.Common.{◌≡◌, ℕ, ◌<◌, Bool, true, false, ◌&&◌, List, [], ◌∷◌, ◌++◌, suc, length, arith, refl, sym, ap, subst, ◌∙◌, inl, inr, Option, Some, None, Result, Ok, Err}
use Rattle.std.specs.Prelude.{ℤ, pos, neg_ℤ, ◌-ℤ◌, ◌==◌, ◌↔◌}
use Rattle.std.proofs.lemmas.Bool.{cases_Bool, eqb-true}
use Rattle.exact_decimal.specs.declared.decimal.BadNumber.{BadNumber}
use Rattle.exact_decimal.specs.declared.decimal.Decimal.{Decimal}
use Rattle.exact_decimal.specs.NumberFields.{is_blank, AreBlanks, IsMantissa, IsFixed, IsFloating}
use Rattle.exact_decimal.specs.Parts.{front, behind, whole_at, fraction_at, behind_mantissa, has_digits, digits_at, exponent_of, is_blank_text, number, fixed_text, fixed_of, with_exponent, floating_text, floating_of}
use Rattle.exact_decimal.proofs.Runs.{Stops, cut_at, all_behind, all_passed, passes_front, front_and_behind}
use Rattle.exact_decimal.proofs.Mantissas.{mantissa_cut, mantissa_at}
use Rattle.exact_decimal.proofs.Exponents.{found, exponent_cut, blanks_end, exponent_ends, exponent_at}

-- ---- blank texts

no_length : (xs : List ℕ) → (length xs == 0) ≡ true → xs ≡ []
no_length [] h = refl
no_length (x ∷ xs) h = absurd (let e : suc (length xs) ≡ 0 = eqb-true _ _ h in omega arith)

pub blank_from : (text : List ℕ) → is_blank_text text ≡ true → AreBlanks text
blank_from text h = all_passed is_blank text (no_length (behind is_blank text) h)

pub blank_to : (text : List ℕ) → AreBlanks text → is_blank_text text ≡ true
blank_to text blanks = rw (all_behind is_blank text blanks) refl

-- ---- decimals

decimal_same : (d e t u : ℤ) → number d t ≡ number e u → (d ≡ e) × (t ≡ u)
decimal_same d e t u h =
    let same : ◌≡◌ {A = Decimal} (record { digits = d; ten = t }) (record { digits = e; ten = u }) = cc in
    (ap (λ (n : Decimal). n.digits) same, ap (λ (n : Decimal). n.ten) same)

both : (a b : Bool) → (a && b) ≡ true → (a ≡ true) × (b ≡ true)
both true b h = (refl, h)
both false b h = absurd cc

none_is_no_number : (digits ten : ℤ) → Ok None ≡ number digits ten → ⊥
none_is_no_number digits ten h = cc

error_is_no_number : (digits ten : ℤ) → Err (record {}) ≡ number digits ten → ⊥
error_is_no_number digits ten h = cc

some_length : (xs : List ℕ) → 0 < length xs → (length xs == 0) ≡ false
some_length xs h = grind arith

-- ---- fixed fields

fixed_text_is : (before text : List ℕ) (digits ten : ℤ) → AreBlanks before
    → fixed_text text ≡ number digits ten → IsFixed (before ++ text) digits ten
fixed_text_is before text digits ten blanks e = elim (cases_Bool (has_digits (whole_at text) (fraction_at text) && is_blank_text (behind_mantissa text))) [
  | inl fits ↦
      let parts = both _ _ fits in
      let cut = mantissa_cut text parts.0 in
      let same = decimal_same (digits_at text) digits (neg_ℤ (pos (length (fraction_at text)))) ten (rw fits at e) in
      record {
        before = before;
        blanks_before = blanks;
        mantissa = cut.mantissa;
        decimals = length (fraction_at text);
        is_mantissa = subst (λ (d : ℤ). IsMantissa cut.mantissa d (length (fraction_at text))) same.0 cut.is_mantissa;
        after = behind_mantissa text;
        blanks_after = blank_from (behind_mantissa text) parts.1;
        spelled = ap (λ (l : List ℕ). before ++ l) cut.parts;
        power = sym same.1;
      }
  | inr misfits ↦ absurd (error_is_no_number digits ten (rw misfits at e))
]

fixed_is : (field : List ℕ) (digits ten : ℤ) → fixed_of field ≡ number digits ten
    → IsFixed field digits ten
fixed_is field digits ten e = elim (cases_Bool (is_blank_text field)) [
  | inl blank ↦ absurd (none_is_no_number digits ten (rw blank at e))
  | inr some ↦ subst (λ (l : List ℕ). IsFixed l digits ten) (sym (front_and_behind is_blank field))
      (fixed_text_is (front is_blank field) (behind is_blank field) digits ten (passes_front is_blank field) (rw some at e))
]

-- the text behind the blanks at the front
pub behind_is : (field before text : List ℕ) → AreBlanks before → Stops is_blank text
    → field ≡ before ++ text → behind is_blank field ≡ text
behind_is field before text blanks stops e = rw e ((cut_at is_blank before text blanks stops).behind)

is_fixed : (field : List ℕ) (digits ten : ℤ) → IsFixed field digits ten
    → fixed_of field ≡ number digits ten
is_fixed field digits ten f =
    let at = mantissa_at f.mantissa digits f.decimals f.after f.is_mantissa (blanks_end f.after f.blanks_after) in
    let text = behind_is field f.before (f.mantissa ++ f.after) f.blanks_before at.not_blank f.spelled in
    rw (text, some_length (f.mantissa ++ f.after) at.some, at.has, at.rest_is, blank_to f.after f.blanks_after, at.digits_are, at.decimals_are, f.power) refl

pub fixed_answer : (field : List ℕ) (digits ten : ℤ)
    → (fixed_of field ≡ number digits ten) ↔ IsFixed field digits ten
fixed_answer field digits ten = (fixed_is field digits ten, is_fixed field digits ten)

number_is_not_none : (digits ten : ℤ) → number digits ten ≡ Ok None → ⊥
number_is_not_none digits ten h = cc

abbrev bad_number : Result (Option Decimal) BadNumber
bad_number = Err (record {})

error_is_not_none : bad_number ≡ Ok None → ⊥
error_is_not_none h = cc

fixed_text_is_not_none : (text : List ℕ) → fixed_text text ≡ Ok None → ⊥
fixed_text_is_not_none text e = elim (cases_Bool (has_digits (whole_at text) (fraction_at text) && is_blank_text (behind_mantissa text))) [
  | inl fits ↦ number_is_not_none (digits_at text) (neg_ℤ (pos (length (fraction_at text)))) (rw fits at e)
  | inr misfits ↦ error_is_not_none (rw misfits at e)
]

pub fixed_blank : (field : List ℕ) → (fixed_of field ≡ Ok None) ↔ AreBlanks field
fixed_blank field = (
  λ e. elim (cases_Bool (is_blank_text field)) [
    | inl blank ↦ blank_from field blank
    | inr some ↦ absurd (fixed_text_is_not_none (behind is_blank field) (rw some at e))
  ],
  λ blanks. rw (blank_to field blanks) refl,
)

-- ---- exponent fields

with_exponent_is : (before text : List ℕ) (digits ten exponent : ℤ) (rest : List ℕ)
    → AreBlanks before → has_digits (whole_at text) (fraction_at text) ≡ true
    → exponent_of (behind_mantissa text) ≡ found exponent rest
    → with_exponent text (found exponent rest) ≡ number digits ten
    → IsFloating (before ++ text) digits ten
with_exponent_is before text digits ten exponent rest blanks has is e = elim (cases_Bool (is_blank_text rest)) [
  | inl ended ↦
      let cut = mantissa_cut text has in
      let letters = exponent_cut (behind_mantissa text) exponent rest is in
      let same = decimal_same (digits_at text) digits (exponent -ℤ pos (length (fraction_at text))) ten (rw ended at e) in
      record {
        before = before;
        blanks_before = blanks;
        mantissa = cut.mantissa;
        decimals = length (fraction_at text);
        is_mantissa = subst (λ (d : ℤ). IsMantissa cut.mantissa d (length (fraction_at text))) same.0 cut.is_mantissa;
        letters = letters.letters;
        exponent = exponent;
        may_be_exponent = letters.may_be;
        after = rest;
        blanks_after = blank_from rest ended;
        spelled = ap (λ (l : List ℕ). before ++ l) (cut.parts ∙ ap (λ (l : List ℕ). cut.mantissa ++ l) letters.parts);
        power = sym same.1;
      }
  | inr more ↦ absurd (error_is_no_number digits ten (rw more at e))
]

floating_text_is : (before text : List ℕ) (digits ten : ℤ) (end : Option (ℤ × List ℕ))
    → AreBlanks before → has_digits (whole_at text) (fraction_at text) ≡ true
    → exponent_of (behind_mantissa text) ≡ end → with_exponent text end ≡ number digits ten
    → IsFloating (before ++ text) digits ten
floating_text_is before text digits ten None blanks has is e = absurd (error_is_no_number digits ten e)
floating_text_is before text digits ten (Some (exponent, rest)) blanks has is e = with_exponent_is before text digits ten exponent rest blanks has is e

floating_is : (field : List ℕ) (digits ten : ℤ) → floating_of field ≡ number digits ten
    → IsFloating field digits ten
floating_is field digits ten e = elim (cases_Bool (is_blank_text field)) [
  | inl blank ↦ absurd (none_is_no_number digits ten (rw blank at e))
  | inr some ↦ elim (cases_Bool (has_digits (whole_at (behind is_blank field)) (fraction_at (behind is_blank field)))) [
    | inl has ↦ subst (λ (l : List ℕ). IsFloating l digits ten) (sym (front_and_behind is_blank field))
        (floating_text_is (front is_blank field) (behind is_blank field) digits ten _ (passes_front is_blank field) has refl (rw (some, has) at e))
    | inr none ↦ absurd (error_is_no_number digits ten (rw (some, none) at e))
  ]
]

is_floating : (field : List ℕ) (digits ten : ℤ) → IsFloating field digits ten
    → floating_of field ≡ number digits ten
is_floating field digits ten f =
    let at = mantissa_at f.mantissa digits f.decimals (f.letters ++ f.after) f.is_mantissa (exponent_ends f.letters f.exponent f.after f.may_be_exponent f.blanks_after) in
    let text = behind_is field f.before (f.mantissa ++ (f.letters ++ f.after)) f.blanks_before at.not_blank f.spelled in
    let letters = exponent_at f.letters f.exponent f.after f.may_be_exponent f.blanks_after in
    rw (text, some_length (f.mantissa ++ (f.letters ++ f.after)) at.some, at.has, at.rest_is, letters, blank_to f.after f.blanks_after, at.digits_are, at.decimals_are, f.power) refl

pub floating_answer : (field : List ℕ) (digits ten : ℤ)
    → (floating_of field ≡ number digits ten) ↔ IsFloating field digits ten
floating_answer field digits ten = (floating_is field digits ten, is_floating field digits ten)

with_exponent_is_not_none : (text : List ℕ) (end : Option (ℤ × List ℕ))
    → with_exponent text end ≡ Ok None → ⊥
with_exponent_is_not_none text None e = error_is_not_none e
with_exponent_is_not_none text (Some (exponent, rest)) e = elim (cases_Bool (is_blank_text rest)) [
  | inl ended ↦ number_is_not_none (digits_at text) (exponent -ℤ pos (length (fraction_at text))) (rw ended at e)
  | inr more ↦ error_is_not_none (rw more at e)
]

floating_text_is_not_none : (text : List ℕ) → floating_text text ≡ Ok None → ⊥
floating_text_is_not_none text e = elim (cases_Bool (has_digits (whole_at text) (fraction_at text))) [
  | inl has ↦ with_exponent_is_not_none text (exponent_of (behind_mantissa text)) (rw has at e)
  | inr none ↦ error_is_not_none (rw none at e)
]

pub floating_blank : (field : List ℕ) → (floating_of field ≡ Ok None) ↔ AreBlanks field
floating_blank field = (
  λ e. elim (cases_Bool (is_blank_text field)) [
    | inl blank ↦ blank_from field blank
    | inr some ↦ absurd (floating_text_is_not_none (behind is_blank field) (rw some at e))
  ],
  λ blanks. rw (blank_to field blanks) refl,
)
