-- What is cut from a field is its count, and a field's count is what is cut.
use Rattle.std.proofs.Common.{◌≡◌, ℕ, ◌+◌, ◌<◌, ◌≤◌, ◌^◌, true, List, [], ◌∷◌, ◌++◌, length, arith, sym, ap, ◌∙◌, inl, inr, Option, Some, None, IfSome, subst}
use Rattle.std.specs.Prelude.{◌↔◌, nat_lt}
use Rattle.std.specs.Char.{is_ascii_digit}
use Rattle.std.specs.Str.Parse.{digits_value}
use Rattle.std.proofs.lemmas.Bool.{cases_Bool}
use Rattle.std.proofs.lemmas.List.{length-append}
use Rattle.std.proofs.Math.Nat.{pow-le-pow_right}
use Rattle.exact_decimal.specs.Counts.{IsCount}
use Rattle.exact_decimal.specs.NumberFields.{is_blank, AreBlanks, AreDigits}
use Rattle.exact_decimal.specs.Parts.{front, behind, is_blank_text, count_text, count_of}
use Rattle.exact_decimal.proofs.Answers.{blank_from, blank_to, behind_is}
use Rattle.exact_decimal.proofs.Exponents.{blanks_no_digit}
use Rattle.exact_decimal.proofs.Digits.{after_below}
use Rattle.exact_decimal.proofs.Runs.{Stops, cut_at, passes_front, front_and_behind, head_passes}
use Rattle.exact_decimal.proofs.Mantissas.{digit_is_not_blank as digit_no_blank}

count_text_is : (before text : List ℕ) (n : ℕ) → AreBlanks before → count_text text ≡ Some n
    → IsCount (before ++ text) n
count_text_is before text n blanks e = elim (cases_Bool (nat_lt 0 (length (front is_ascii_digit text)))) [
  | inl some ↦ elim (cases_Bool (is_blank_text (behind is_ascii_digit text))) [
    | inl ended ↦
        let read : Some (digits_value 10 (front is_ascii_digit text)) ≡ Some n = rw (some, ended) at e in
        record {
          before = before;
          blanks_before = blanks;
          digits = front is_ascii_digit text;
          are_digits = passes_front is_ascii_digit text;
          some = grind arith;
          after = behind is_ascii_digit text;
          blanks_after = blank_from (behind is_ascii_digit text) ended;
          spelled = ap (λ (l : List ℕ). before ++ l) (front_and_behind is_ascii_digit text);
          value = cc;
        }
    | inr more ↦ absurd (let none : None ≡ Some n = rw (some, more) at e in cc)
  ]
  | inr empty ↦ absurd (let none : None ≡ Some n = rw empty at e in cc)
]

count_is : (field : List ℕ) (n : ℕ) → count_of field ≡ Some n → IsCount field n
count_is field n e =
    subst (λ (l : List ℕ). IsCount l n) (sym (front_and_behind is_blank field))
    (count_text_is (front is_blank field) (behind is_blank field) n (passes_front is_blank field) e)

digits_stop : (digits after : List ℕ) → 0 < length digits → AreDigits digits
    → Stops is_blank (digits ++ after)
digits_stop [] after some digits = absurd (omega arith)
digits_stop (byte ∷ more) after some digits = digit_no_blank byte (head_passes is_ascii_digit byte more digits)

lt_test : (n : ℕ) → 0 < n → nat_lt 0 n ≡ true
lt_test n h = grind arith

is_count : (field : List ℕ) (n : ℕ) → IsCount field n → count_of field ≡ Some n
is_count field n c =
    let text = behind_is field c.before (c.digits ++ c.after) c.blanks_before (digits_stop c.digits c.after c.some c.are_digits) c.spelled in
    let cut = cut_at is_ascii_digit c.digits c.after c.are_digits (blanks_no_digit c.after c.blanks_after) in
    rw (text, cut.front, cut.behind, lt_test (length c.digits) c.some, blank_to c.after c.blanks_after) (ap (λ (m : ℕ). Some m) (sym c.value))

pub count_answer : (field : List ℕ) (n : ℕ) → (count_of field ≡ Some n) ↔ IsCount field n
count_answer field n = (count_is field n, is_count field n)

-- a count has as many digits as its field has bytes, at most
pub count_below : (field : List ℕ) (n : ℕ) → IsCount field n → n < 10 ^ length field
count_below field n c =
    let bytes : length field ≡ length c.before + (length c.digits + length c.after) =
    ap (λ (l : List ℕ). length l) c.spelled ∙ (length-append c.before (c.digits ++ c.after) ∙ ap (λ (m : ℕ). length c.before + m) (length-append c.digits c.after)) in
    let most : 0 + length c.digits ≤ length field = omega arith in
    omega (arith, c.value, after_below 0 0 c.digits c.are_digits (omega arith), pow-le-pow_right {n = 10} (omega arith) most)

pub count_bound : (field : List ℕ) (read : Option ℕ) → read ≡ count_of field
    → IfSome read (λ n. n < 10 ^ length field)
count_bound field None e = tt
count_bound field (Some n) e = count_below field n (count_is field n (sym e))
