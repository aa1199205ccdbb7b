-- Numbers among the words.
use Rattle.std.proofs.Common.{◌≡◌, ◌==◌, ◌&&◌, ◌^◌, ◌<◌, ◌≤◌, ℕ, Bool, true, false, not, List, [], ◌∷◌, length, get_or, Some, None, Err, arith, inl, inr, refl, sym, ap, subst, ◌∙◌}
use Rattle.std.specs.Prelude.{if◌then◌else◌, nat_le}
use Rattle.std.specs.List.{list_all}
use Rattle.std.specs.Char.{is_ascii_digit}
use Rattle.std.specs.Str.Parse.{digits_value}
use Rattle.std.specs.Str.{all_ascii_digits}
use Rattle.std.specs.Str.Parse.{ParsesUnsigned}
use Rattle.std.specs.declared.result.Result.{Result}
use Rattle.std.proofs.lemmas.Bool.{eqb-true, cases_lt, lt-leb}
use Rattle.std.proofs.lemmas.Str.Parse.{parse_digits, numerals_by_value, tells_all_ascii_digits}
use Rattle.command_words.specs.Numbers.{leads, is_numeral, is_from_to, number_in}
use Rattle.command_words.specs.Stated.{begins_with_dash}

-- what a number is written with doesn't begin with a dash
pub number_plain : (low high : ℕ) (text : List ℕ) (n : ℕ) → number_in low high text ≡ Some n
    → begins_with_dash text ≡ false
number_plain low high [] n e = refl
number_plain low high (byte ∷ more) n e = go (byte == 45) refl
  where
    go : (b : Bool) → (byte == 45) ≡ b → b ≡ false
    go false is = refl
    go true is =
        let dash : byte ≡ 45 = eqb-true byte 45 is in
        let wrong : number_in low high (45 ∷ more) ≡ Some n = subst (λ (x : ℕ). number_in low high (x ∷ more) ≡ Some n) dash e in cc

-- a text of two bytes and more
pub leads_from : (text : List ℕ) → 2 ≤ length text → leads text ≡ not (get_or text 0 0 == 48)
leads_from [] long = absurd (omega arith)
leads_from (byte ∷ []) long = absurd (omega arith)
leads_from (byte ∷ next ∷ more) long = refl

digits_all : (text : List ℕ) → list_all is_ascii_digit text ≡ all_ascii_digits text
digits_all [] = refl
digits_all (byte ∷ more) = ap (λ b. is_ascii_digit byte && b) (digits_all more)

and_true : (a b : Bool) → (a && b) ≡ true → a ≡ true
and_true true b e = refl
and_true false b e = cc

and_false : (a b : Bool) → b ≡ false → (a && b) ≡ false
and_false true b e = e
and_false false b e = refl

some_digit : (text : List ℕ) → is_numeral text ≡ true → 0 < length text
some_digit [] e = cc
some_digit (byte ∷ more) e = omega arith

-- digits that don't fit 32 bits write no number up to a bound that does
pub not_parsed : {E : Type 0} (low high : ℕ) (text : List ℕ) (r : Result ℕ E) (e : E) → r ≡ Err e
    → high < 2 ^ 32
    → is_numeral text ≡ true → ParsesUnsigned 32 10 text r → number_in low high text ≡ None
not_parsed {E} low high text r e is small numeral parsed = elim (cases_lt (digits_value 10 text) (2 ^ 32)) [
  | inl lt ↦ absurd (no (some_digit text numeral, lt))
  | inr ge ↦ ap (λ (b : Bool). if b then Some (digits_value 10 text) else None)
      (and_false (is_numeral text) (is_from_to low high (digits_value 10 text)) (and_false (nat_le low (digits_value 10 text)) (nat_le (digits_value 10 text) high)
      (lt-leb (digits_value 10 text) high (omega (arith, ge, small)))))
]
  where
    no : (0 < length text) × (digits_value 10 text < 2 ^ 32) → ⊥
    no = parse_digits (numerals_by_value (λ ds. all_ascii_digits ds ≡ true) tells_all_ascii_digits) 32 text (Err e)
        (subst (λ (x : Result ℕ E). ParsesUnsigned 32 10 text x) is parsed)
        (sym (digits_all text) ∙ and_true (list_all is_ascii_digit text) (leads text) numeral)
