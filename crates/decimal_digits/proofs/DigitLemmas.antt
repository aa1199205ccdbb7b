-- The last digits of a number: how many, which bytes, and what they write.
use Rattle.std.proofs.Common.{◌≡◌, ℕ, zero, suc, ◌+◌, ◌-◌, ◌*◌, ◌/◌, ◌%◌, ◌^◌, ◌<◌, true, [], ◌∷◌, length, refl, ap, ◌∙◌, arith}
use Rattle.std.proofs.Math.Nat.{pow-suc, one-le-pow}
use lib.Arith.{mod-mul}
use Rattle.std.specs.Char.{is_ascii_digit, digit_value}
use Rattle.std.specs.List.{list_all}
use Rattle.std.specs.Str.Parse.{digits_value_after, digits_value}
use Rattle.std.proofs.lemmas.Bool.{and_from}
use Rattle.decimal_digits.specs.Digits.{last_digits}

-- the first of them, and the others
pub digits_more : (k n : ℕ) → 0 < k
    → last_digits k n ≡ (48 + n / 10 ^ (k - 1) % 10) ∷ last_digits (k - 1) n
unfolding last_digits
digits_more zero n some = absurd (omega arith)
digits_more (suc k) n some =
    let one : suc k - 1 ≡ k = omega arith in
    rw one refl

pub no_digits : (n : ℕ) → last_digits 0 n ≡ []
unfolding last_digits
no_digits n = refl

pub length_digits : (k n : ℕ) → length (last_digits k n) ≡ k
unfolding last_digits
length_digits zero n = refl
length_digits (suc k) n = ap suc (length_digits k n)

-- a byte that writes a digit
pub record IsDigit (byte digit : ℕ) : Type 0 where
  pub passes : is_ascii_digit byte ≡ true
  pub value : digit_value byte ≡ digit

pub a_digit : (d : ℕ) → d < 10 → IsDigit (48 + d) d
a_digit d h = record { passes = grind arith; value = grind arith }

pub all_digits : (k n : ℕ) → list_all is_ascii_digit (last_digits k n) ≡ true
unfolding last_digits
all_digits zero n = refl
all_digits (suc k) n = and_from _ _ (a_digit (n / 10 ^ k % 10) (omega arith)).passes (all_digits k n)

-- behind the digits of m they write m * 10^k and what is left of n
pub value_after : (k n m : ℕ) → digits_value_after 10 m (last_digits k n) ≡ m * 10 ^ k + n % 10 ^ k
unfolding last_digits
value_after zero n m = omega arith
value_after (suc k) n m =
    let here = (a_digit (n / 10 ^ k % 10) (omega arith)).value in
    let some = one-le-pow k 10 (omega arith) in
    let cut : n % (10 * 10 ^ k) ≡ (n / 10 ^ k % 10) * 10 ^ k + n % 10 ^ k = mod-mul n {m = 10} {c = 10 ^ k} (omega arith) (omega (arith, some)) in
    let power : 10 ^ suc k ≡ 10 * 10 ^ k = omega (arith, pow-suc 10 k) in
    let more = value_after k n (m * 10 + digit_value (48 + n / 10 ^ k % 10)) in
    more ∙ (rw (here, power, cut) (omega arith))

pub value_is : (k n : ℕ) → digits_value 10 (last_digits k n) ≡ n % 10 ^ k
value_is k n = value_after k n 0 ∙ omega arith
