-- The numbers that digits write.
use Rattle.std.proofs.Common.{◌≡◌, ℕ, suc, ◌+◌, ◌-◌, ◌*◌, ◌^◌, ◌<◌, ◌≤◌, true, false, List, [], ◌∷◌, ◌++◌, length, drop, get_or, arith, add-one, add-zero, subst, sym, ap, ◌∙◌, refl}
use Rattle.std.proofs.Math.Nat.{pow-suc, pow-le-pow_right, one-le-pow}
use Rattle.std.proofs.Math.Seq.{drop-cons}
use Rattle.std.specs.Char.{is_ascii_digit, digit_value}
use Rattle.std.specs.Prelude.{Bool}
use Rattle.std.proofs.lemmas.Int.{ints}
use Rattle.std.specs.Str.Parse.{digits_value_after}
use Rattle.grid_model.specs.Sizes.{IsWithin}
use Rattle.exact_decimal.specs.NumberFields.{AreDigits, signed}
use Rattle.exact_decimal.specs.Parts.{has_digits}

pub record IsDigitByte (byte : ℕ) : Type 0 where
  pub low : 48 ≤ byte
  pub high : byte ≤ 57
  pub value : digit_value byte ≡ byte - 48

pub digit_byte : (byte : ℕ) → is_ascii_digit byte ≡ true → IsDigitByte byte
digit_byte byte h = record { low = grind arith; high = grind arith; value = grind arith }

pub digit_at : (digits : List ℕ) (i : ℕ) → AreDigits digits → i < length digits
    → IsDigitByte (get_or digits i 0)
digit_at digits i all within = digit_byte (get_or digits i 0) (all i 0 within)

ten_times : (k : ℕ) → 10 ^ (k + 1) ≡ 10 ^ k * 10
ten_times k = rw (add-one k) (omega (arith, pow-suc 10 k))

-- one more digit, where so many are to come
pub room_more : (number digit len i : ℕ) → number < 10 ^ (18 - (len - i)) → i < len → len ≤ 18
    → digit ≤ 9
    → number * 10 + digit < 10 ^ (18 - (len - (i + 1)))
room_more number digit len i h within short small =
    let next : 18 - (len - (i + 1)) ≡ 18 - (len - i) + 1 = omega arith in
    rw next (omega (arith, ten_times (18 - (len - i))))

pub within_18 : (number len i : ℕ) → number < 10 ^ (18 - (len - i)) → number < 10 ^ 18
within_18 number len i h = let more : 18 - (len - i) ≤ 18 = omega arith in omega (arith, h, pow-le-pow_right {n = 10} (omega arith) more)

pub value_more : (digits : List ℕ) (number next i total : ℕ) → AreDigits digits → i < length digits
    → digits_value_after 10 number (drop i digits) ≡ total
    → next ≡ number * 10 + (get_or digits i 0 - 48)
    → digits_value_after 10 next (drop (i + 1) digits) ≡ total
value_more digits number next i total all within h e =
    let is = digit_at digits i all within in
    let cut : drop i digits ≡ get_or digits i 0 ∷ drop (i + 1) digits = rw (add-one i) (drop-cons digits i 0 within) in
    let same : number * 10 + digit_value (get_or digits i 0) ≡ next = omega (arith, is.value) in
    ap (λ n. digits_value_after 10 n (drop (i + 1) digits)) (sym same) ∙ (sym (ap (λ ds. digits_value_after 10 number ds) cut) ∙ h)

-- number * 10 has one digit more at most, of those that fit 18
pub fits_more : (number digit len i : ℕ) → number < 10 ^ (18 - (len - i)) → i < len → len ≤ 18
    → digit ≤ 9 → number * 10 + digit < 10 ^ 18
fits_more number digit len i h within short small = within_18 (number * 10 + digit) len (i + 1) (room_more number digit len i h within short small)

pub ten_power : (k : ℕ) → 0 < 10 ^ k
ten_power k = omega (arith, one-le-pow k 10 (omega arith))

tail_digits : (c : ℕ) (cs : List ℕ) → AreDigits (c ∷ cs) → AreDigits cs
tail_digits c cs all k d within = all (suc k) d (omega arith)

pub after_below : (n k : ℕ) (digits : List ℕ) → AreDigits digits → n < 10 ^ k
    → digits_value_after 10 n digits < 10 ^ (k + length digits)
after_below n k [] all h = rw (add-zero k) h
after_below n k (c ∷ cs) all h =
    let digit = digit_at (c ∷ cs) 0 all (omega arith) in
    let more = after_below (n * 10 + digit_value c) (k + 1) cs (tail_digits c cs all) (omega (arith, ten_times k, digit.high, digit.value)) in
    let same : k + 1 + length cs ≡ k + suc (length cs) = omega arith in
    subst (λ (m : ℕ). digits_value_after 10 (n * 10 + digit_value c) cs < 10 ^ m) same more

pub after-append : (n : ℕ) (xs ys : List ℕ)
    → digits_value_after 10 n (xs ++ ys) ≡ digits_value_after 10 (digits_value_after 10 n xs) ys
after-append n [] ys = refl
after-append n (c ∷ cs) ys = after-append (n * 10 + digit_value c) cs ys

pub record AreFew (whole fraction : List ℕ) : Type 0 where
  pub some : 0 < length whole + length fraction
  pub at_most : length whole + length fraction ≤ 18

pub are_few : (whole fraction : List ℕ) → has_digits whole fraction ≡ true → AreFew whole fraction
are_few whole fraction h = record { some = grind arith; at_most = grind arith }

pub has_few : (whole fraction : List ℕ) → AreFew whole fraction → has_digits whole fraction ≡ true
has_few whole fraction few = grind (arith, few.some, few.at_most)

-- the digits behind the point have room behind those before it
pub room_behind : (number : ℕ) (whole fraction : List ℕ) → AreDigits whole → AreFew whole fraction
    → number ≡ digits_value_after 10 0 whole → number < 10 ^ (18 - length fraction)
room_behind number whole fraction all few e =
    let most : 0 + length whole ≤ 18 - length fraction = omega (arith, few.at_most) in
    omega (arith, e, after_below 0 0 whole all (omega arith), pow-le-pow_right {n = 10} (omega arith) most)

pub signed_size : (negative : Bool) (amount bound : ℕ) → amount ≤ bound
    → IsWithin bound (signed negative amount)
signed_size true amount bound h = record { low = omega (arith, ints); high = omega (arith, ints) }
signed_size false amount bound h = record { low = omega (arith, ints); high = omega (arith, ints) }

pub two_digits : (amount : ℕ) (digits : List ℕ) → AreDigits digits → length digits ≤ 2
    → amount ≡ digits_value_after 10 0 digits → amount ≤ 99
two_digits amount digits all short e =
    let few : 0 + length digits ≤ 2 = omega arith in
    omega (arith, e, after_below 0 0 digits all (omega arith), pow-le-pow_right {n = 10} (omega arith) few)
