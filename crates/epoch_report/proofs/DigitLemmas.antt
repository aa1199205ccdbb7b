-- The last digits of a number.
use Rattle.std.proofs.Common.{◌≡◌, ℕ, zero, suc, ◌+◌, ◌/◌, ◌%◌, ◌^◌, ◌<◌, [], ◌∷◌, ◌++◌, refl, sym, ap, ◌∙◌, arith}
use Rattle.std.proofs.Math.Nat.{div-div-eq-div-mul}
use Rattle.std.proofs.lemmas.Fmt.{decimal_step, decimal_digit}
use Rattle.std.specs.Fmt.{decimal}
use Rattle.decimal_digits.specs.Digits.{last_digits}

-- the last digit comes behind those of a tenth
last_step : (k n : ℕ) → last_digits (suc k) n ≡ last_digits k (n / 10) ++ ((48 + n % 10) ∷ [])
unfolding last_digits
last_step zero n = ap (λ d. (48 + d) ∷ []) (omega arith)
last_step (suc k) n =
    let place : n / 10 ^ suc k ≡ n / 10 / 10 ^ k = ap (λ m. n / m) (omega arith) ∙ sym (div-div-eq-div-mul n 10 (10 ^ k)) in
    rw (place, last_step k n) refl

-- a one in front of k digits
pub behind_one : (k n : ℕ) → n < 10 ^ k → 10 ^ k + n < 2 ^ 64
    → decimal (10 ^ k + n) ≡ 49 ∷ last_digits k n
unfolding last_digits
behind_one zero n small fits =
    let none : n ≡ 0 = omega arith in
    rw none (decimal_digit 1 (omega arith))
behind_one (suc k) n small fits =
    let front : (10 ^ suc k + n) / 10 ≡ 10 ^ k + n / 10 = omega arith in
    let last : (10 ^ suc k + n) % 10 ≡ n % 10 = omega arith in
    rw (decimal_step (10 ^ suc k + n) (omega arith) fits, front, last, behind_one k (n / 10) (omega arith) (omega arith), last_step k n) refl

-- what is left of a division by a million has the same six digits
pub six_of_rest : (n : ℕ) → last_digits 6 (n % 1000000) ≡ last_digits 6 n
unfolding last_digits
six_of_rest n =
    let a : n % 1000000 / 100000 % 10 ≡ n / 100000 % 10 = omega arith in
    let b : n % 1000000 / 10000 % 10 ≡ n / 10000 % 10 = omega arith in
    let c : n % 1000000 / 1000 % 10 ≡ n / 1000 % 10 = omega arith in
    let d : n % 1000000 / 100 % 10 ≡ n / 100 % 10 = omega arith in
    let e : n % 1000000 / 10 % 10 ≡ n / 10 % 10 = omega arith in
    let f : n % 1000000 / 1 % 10 ≡ n / 1 % 10 = omega arith in
    rw (a, b, c, d, e, f) refl

-- twelve digits are six and six more
twelve_digits : (n : ℕ) → last_digits 12 n ≡ last_digits 6 (n / 1000000) ++ last_digits 6 n
unfolding last_digits
twelve_digits n =
    let a : n / 1000000 / 100000 ≡ n / 100000000000 = div-div-eq-div-mul n 1000000 100000 in
    let b : n / 1000000 / 10000 ≡ n / 10000000000 = div-div-eq-div-mul n 1000000 10000 in
    let c : n / 1000000 / 1000 ≡ n / 1000000000 = div-div-eq-div-mul n 1000000 1000 in
    let d : n / 1000000 / 100 ≡ n / 100000000 = div-div-eq-div-mul n 1000000 100 in
    let e : n / 1000000 / 10 ≡ n / 10000000 = div-div-eq-div-mul n 1000000 10 in
    let f : n / 1000000 / 1 ≡ n / 1000000 = div-div-eq-div-mul n 1000000 1 in
    rw (a, b, c, d, e, f) refl

-- the same with what is left of divisions by a million
pub twelve_of_rest : (n : ℕ)
    → last_digits 6 (n / 1000000 % 1000000) ++ last_digits 6 (n % 1000000) ≡ last_digits 12 n
twelve_of_rest n = (λ i. six_of_rest (n / 1000000) i ++ six_of_rest n i) ∙ sym (twelve_digits n)
