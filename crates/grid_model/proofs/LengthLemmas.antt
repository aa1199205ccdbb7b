-- The bit length is one number, and it is `bit_length`.
use Rattle.std.proofs.Common.{◌≡◌, ℕ, zero, suc, ◌+◌, ◌*◌, ◌^◌, ◌<◌, ◌≤◌, arith, nat_le, add-one, inl, inr, ap}
use Rattle.std.proofs.Math.Nat.{pow-suc}
use Rattle.std.proofs.Math.Pow.{pow_mono}
use Rattle.std.proofs.lemmas.Bool.{cases_lt, cond_both, leb-true, leb-false}
use Rattle.grid_model.specs.Lengths.{IsBitLength, digits_up_to, bit_length}

double : (k : ℕ) → 2 ^ suc k ≡ 2 ^ k + 2 ^ k
double k = omega (arith, pow-suc 2 k)

below_power : (n : ℕ) → n < 2 ^ n
below_power zero = omega arith
below_power (suc n) = omega (arith, below_power n, double n)

digits_up_to_is : (n k : ℕ) → n < 2 ^ k → IsBitLength n (digits_up_to n k)
unfolding digits_up_to
digits_up_to_is n zero h = record { fits = h; needed = λ fewer less. absurd (omega arith) }
digits_up_to_is n (suc k) h =
    cond_both (nat_le (2 ^ k) n) (suc k) (digits_up_to n k) (IsBitLength n)
    (λ e. record { fits = h; needed = λ fewer less. omega (arith, leb-true _ _ e, pow_mono {i = fewer} {j = k} (omega arith)) })
    (λ e. digits_up_to_is n k (omega (arith, leb-false _ _ e)))

pub bit_length_is : (n : ℕ) → IsBitLength n (bit_length n)
unfolding bit_length
bit_length_is n = digits_up_to_is n n (below_power n)

bits_not_above : (n a b : ℕ) → IsBitLength n a → IsBitLength n b → a ≤ b
bits_not_above n a b p q = elim (cases_lt b a) [
  | inl less ↦ absurd (omega (arith, p.needed b less, q.fits))
  | inr not_less ↦ omega arith
]

pub bit_length_from : (n a : ℕ) → IsBitLength n a → a ≡ bit_length n
bit_length_from n a p = omega (arith, bits_not_above n a (bit_length n) p (bit_length_is n), bits_not_above n (bit_length n) a (bit_length_is n) p)

-- the highest power of two in n is 2 ^ k
pub bits_from_power : (n k : ℕ) → 2 ^ k ≤ n → n < 2 * 2 ^ k → IsBitLength n (k + 1)
bits_from_power n k le gt = record {
  fits = omega (arith, double k, ap (λ m. 2 ^ m) (add-one k));
  needed = λ fewer less. omega (arith, le, pow_mono {i = fewer} {j = k} (omega arith));
}

pub no_bits : 0 ≡ bit_length 0
no_bits = bit_length_from 0 0 (record { fits = omega arith; needed = λ fewer less. absurd (omega arith) })

pub power_below : (n k top : ℕ) → 2 ^ k ≤ n → n < 2 ^ top → k < top
power_below n k top le less = elim (cases_lt k top) [
  | inl k_less ↦ k_less
  | inr not_less ↦ absurd (omega (arith, pow_mono {i = top} {j = k} not_less))
]
