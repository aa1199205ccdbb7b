-- Powers of ten, and fractions with a sign.
use Rattle.std.proofs.Common.{◌≡◌, ℕ, zero, suc, ◌*◌, ◌^◌, ◌<◌, ◌≤◌, Bool, true, false, arith, refl}
use Rattle.std.specs.Prelude.{ℤ, pos, negsuc, neg_ℤ, ◌*ℤ◌, unsigned_abs}
use Rattle.std.proofs.lemmas.Int.{ints}
use Rattle.std.proofs.lemmas.Nat.{mul-le}
use Rattle.std.proofs.Math.Nat.{pow-le-pow_right, one-le-pow}
use lib.Signed.{lt_z}
use Rattle.grid_model.proofs.ProductLemmas.{neg_mul}
use Rattle.grid_model.specs.Rounding.{IsFloor, IsCeiling}
use Rattle.exact_decimal.specs.Signing.{low_of, high_of}
use Rattle.exact_decimal.specs.Units.{IsRounded}

pub powers : (i j : ℕ) → i ≤ j → 10 ^ i ≤ 10 ^ j
powers i j h = pow-le-pow_right {n = 10} (omega arith) h

pub power_some : (k : ℕ) → 0 < 10 ^ k
power_some k = omega (arith, one-le-pow k 10 (omega arith))

-- a number that isn't 0 passes each bound up to 10 ^ 19 at a higher power
pub passes_high : (amount power bound : ℕ) → 0 < amount → 19 < power → bound ≤ 10 ^ 19
    → bound * 1 < amount * 10 ^ power
passes_high amount power bound some high small =
    let more : 10 ^ 20 ≤ 10 ^ power = powers 20 power (omega arith) in
    let at_least = mul-le 1 (10 ^ 20) amount (10 ^ power) (omega arith) more in
    omega (arith, at_least)

-- an amount of 63 bits is less than one such power
pub within_high : (amount power bound : ℕ) → amount ≤ 2 ^ 63 → 19 ≤ power → 10 ^ 15 ≤ bound
    → (amount < 10 ^ power) × (amount ≤ bound * 10 ^ power)
within_high amount power bound small high large =
    let more : 10 ^ 19 ≤ 10 ^ power = powers 19 power high in
    let at_least = mul-le 1 (10 ^ 19) bound (10 ^ power) (omega arith) more in
    (omega (arith, more), omega (arith, more, at_least))

pub rounds_up : (amount den : ℕ) → 0 < amount → amount < den → IsRounded amount den 0 1
rounds_up amount den some less = record { floor_le = omega arith; floor_gt = omega arith; ceiling_ge = omega arith; ceiling_lt = omega arith }

pub rounds_none : (amount den : ℕ) → amount ≤ 0 → 0 < den → IsRounded amount den 0 0
rounds_none amount den none some = record { floor_le = omega arith; floor_gt = omega arith; ceiling_ge = omega arith; ceiling_lt = omega arith }

negated : (n : ℕ) → unsigned_abs (neg_ℤ (pos n)) ≡ n
negated zero = refl
negated (suc n) = refl

pub times_signed : (digits : ℤ) (scale : ℕ)
    → unsigned_abs (digits *ℤ pos scale) ≡ unsigned_abs digits * scale
times_signed (pos n) scale = refl
times_signed (negsuc n) scale = negated (suc n * scale)

pub record SignedEnds (num : ℤ) (den : ℕ) (low high : ℤ) : Type 0 where
  pub floor : IsFloor num (pos den) low
  pub ceiling : IsCeiling num (pos den) high

plus_ends : (num den floor ceiling : ℕ) → IsRounded num den floor ceiling
    → SignedEnds (pos num) den (pos floor) (pos ceiling)
plus_ends num den floor ceiling r = record {
  floor = record { le = omega (arith, ints, r.floor_le); gt = omega (arith, ints, r.floor_gt) };
  ceiling = record { ge = omega (arith, ints, r.ceiling_ge); lt = omega (arith, ints, r.ceiling_lt) };
}

minus_ends : (num den floor ceiling : ℕ) → IsRounded num den floor ceiling
    → SignedEnds (neg_ℤ (pos num)) den (neg_ℤ (pos ceiling)) (neg_ℤ (pos floor))
minus_ends num den floor ceiling r =
    let below = neg_mul (pos ceiling) (pos den) in
    let above = neg_mul (pos floor) (pos den) in
    record {
      floor = record { le = rw below (omega (arith, ints, r.ceiling_ge)); gt = rw below (omega (arith, ints, r.ceiling_lt)) };
      ceiling = record { ge = rw above (omega (arith, ints, r.floor_le)); lt = rw above (omega (arith, ints, r.floor_gt)) };
    }

-- the ends of a fraction with a sign
pub signed_ends : (digits low high : ℤ) (scale den floor ceiling : ℕ) (negative : Bool)
    → negative ≡ lt_z digits (pos 0)
    → IsRounded (unsigned_abs digits * scale) den floor ceiling
    → low ≡ low_of negative floor ceiling → high ≡ high_of negative floor ceiling
    → SignedEnds (digits *ℤ pos scale) den low high
signed_ends (pos n) low high scale den floor ceiling negative sign r e f =
    let plus : negative ≡ false = grind (arith, ints) in
    rw (e, f, plus) (plus_ends (n * scale) den floor ceiling r)
signed_ends (negsuc n) low high scale den floor ceiling negative sign r e f =
    let minus : negative ≡ true = grind (arith, ints) in
    rw (e, f, minus) (minus_ends (suc n * scale) den floor ceiling r)

-- an amount within a bound doesn't pass it
pub not_both : (bound den : ℕ) (digits : ℤ) (scale : ℕ) → unsigned_abs digits * scale ≤ bound * den
    → bound * den < unsigned_abs (digits *ℤ pos scale) → ⊥
not_both bound den digits scale h k = omega (arith, times_signed digits scale)
