-- The formulas give the least and the greatest amount.
use Rattle.std.proofs.Common.{◌≡◌, ◌+◌, ◌≤◌, max, arith}
use Rattle.std.specs.Prelude.{ℤ, pos, negsuc, ◌≤ℤ◌, ◌-ℤ◌, unsigned_abs}
use Rattle.std.specs.Int.Signed.{≤ℤ_refl}
use Rattle.std.proofs.lemmas.Int.{ints}
use borrow.Author.Differences.{up, down}
use Rattle.grid_model.specs.Amounts.{least_amount, greatest_amount, above}

up_or_down : (z : ℤ) → up z + down z ≡ max (up z) (down z)
up_or_down (pos n) = omega arith
up_or_down (negsuc n) = omega arith

abs_is : (z : ℤ) → unsigned_abs z ≡ max (up z) (down z)
abs_is (pos n) = omega arith
abs_is (negsuc n) = omega arith

pub above_is : (a b : ℤ) → above a b + (up b + down a) ≡ max (up a + down b) (up b + down a)
unfolding above
above_is a b = omega (arith, ints, up_or_down (a -ℤ b))

pub apart_is : (p q : ℤ) → unsigned_abs (p -ℤ q) ≡ max (above p q) (above q p)
apart_is p q = omega (arith, ints, abs_is (p -ℤ q), up_or_down (p -ℤ q), above_is p q, above_is q p)

pub least_amount_le : (a b c d p q : ℤ) → a ≤ℤ p → p ≤ℤ b → c ≤ℤ q → q ≤ℤ d
    → least_amount a b c d ≤ unsigned_abs (p -ℤ q)
least_amount_le a b c d p q h1 h2 h3 h4 =
    omega (arith, ints, apart_is p q, above_is p q, above_is q p, above_is a d, above_is c b)

pub greatest_amount_ge : (a b c d p q : ℤ) → a ≤ℤ p → p ≤ℤ b → c ≤ℤ q → q ≤ℤ d
    → unsigned_abs (p -ℤ q) ≤ greatest_amount a b c d
greatest_amount_ge a b c d p q h1 h2 h3 h4 =
    omega (arith, ints, apart_is p q, above_is p q, above_is q p, above_is b c, above_is d a)

pub least_le_greatest : (a b c d : ℤ) → a ≤ℤ b → c ≤ℤ d
    → least_amount a b c d ≤ greatest_amount a b c d
least_le_greatest a b c d h k =
    omega (
      arith,
      least_amount_le a b c d a c (≤ℤ_refl a) h (≤ℤ_refl c) k,
      greatest_amount_ge a b c d a c (≤ℤ_refl a) h (≤ℤ_refl c) k,
    )
