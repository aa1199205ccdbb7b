-- Products of whole numbers: how they carry an order, a sign, a sum and an amount.
use Rattle.std.proofs.Common.{zero, suc, ◌≡◌, ℕ, ◌+◌, ◌*◌, ◌≤◌, arith, refl, ap, ◌∙◌, subst, sym}
use Rattle.std.specs.Prelude.{ℤ, pos, negsuc, ◌+ℤ◌, ◌-ℤ◌, ◌*ℤ◌, neg_ℤ, nat_abs, ◌≤ℤ◌, ◌<ℤ◌}
use Rattle.std.proofs.lemmas.Int.{ints, by_lt_z}
use Rattle.std.proofs.lemmas.Nat.{mul-le}
use Rattle.std.proofs.Math.Nat.{mul-le-mul_right}
use borrow.Author.Differences.{up, down, le_out, sum_is_lem, product_is}
use lib.IntN.{*ℤ_comm}
use Rattle.grid_model.specs.Sizes.{IsWithin}

-- ---- order

-- a product grows with its left factor, if the right is not negative
pub mul_mono : (a b c : ℤ) → a ≤ℤ b → pos 0 ≤ℤ c → (a *ℤ c) ≤ℤ (b *ℤ c)
mul_mono a b (pos n) h p = omega (arith, ints, mul-le-mul_right n (le_out a b h))
mul_mono a b (negsuc n) h p = omega (arith, ints)

-- and falls, if the right factor is not positive
pub mul_anti : (a b c : ℤ) → a ≤ℤ b → c ≤ℤ pos 0 → (b *ℤ c) ≤ℤ (a *ℤ c)
mul_anti a b (pos zero) h p = omega (arith, ints)
mul_anti a b (pos (suc n)) h p = absurd (omega (arith, ints))
mul_anti a b (negsuc n) h p = omega (arith, ints, mul-le-mul_right (n + 1) (le_out a b h))

-- ---- sums and signs

pub distrib : (a b c : ℤ) → a *ℤ (b +ℤ c) ≡ (a *ℤ b) +ℤ (a *ℤ c)
distrib a b c = omega (arith, ints, ap (λ (n : ℕ). up a * n) (sum_is_lem b c), ap (λ (n : ℕ). down a * n) (sum_is_lem b c))

pub add_mul : (a b c : ℤ) → (a +ℤ b) *ℤ c ≡ (a *ℤ c) +ℤ (b *ℤ c)
add_mul a b c = omega (arith, ints, ap (λ (n : ℕ). n * up c) (sum_is_lem a b), ap (λ (n : ℕ). n * down c) (sum_is_lem a b))

pub mul_neg : (a c : ℤ) → a *ℤ neg_ℤ c ≡ neg_ℤ (a *ℤ c)
mul_neg a (pos zero) = omega (arith, ints)
mul_neg a (pos (suc n)) = omega (arith, ints)
mul_neg a (negsuc n) = omega (arith, ints)

pub neg_mul : (a c : ℤ) → neg_ℤ a *ℤ c ≡ neg_ℤ (a *ℤ c)
neg_mul a c = *ℤ_comm (neg_ℤ a) c ∙ mul_neg c a ∙ ap neg_ℤ (*ℤ_comm c a)

pub distrib_less : (a b c : ℤ) → a *ℤ (b -ℤ c) ≡ (a *ℤ b) -ℤ (a *ℤ c)
distrib_less a b c = distrib a b (neg_ℤ c) ∙ ap (λ (z : ℤ). (a *ℤ b) +ℤ z) (mul_neg a c)

pub mul_assoc : (a b c : ℤ) → (a *ℤ b) *ℤ c ≡ a *ℤ (b *ℤ c)
mul_assoc a b c =
    let p = product_is a b in
    let q = product_is b c in
    omega (
      arith,
      ints,
      ap (λ (n : ℕ). n * up c) p.0,
      ap (λ (n : ℕ). n * down c) p.0,
      ap (λ (n : ℕ). n * up c) p.1,
      ap (λ (n : ℕ). n * down c) p.1,
      ap (λ (n : ℕ). up a * n) q.0,
      ap (λ (n : ℕ). down a * n) q.0,
      ap (λ (n : ℕ). up a * n) q.1,
      ap (λ (n : ℕ). down a * n) q.1,
    )

pub square_of_amount : (z : ℤ) → z *ℤ z ≡ pos (nat_abs z * nat_abs z)
square_of_amount (pos n) = refl
square_of_amount (negsuc n) = refl

-- ---- what products with a positive factor say of the other factors

pub mul_lt_back : (x y d : ℤ) → pos 0 <ℤ d → (x *ℤ d) <ℤ (y *ℤ d) → x <ℤ y
mul_lt_back x y d p h = by_lt_z x y (λ k. k) (λ k. absurd (let m : (y *ℤ d) ≤ℤ (x *ℤ d) = mul_mono y x d k (omega (arith, ints)) in omega (arith, ints)))

pub mul_le_back : (x y d : ℤ) → pos 0 <ℤ d → (x *ℤ d) ≤ℤ (y *ℤ d) → x ≤ℤ y
mul_le_back x y d p h = let k : x <ℤ (y +ℤ pos 1) = mul_lt_back x (y +ℤ pos 1) d p (omega (arith, ints, add_mul y (pos 1) d)) in omega (arith, ints)

-- ---- amounts

pub neg_within : (n : ℕ) (z : ℤ) → IsWithin n z → IsWithin n (neg_ℤ z)
neg_within n z w = record { low = omega (arith, ints, w.low, w.high); high = omega (arith, ints, w.low, w.high) }

pub larger : (m n : ℕ) (z : ℤ) → m ≤ n → IsWithin m z → IsWithin n z
larger m n z h w = record { low = omega (arith, ints, w.low, w.high); high = omega (arith, ints, w.low, w.high) }

-- a product is at most the product of the bounds of its factors
pub product_le : (m n : ℕ) (x y : ℤ) → IsWithin m x → IsWithin n y → (x *ℤ y) ≤ℤ pos (m * n)
product_le m n (pos x) (pos y) p q = omega (arith, ints, mul-le x y m n (omega (arith, ints)) (omega (arith, ints)))
product_le m n (pos x) (negsuc y) p q = omega (arith, ints)
product_le m n (negsuc x) (pos y) p q = omega (arith, ints)
product_le m n (negsuc x) (negsuc y) p q = omega (arith, ints, mul-le (x + 1) (y + 1) m n (omega (arith, ints)) (omega (arith, ints)))

from_neg : (z : ℤ) (n : ℕ) → neg_ℤ z ≤ℤ pos n → neg_ℤ (pos n) ≤ℤ z
from_neg z n h = omega (arith, ints)

pub product_within : (m n : ℕ) (x y : ℤ) → IsWithin m x → IsWithin n y → IsWithin (m * n) (x *ℤ y)
product_within m n x y v w = record {
  low = from_neg (x *ℤ y) (m * n) (subst (λ (z : ℤ). z ≤ℤ pos (m * n)) (mul_neg x y) (product_le m n x (neg_ℤ y) v (neg_within n y w)));
  high = product_le m n x y v w;
}

apart_of : (p q r : ℤ) (m n : ℕ) → (p -ℤ q) ≤ℤ pos m → (q -ℤ r) ≤ℤ pos n → p ≤ℤ (r +ℤ pos (m + n))
apart_of p q r m n h k = omega (arith, ints)

-- two products differ by no more than the amounts of their factors times their distances
pub products_apart : (x x' y y' : ℤ) (a b v w : ℕ) → IsWithin a x → IsWithin b y'
    → IsWithin v (x -ℤ x') → IsWithin w (y -ℤ y') → (x *ℤ y) ≤ℤ ((x' *ℤ y') +ℤ pos (a * w + b * v))
products_apart x x' y y' a b v w p q r s =
    apart_of (x *ℤ y) (x *ℤ y') (x' *ℤ y') (a * w) (b * v)
    (subst (λ (z : ℤ). z ≤ℤ pos (a * w)) (distrib_less x y y') (product_le a w x (y -ℤ y') p s))
    (subst (λ (z : ℤ). z ≤ℤ pos (b * v)) (distrib_less y' x x' ∙ ap (λ (z : ℤ). z -ℤ (y' *ℤ x')) (*ℤ_comm y' x) ∙ ap (λ (z : ℤ). (x *ℤ y') -ℤ z) (*ℤ_comm y' x')) (product_le b v y' (x -ℤ x') q r))

-- the middle factors change places
pub swap4 : (a b c d : ℤ) → (a *ℤ c) *ℤ (b *ℤ d) ≡ (a *ℤ b) *ℤ (c *ℤ d)
swap4 a b c d =
    mul_assoc a c (b *ℤ d) ∙ ap (λ (z : ℤ). a *ℤ z) (sym (mul_assoc c b d) ∙ ap (λ (z : ℤ). z *ℤ d) (*ℤ_comm c b) ∙ mul_assoc b c d) ∙ sym (mul_assoc a b (c *ℤ d))

pub less_mul : (a b c : ℤ) → (a -ℤ b) *ℤ c ≡ (a *ℤ c) -ℤ (b *ℤ c)
less_mul a b c = add_mul a (neg_ℤ b) c ∙ ap (λ (z : ℤ). (a *ℤ c) +ℤ z) (neg_mul b c)
