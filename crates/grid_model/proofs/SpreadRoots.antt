-- How far the roots of sums of squares are apart.
use Rattle.std.proofs.Common.{◌≡◌, ℕ, ◌+◌, ◌-◌, ◌*◌, ◌/◌, ◌≤◌, ◌<◌, arith}
use Rattle.std.proofs.lemmas.Nat.{mul-le}
use Rattle.grid_model.proofs.RootLemmas.{square-mono}

pub product_by : (a k : ℕ) → 2 * (a * (a + k)) ≤ a * a + (a + k) * (a + k)
product_by a k = omega arith

pub product_at : (a b : ℕ) → a ≤ b → 2 * (a * b) ≤ a * a + b * b
product_at a b h =
    let e : b ≡ a + (b - a) = omega arith in
    rw e (product_by a (b - a))

pub two_products : (a b : ℕ) → 2 * (a * b) ≤ a * a + b * b
two_products a b = grind (arith, product_at a b, product_at b a)

-- 7 / 4 is a little more than the root of three: the sum of three numbers is at most so often the root of
-- their squares, rounded up
pub sum_small : (a b c m : ℕ) → a * a + b * b + c * c < m * m → 4 * (a + b + c) ≤ 7 * m
sum_small a b c m h = grind (arith, square-mono (7 * m + 1) (4 * (a + b + c)), two_products a b, two_products a c, two_products b c, h)

pub squares_spread : (a b c d m : ℕ) → a * a + b * b + c * c < m * m
    → (4 * (a + d)) * (4 * (a + d)) + (4 * (b + d)) * (4 * (b + d)) + (4 * (c + d)) * (4 * (c + d)) < (4 * m + 7 * d + 1) * (4 * m + 7 * d + 1)
squares_spread a b c d m h =
    let k = mul-le d (4 * (a + b + c)) d (7 * m) (omega arith) (sum_small a b c m h) in
    omega (arith, k, h)

pub four_roots : (a b c p q r d n f : ℕ) → p ≤ a + d → q ≤ b + d → r ≤ c + d
    → a * a + b * b + c * c < (n + 1) * (n + 1) → f * f ≤ p * p + q * q + r * r
    → 4 * f ≤ 4 * (n + 1) + 7 * d
four_roots a b c p q r d n f hp hq hr h k =
    let s = squares_spread a b c d (n + 1) h in
    grind (arith, square-mono (4 * (n + 1) + 7 * d + 1) (4 * f), square-mono p (a + d) hp, square-mono q (b + d) hq, square-mono r (c + d) hr, s, k)

-- each of p, q, r is at most d more than a, b, c: the roots are at most 7 / 4 of that and one apart
pub root_spread : (a b c p q r d n f : ℕ) → p ≤ a + d → q ≤ b + d → r ≤ c + d
    → a * a + b * b + c * c < (n + 1) * (n + 1) → f * f ≤ p * p + q * q + r * r
    → f ≤ n + (7 * d / 4 + 1)
root_spread a b c p q r d n f hp hq hr h k = omega (arith, four_roots a b c p q r d n f hp hq hr h k)
