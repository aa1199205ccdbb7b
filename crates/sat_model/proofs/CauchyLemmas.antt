-- The inequality of Cauchy and Schwarz and twice a product, over natural numbers.
use Rattle.std.proofs.Common.{ℕ, ◌+◌, ◌*◌, ◌<◌, ◌≤◌, arith, inl, inr}
use Rattle.std.specs.Prelude.{ℤ, pos, ◌+ℤ◌, ◌*ℤ◌, unsigned_abs, ◌≤ℤ◌, ◌<ℤ◌}
use Rattle.std.proofs.lemmas.Int.{ints}
use Rattle.std.proofs.lemmas.Nat.{mul-le}
use Rattle.grid_model.specs.Amounts.{square}
use Rattle.grid_model.specs.Roots.{IsRoot}
use Rattle.grid_model.proofs.RootLemmas.{square-mono}
use Rattle.grid_model.proofs.ProductLemmas.{product_le}
use Rattle.sat_model.proofs.PairAxisLemmas.{amount_within}
use Rattle.grid_model.proofs.SpreadRoots.{two_products as twice_product}
use Rattle.std.proofs.lemmas.Bool.{cases_lt}

-- (a b + c d + e f)^2 against the product of the sums of squares
pub cauchy : (a c e b d f : ℕ)
    → square (a * b + c * d + e * f) ≤ (square a + square c + square e) * (square b + square d + square f)
cauchy a c e b d f = omega (arith, twice_product (a * d) (c * b), twice_product (a * f) (e * b), twice_product (c * f) (e * d))

less_product : (m n p q : ℕ) → m < p → n < q → m * n < p * q
less_product m n p q h k = omega (arith, mul-le m n m q (omega arith) (omega arith), mul-le (m + 1) q p q (omega arith) (omega arith))

-- what is less than a product of greater roots
below_roots : (t m n a r : ℕ) → square t ≤ m * n → m < a * a → n < (r + 1) * (r + 1)
    → t < a * (r + 1)
below_roots t m n a r h p q = elim (cases_lt t (a * (r + 1))) [
  | inl k ↦ k
  | inr k ↦ absurd (omega (arith, square-mono (a * (r + 1)) t k, less_product m n (a * a) ((r + 1) * (r + 1)) p q))
]

three_products : (x y z : ℤ) (a b c : ℕ) → x ≤ℤ pos a → y ≤ℤ pos b → z ≤ℤ pos c
    → (x +ℤ y +ℤ z) ≤ℤ pos (a + b + c)
three_products x y z a b c h k l = omega (arith, ints)

-- v.d is less than A (R + 1), where v.v < A^2 and R is the root of d.d
pub product_below : (vx vy vz dx dy dz : ℤ) (a r : ℕ)
    → square (unsigned_abs vx) + square (unsigned_abs vy) + square (unsigned_abs vz) < a * a
    → IsRoot (square (unsigned_abs dx) + square (unsigned_abs dy) + square (unsigned_abs dz)) r
    → ((vx *ℤ dx) +ℤ (vy *ℤ dy) +ℤ (vz *ℤ dz)) <ℤ pos (a * (r + 1))
product_below vx vy vz dx dy dz a r h k =
    let t = unsigned_abs vx * unsigned_abs dx + unsigned_abs vy * unsigned_abs dy + unsigned_abs vz * unsigned_abs dz in
    let s : ((vx *ℤ dx) +ℤ (vy *ℤ dy) +ℤ (vz *ℤ dz)) ≤ℤ pos t = three_products _ _ _ _ _ _
    (product_le _ _ vx dx (amount_within vx) (amount_within dx))
    (product_le _ _ vy dy (amount_within vy) (amount_within dy))
    (product_le _ _ vz dz (amount_within vz) (amount_within dz)) in
    let below : t < a * (r + 1) = below_roots t _ _ a r
    (cauchy (unsigned_abs vx) (unsigned_abs vy) (unsigned_abs vz) (unsigned_abs dx) (unsigned_abs dy) (unsigned_abs dz)) h k.next_square_gt in
    chained ((vx *ℤ dx) +ℤ (vy *ℤ dy) +ℤ (vz *ℤ dz)) t (a * (r + 1)) s below
  where
    chained : (x : ℤ) (t n : ℕ) → x ≤ℤ pos t → t < n → x <ℤ pos n
    chained x t n h k = omega (arith, ints)

-- twice A R is at most A^2 + d.d
pub root_product : (a n r : ℕ) → IsRoot n r → 2 * (a * r) ≤ a * a + n
root_product a n r k = omega (arith, twice_product a r, k.square_le)
