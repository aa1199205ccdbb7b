-- The root is one number, it is `root`, and it grows with what it is of.
use Rattle.std.proofs.Common.{◌≡◌, ℕ, zero, suc, ◌+◌, ◌*◌, ◌<◌, ◌≤◌, arith, nat_le, add-one}
use Rattle.std.proofs.lemmas.Nat.{mul-le}
use Rattle.std.proofs.lemmas.Bool.{cond_both, leb-true, leb-false}
use Rattle.grid_model.specs.Amounts.{square}
use Rattle.grid_model.specs.Roots.{IsRoot, root_up_to, root}

pub square-mono : (v w : ℕ) → v ≤ w → v * v ≤ w * w
square-mono v w le = mul-le v v w w le le

pub root_not_above : (a v w : ℕ) → IsRoot a v → IsRoot a w → v ≤ w
root_not_above a v w p q = grind (arith, square-mono (w + 1) v, p.square_le, q.next_square_gt)

pub root_one : (a v w : ℕ) → IsRoot a v → IsRoot a w → v ≡ w
root_one a v w p q = omega (arith, root_not_above a v w p q, root_not_above a w v q p)

pub root_up_to_is : (a n : ℕ) → a < (n + 1) * (n + 1) → IsRoot a (root_up_to a n)
unfolding root_up_to
root_up_to_is a zero h = record { square_le = omega arith; next_square_gt = h }
root_up_to_is a (suc n) h =
    cond_both (nat_le (suc n * suc n) a) (suc n) (root_up_to a n) (IsRoot a)
    (λ e. record { square_le = leb-true _ _ e; next_square_gt = h })
    (λ e. root_up_to_is a n (omega (arith, leb-false _ _ e, add-one n)))

pub root_is : (a : ℕ) → IsRoot a (root a)
unfolding root
root_is a = root_up_to_is a a (omega arith)

pub root_from : (a v : ℕ) → IsRoot a v → v ≡ root a
root_from a v p = root_one a v (root a) p (root_is a)

pub root_mono : (a b v w : ℕ) → IsRoot a v → IsRoot b w → a ≤ b → v ≤ w
root_mono a b v w p q le = grind (arith, square-mono (w + 1) v, p.square_le, q.next_square_gt)

-- three squares, added
pub sum_mono : (x y z x' y' z' : ℕ) → x ≤ x' → y ≤ y' → z ≤ z'
    → square x + square y + square z ≤ square x' + square y' + square z'
sum_mono x y z x' y' z' h k l = omega (arith, square-mono x x' h, square-mono y y' k, square-mono z z' l)

pub less_of_squares : (a b : ℕ) → a * a < b * b → a < b
less_of_squares a b h = grind (arith, square-mono b a)

pub root_le : (a n : ℕ) → a ≤ n * n → root a ≤ n
root_le a n h =
    let r : IsRoot a (root a) = root_is a in
    grind (arith, square-mono (n + 1) (root a), r.square_le)

pub root_least : (a n : ℕ) → n * n ≤ a → n ≤ root a
root_least a n h =
    let r : IsRoot a (root a) = root_is a in
    grind (arith, square-mono (root a + 1) n, r.next_square_gt)
