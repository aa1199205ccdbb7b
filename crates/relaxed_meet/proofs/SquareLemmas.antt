-- Squared distances, and roots against numbers by their squares.
use Rattle.std.proofs.Common.{◌≡◌, ℕ, ◌+◌, ◌*◌, ◌<◌, ◌≤◌, arith}
use Rattle.std.specs.Prelude.{ℤ}
use Rattle.grid_model.specs.Amounts.{square}
use Rattle.grid_model.specs.Roots.{IsRoot, root}
use Rattle.grid_model.proofs.RootLemmas.{root_is, square-mono}

pub at_ends : (f : ℤ → ℤ → ℤ → ℤ → ℕ) (r : ℕ) (a b c d a' b' c' d' : ℤ) → r ≡ f a b c d → a ≡ a'
    → b ≡ b' → c ≡ c' → d ≡ d' → r ≡ f a' b' c' d'
at_ends f r a b c d a' b' c' d' e ea eb ec ed = cc

pub sum_same : (s x y z x' y' z' : ℕ) → s ≡ square x + square y + square z → x ≡ x' → y ≡ y'
    → z ≡ z' → s ≡ square x' + square y' + square z'
sum_same s x y z x' y' z' e ex ey ez = cc

-- a root is less than n exactly where its square is
pub root_below : (a n : ℕ) → a < n * n → root a < n
root_below a n h =
    let r : IsRoot a (root a) = root_is a in
    grind (arith, square-mono n (root a), r.square_le)

pub square_above : (a n : ℕ) → root a < n → a < n * n
square_above a n h =
    let r : IsRoot a (root a) = root_is a in
    omega (arith, square-mono (root a + 1) n (omega arith), r.next_square_gt)

pub square_up_to : (a n : ℕ) → n ≤ root a → n * n ≤ a
square_up_to a n h =
    let r : IsRoot a (root a) = root_is a in
    omega (arith, square-mono n (root a) h, r.square_le)

-- a root of a sum of three squares of distances
pub root_small : (a v : ℕ) → IsRoot a v → a ≤ 19200000000000000000000000000 → v ≤ 200000000000000
root_small a v r h = grind (arith, square-mono 200000000000001 v, r.square_le)
