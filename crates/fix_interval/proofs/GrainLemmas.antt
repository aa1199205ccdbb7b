-- Ends, squares and roots that are counted in grains of 65,536 um, or in squares of a grain.
use Rattle.std.proofs.Common.{◌≡◌, ℕ, ◌+◌, ◌-◌, ◌*◌, ◌^◌, ◌<◌, ◌≤◌, arith, ◌∙◌}
use Rattle.std.specs.Prelude.{ℤ, pos, ◌+ℤ◌, ◌*ℤ◌, neg_ℤ, ◌≤ℤ◌, ◌<ℤ◌}
use Rattle.std.proofs.lemmas.Int.{ints}
use Rattle.grid_model.specs.Amounts.{square}
use Rattle.grid_model.specs.Roots.{IsRoot, root}
use Rattle.grid_model.specs.Rounding.{grain_floor, grain_ceil}
use Rattle.grid_model.specs.Squares.{least_end, greatest_end, least_square, greatest_square}
use Rattle.grid_model.proofs.RootLemmas.{square-mono, root_is}
use Rattle.grid_model.proofs.RoundingLemmas.{floor_is}
use Rattle.grid_model.proofs.SquareLemmas.{one_part}

-- ---- squares

least_scaled : (lo hi : ℤ) → least_end (lo *ℤ pos 65536) (hi *ℤ pos 65536) ≡ least_end lo hi * 65536
least_scaled lo hi = omega (arith, ints, one_part lo, one_part hi, one_part (lo *ℤ pos 65536), one_part (hi *ℤ pos 65536))

greatest_scaled : (lo hi : ℤ)
    → greatest_end (lo *ℤ pos 65536) (hi *ℤ pos 65536) ≡ greatest_end lo hi * 65536
greatest_scaled lo hi = omega (arith, ints, one_part lo, one_part hi, one_part (lo *ℤ pos 65536), one_part (hi *ℤ pos 65536))

square_scaled : (n m : ℕ) → m ≡ n * 65536 → n * n * 4294967296 ≡ square m
square_scaled n m e = rw e (omega arith)

pub least_square_scaled : (lo hi : ℤ) (n : ℕ) → n ≡ least_end lo hi
    → n * n * 4294967296 ≡ least_square (lo *ℤ pos 65536) (hi *ℤ pos 65536)
least_square_scaled lo hi n e = square_scaled n _ (least_scaled lo hi ∙ omega (arith, e))

pub greatest_square_scaled : (lo hi : ℤ) (n : ℕ) → n ≡ greatest_end lo hi
    → n * n * 4294967296 ≡ greatest_square (lo *ℤ pos 65536) (hi *ℤ pos 65536)
greatest_square_scaled lo hi n e = square_scaled n _ (greatest_scaled lo hi ∙ omega (arith, e))

-- ---- roots

pub floor_at : (x q : ℤ) → (q *ℤ pos 65536) ≤ℤ x → x <ℤ (q *ℤ pos 65536 +ℤ pos 65536)
    → (q *ℤ pos 65536) ≡ grain_floor (pos 65536) x
floor_at x q h k = let f = floor_is x (pos 65536) (record { lt = tt }) in omega (arith, ints, f.le, f.gt)

pub ceil_at : (x q : ℤ) → x ≤ℤ (q *ℤ pos 65536) → (q *ℤ pos 65536) <ℤ (x +ℤ pos 65536)
    → (q *ℤ pos 65536) ≡ grain_ceil (pos 65536) x
ceil_at x q h k = let f = floor_is (neg_ℤ x) (pos 65536) (record { lt = tt }) in omega (arith, ints, f.le, f.gt)

-- what has a square below the next square of w isn't above w
not_above : (v w : ℕ) → v * v < (w + 1) * (w + 1) → v ≤ w
not_above v w h = grind (arith, square-mono (w + 1) v, h)

scaled_le : (a v w : ℕ) → IsRoot a v → IsRoot (a * 4294967296) w → v * 65536 ≤ w
scaled_le a v w p q = not_above (v * 65536) w (omega (arith, p.square_le, q.next_square_gt))

scaled_lt : (a v w : ℕ) → IsRoot a v → IsRoot (a * 4294967296) w → w ≤ v * 65536 + 65535
scaled_lt a v w p q = not_above w (v * 65536 + 65535) (omega (arith, p.next_square_gt, q.square_le))

scaled_eq : (a v w : ℕ) → IsRoot a v → (a - v * v) * 32768 ≤ v → IsRoot (a * 4294967296) w
    → w ≤ v * 65536
scaled_eq a v w p h q = not_above w (v * 65536) (omega (arith, p.square_le, q.square_le))

scaled_gt : (a v w : ℕ) → v < (a - v * v) * 32768 → IsRoot (a * 4294967296) w → v * 65536 + 1 ≤ w
scaled_gt a v w h q = not_above (v * 65536 + 1) w (omega (arith, q.next_square_gt))

pub root_down : (a v : ℕ) → IsRoot a v
    → (pos v *ℤ pos 65536) ≡ grain_floor (pos 65536) (pos (root (a * 4294967296)))
root_down a v p =
    let q : IsRoot (a * 4294967296) (root (a * 4294967296)) = root_is (a * 4294967296) in
    floor_at (pos (root (a * 4294967296))) (pos v) (omega (arith, ints, scaled_le a v _ p q)) (omega (arith, ints, scaled_lt a v _ p q))

-- the root in um is a whole number of grains
pub root_up_same : (a v : ℕ) → IsRoot a v → (a - v * v) * 32768 ≤ v
    → (pos v *ℤ pos 65536) ≡ grain_ceil (pos 65536) (pos (root (a * 4294967296)))
root_up_same a v p h =
    let q : IsRoot (a * 4294967296) (root (a * 4294967296)) = root_is (a * 4294967296) in
    ceil_at (pos (root (a * 4294967296))) (pos v) (omega (arith, ints, scaled_eq a v _ p h q)) (omega (arith, ints, scaled_le a v _ p q))

-- and here it isn't
pub root_up_next : (a v : ℕ) → IsRoot a v → v < (a - v * v) * 32768
    → ((pos v +ℤ pos 1) *ℤ pos 65536) ≡ grain_ceil (pos 65536) (pos (root (a * 4294967296)))
root_up_next a v p h =
    let q : IsRoot (a * 4294967296) (root (a * 4294967296)) = root_is (a * 4294967296) in
    ceil_at (pos (root (a * 4294967296))) (pos v +ℤ pos 1) (omega (arith, ints, scaled_lt a v _ p q)) (omega (arith, ints, scaled_gt a v _ h q))

-- the root of a number of 64 bits has 32
pub root_fits : (a v : ℕ) → IsRoot a v → a < 2 ^ 64 → v < 2 ^ 32
root_fits a v p h = omega (arith, not_above v (2 ^ 32 - 1) (omega (arith, p.square_le)))
