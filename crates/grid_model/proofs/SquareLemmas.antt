-- The squares of members lie between the least and the greatest square.
use Rattle.std.proofs.Common.{◌≡◌, ℕ, ◌≤◌, arith, ◌⊎◌, inl, inr, refl, ◌+◌, ◌*◌}
use Rattle.std.specs.Prelude.{ℤ, pos, negsuc, nat_abs, ◌≤ℤ◌}
use Rattle.std.proofs.lemmas.Int.{ints}
use borrow.Author.Differences.{up, down}
use Rattle.grid_model.specs.Sizes.{IsWithin}
use Rattle.grid_model.specs.Amounts.{square}
use Rattle.grid_model.specs.Intervals.{Between, Ends}
use Rattle.grid_model.specs.Roots.{IsRoot, root}
use Rattle.grid_model.specs.Rounding.{grain_floor, grain_ceil}
use Rattle.grid_model.specs.Squares.{least_end, greatest_end, least_square, greatest_square}
use Rattle.grid_model.proofs.RootLemmas.{square-mono, root_is, root_mono}
use Rattle.grid_model.proofs.RoundingLemmas.{grain_between}

-- only one part of a number is not 0
pub one_part : (a : ℤ) → (up a ≡ 0) ⊎ (down a ≡ 0)
one_part (pos n) = inr refl
one_part (negsuc n) = inl refl

-- the amount of a member lies between the least and the greatest
amount_between : (lo hi a : ℤ) → Between lo hi a
    → (least_end lo hi ≤ nat_abs a) × (nat_abs a ≤ greatest_end lo hi)
amount_between lo hi a p = (omega (arith, ints, one_part a, one_part lo, one_part hi), omega (arith, ints, one_part a, one_part lo, one_part hi))

pub square_between : (lo hi a : ℤ) → Between lo hi a
    → (least_square lo hi ≤ square (nat_abs a)) × (square (nat_abs a) ≤ greatest_square lo hi)
square_between lo hi a p = let h = amount_between lo hi a p in (square-mono _ _ h.0, square-mono _ _ h.1)

pub least_le_greatest_end : (a b : ℤ) → a ≤ℤ b → least_end a b ≤ greatest_end a b
least_le_greatest_end a b h = omega (arith, ints, one_part a, one_part b)

pub greatest_square_le : (n : ℕ) (lo hi : ℤ) → IsWithin n lo → IsWithin n hi
    → greatest_square lo hi ≤ square n
greatest_square_le n lo hi p q = square-mono _ _ (omega (arith, ints, one_part lo, one_part hi))

pub squares_fit : (n : ℕ) (xl xh yl yh zl zh : ℤ) → IsWithin n xl → IsWithin n xh → IsWithin n yl
    → IsWithin n yh → IsWithin n zl → IsWithin n zh
    → greatest_square xl xh + greatest_square yl yh + greatest_square zl zh ≤ 3 * (n * n)
squares_fit n xl xh yl yh zl zh a b c d e f =
    omega (arith, greatest_square_le n xl xh a b, greatest_square_le n yl yh c d, greatest_square_le n zl zh e f)

-- the root of a number lies between the rounded roots of the ends around it
pub root_between : (g : ℤ) (lo hi n v : ℕ) → pos 1 ≤ℤ g → lo ≤ n → n ≤ hi → IsRoot n v
    → Between (grain_floor g (pos (root lo))) (grain_ceil g (pos (root hi))) (pos v)
root_between g lo hi n v h p q r =
    let s : root lo ≤ v = root_mono lo n (root lo) v (root_is lo) r p in
    let t : v ≤ root hi = root_mono n hi v (root hi) r (root_is hi) q in
    let x = grain_between g (pos (root lo)) h in
    let y = grain_between g (pos (root hi)) h in
    record { from = omega (arith, ints, x.0); to = omega (arith, ints, y.1) }

pub ends_apart : (n w : ℕ) (l h : ℤ) → Ends n w l h → greatest_end l h ≤ least_end l h + w
ends_apart n w l h e = let o = e.order in let k = e.width in omega (arith, ints, one_part l, one_part h)
