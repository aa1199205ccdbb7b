-- Lengths of vectors: the roots of least and greatest sums of squares.
use Rattle.std.proofs.Common.{◌≡◌, ℕ, ◌+◌, ◌-◌, ◌*◌, ◌≤◌, arith}
use Rattle.std.specs.Prelude.{ℤ, pos}
use Rattle.std.proofs.lemmas.Int.{ints}
use Rattle.grid_model.specs.Intervals.{Ends}
use Rattle.grid_model.specs.Roots.{IsRoot, root}
use Rattle.grid_model.specs.Squares.{least_end, greatest_end}
use Rattle.grid_model.proofs.RootLemmas.{root_mono, square-mono, root_is}
use Rattle.grid_model.proofs.SquareLemmas.{one_part, least_le_greatest_end, squares_fit, ends_apart}
use Rattle.fix_interval.specs.declared.place.Place.{Place}
use Rattle.fix_interval.specs.Places.{PlaceEnds}
use Rattle.elevation_mapping.specs.Places.{least_sum, greatest_sum}
use Rattle.elevation_mapping.specs.SineSizes.{offset_amount, length_amount}
use Rattle.grid_model.proofs.SpreadRoots.{sum_small, four_roots}

pub root_at_least : (n a : ℕ) → n * n ≤ a → n ≤ root a
root_at_least n a h = grind (arith, square-mono (root a + 1) n, (root_is a).next_square_gt, h)

-- ---- of vectors that a place holds

pub lengths_apart : (n w : ℕ) (a : Place) → PlaceEnds n w a
    → 4 * root (greatest_sum a) ≤ 4 * root (least_sum a) + 7 * w + 4
lengths_apart n w a e = omega (arith, four_roots (least_end a.x.lo a.x.hi) (least_end a.y.lo a.y.hi) (least_end a.z.lo a.z.hi) (greatest_end a.x.lo a.x.hi) (greatest_end a.y.lo a.y.hi) (greatest_end a.z.lo a.z.hi) w (root (least_sum a)) (root (greatest_sum a)) (ends_apart n w a.x.lo a.x.hi e.x_ends) (ends_apart n w a.y.lo a.y.hi e.y_ends) (ends_apart n w a.z.lo a.z.hi e.z_ends) (root_is (least_sum a)).next_square_gt (root_is (greatest_sum a)).square_le)

pub amounts_small : (a : Place)
    → 4 * (greatest_end a.x.lo a.x.hi + greatest_end a.y.lo a.y.hi + greatest_end a.z.lo a.z.hi) ≤ 7 * (root (greatest_sum a) + 1)
amounts_small a = sum_small (greatest_end a.x.lo a.x.hi) (greatest_end a.y.lo a.y.hi) (greatest_end a.z.lo a.z.hi) (root (greatest_sum a) + 1) (root_is (greatest_sum a)).next_square_gt

pub lengths_order : (n w : ℕ) (a : Place) → PlaceEnds n w a
    → root (least_sum a) ≤ root (greatest_sum a)
lengths_order n w a e =
    let x = square-mono _ _ (least_le_greatest_end a.x.lo a.x.hi e.x_ends.order) in
    let y = square-mono _ _ (least_le_greatest_end a.y.lo a.y.hi e.y_ends.order) in
    let z = square-mono _ _ (least_le_greatest_end a.z.lo a.z.hi e.z_ends.order) in
    root_mono (least_sum a) (greatest_sum a) _ _ (root_is (least_sum a)) (root_is (greatest_sum a)) (omega (arith, x, y, z))

root_fits : (n v : ℕ) → IsRoot n v → n ≤ 3 * (offset_amount * offset_amount) → v ≤ length_amount
root_fits n v r h = grind (arith, square-mono (length_amount + 1) v, r.square_le, h)

pub lengths_fit : (w : ℕ) (a : Place) → PlaceEnds offset_amount w a
    → root (greatest_sum a) ≤ length_amount
lengths_fit w a e = root_fits (greatest_sum a) (root (greatest_sum a)) (root_is (greatest_sum a)) (squares_fit offset_amount _ _ _ _ _ _ e.x_ends.low e.x_ends.high e.y_ends.low e.y_ends.high e.z_ends.low e.z_ends.high)

ends_by : (u v : ℕ) (l h : ℤ) → l ≡ pos u → h ≡ pos v → u ≤ v → v ≤ length_amount
    → Ends length_amount (v - u) l h
ends_by u v l h e f o k = record { order = omega (arith, ints); low = record { low = omega (arith, ints); high = omega (arith, ints) }; high = record { low = omega (arith, ints); high = omega (arith, ints) }; width = omega (arith, ints) }

pub length_ends : (w : ℕ) (a : Place) (l h : ℤ) → PlaceEnds offset_amount w a
    → l ≡ pos (root (least_sum a)) → h ≡ pos (root (greatest_sum a))
    → Ends length_amount (root (greatest_sum a) - root (least_sum a)) l h
length_ends w a l h e i j = ends_by (root (least_sum a)) (root (greatest_sum a)) l h i j (lengths_order offset_amount w a e) (lengths_fit w a e)

-- ends that are at most their greatest amount
pub own_ends : (n w : ℕ) (l h : ℤ) → Ends n w l h → Ends (greatest_end l h) w l h
own_ends n w l h e = let o = e.order in record { order = o; low = record { low = omega (arith, ints, one_part l, one_part h); high = omega (arith, ints, one_part l, one_part h) }; high = record { low = omega (arith, ints, one_part l, one_part h); high = omega (arith, ints, one_part l, one_part h) }; width = e.width }
