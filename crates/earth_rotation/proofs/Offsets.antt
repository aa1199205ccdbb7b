-- The offsets of a place from a box on the axes, and the roots of their squares.
use Rattle.std.proofs.Common.{◌≡◌, ℕ, ◌+◌, ◌*◌, ◌/◌, ◌^◌, ◌≤◌, arith, lit≤}
use Rattle.std.specs.Prelude.{ℤ, pos, ◌-ℤ◌, ◌≤ℤ◌}
use Rattle.std.proofs.lemmas.Int.{ints}
use Rattle.grid_model.specs.Amounts.{above}
use Rattle.grid_model.specs.Sizes.{IsBoxSize}
use Rattle.grid_model.specs.Intervals.{Between, Ends}
use Rattle.grid_model.specs.Roots.{IsRoot, root}
use Rattle.grid_model.specs.Rounding.{grain_floor, grain_ceil}
use Rattle.grid_model.specs.Squares.{least_end, greatest_end, least_square, greatest_square}
use Rattle.grid_model.proofs.AmountLemmas.{above_is}
use Rattle.grid_model.proofs.RootLemmas.{root_mono, square-mono, root_is}
use Rattle.grid_model.proofs.EndsLemmas.{difference_ends, wider_ends}
use Rattle.grid_model.proofs.RoundingLemmas.{grain_floor_one, grain_ceil_one}
use Rattle.grid_model.proofs.SquareLemmas.{least_le_greatest_end, squares_fit, ends_apart}
use Rattle.earth_rotation.specs.RoundSizes.{turned_reach, range_amount}
use Rattle.grid_model.proofs.SpreadRoots.{root_spread}

-- an offset on an axis
abbrev pub offset_amount : ℕ
offset_amount = 71 * 10 ^ 12

side_ends : (lo hi : ℤ) → lo ≤ℤ hi → IsBoxSize lo → IsBoxSize hi
    → Ends (10 ^ 13) (above hi lo) lo hi
side_ends lo hi o l h = record { order = o; low = l; high = h; width = omega (arith, ints, above_is hi lo) }

-- of a place from a to b and the points of a side from lo to hi, which an interval from s to t holds
pub offset_ends : (w : ℕ) (a b s t lo hi l h : ℤ) → Ends turned_reach w a b → s ≡ lo → t ≡ hi
    → lo ≤ℤ hi → IsBoxSize lo → IsBoxSize hi → l ≡ a -ℤ t → h ≡ b -ℤ s
    → Ends offset_amount (w + above hi lo) l h
offset_ends w a b s t lo hi l h e i j o p q f g = rw (f, g, i, j) (difference_ends turned_reach w (10 ^ 13) (above hi lo) a b lo hi e (side_ends lo hi o p q))

-- both ends are small enough to be squared
pub offset_fits : (w : ℕ) (l h : ℤ) → Ends offset_amount w l h → Ends (2 ^ 47) w l h
offset_fits w l h e = wider_ends offset_amount (2 ^ 47) w w l h (lit≤ tt) (omega arith) e

pub offset_held : (a b s t lo hi l h x p : ℤ) → s ≡ lo → t ≡ hi → l ≡ a -ℤ t → h ≡ b -ℤ s
    → Between a b x → lo ≤ℤ p → p ≤ℤ hi → Between l h (x -ℤ p)
offset_held a b s t lo hi l h x p d e f g i j k = record { from = omega (arith, ints, i.from); to = omega (arith, ints, i.to) }

-- ---- squares

root_fits : (n v : ℕ) → IsRoot n v → n ≤ 3 * (offset_amount * offset_amount) → v ≤ range_amount
root_fits n v r h = grind (arith, square-mono (range_amount + 1) v, r.square_le, h)

range_by : (w u v : ℕ) (l h : ℤ) → l ≡ pos u → h ≡ pos v → u ≤ v → v ≤ range_amount → v ≤ u + w
    → Ends range_amount w l h
range_by w u v l h e f o k i = record { order = omega (arith, ints); low = record { low = omega (arith, ints); high = omega (arith, ints) }; high = record { low = omega (arith, ints); high = omega (arith, ints) }; width = omega (arith, ints) }

-- the roots of the least and the greatest sum of squares
pub range_ends : (w : ℕ) (xl xh yl yh zl zh l h : ℤ) (a b : ℕ) → Ends offset_amount w xl xh
    → Ends offset_amount w yl yh → Ends offset_amount w zl zh
    → a ≡ least_square xl xh + least_square yl yh + least_square zl zh
    → b ≡ greatest_square xl xh + greatest_square yl yh + greatest_square zl zh
    → l ≡ grain_floor (pos 1) (pos (root a)) → h ≡ grain_ceil (pos 1) (pos (root b))
    → Ends range_amount (7 * w / 4 + 1) l h
range_ends w xl xh yl yh zl zh l h a b x y z ea eb el eh =
    let ra = root_is a in
    let rb = root_is b in
    let near = square-mono _ _ (least_le_greatest_end xl xh x.order) in
    let near2 = square-mono _ _ (least_le_greatest_end yl yh y.order) in
    let near3 = square-mono _ _ (least_le_greatest_end zl zh z.order) in
    let fit = squares_fit offset_amount xl xh yl yh zl zh x.low x.high y.low y.high z.low z.high in
    let order = root_mono a b (root a) (root b) ra rb (omega arith) in
    let s = root_spread (least_end xl xh) (least_end yl yh) (least_end zl zh) (greatest_end xl xh) (greatest_end yl yh) (greatest_end zl zh) w (root a) (root b) (ends_apart _ w xl xh x) (ends_apart _ w yl yh y) (ends_apart _ w zl zh z) (omega (arith, ra.next_square_gt)) (omega (arith, rb.square_le)) in
    range_by (7 * w / 4 + 1) (root a) (root b) l h (omega (arith, ints, grain_floor_one (pos (root a)))) (omega (arith, ints, grain_ceil_one (pos (root b)))) order (root_fits b (root b) rb (omega arith)) s
