-- The cosine beside a small sine: the roots of one, 16 units less and more, less the square of the sine.
use Rattle.std.proofs.Common.{◌≡◌, ℕ, ◌+◌, ◌-◌, ◌*◌, ◌/◌, ◌^◌, ◌≤◌, ◌<◌, arith, subst, sym}
use Rattle.std.specs.Prelude.{ℤ, pos, nat_abs, ◌≤ℤ◌}
use Rattle.std.proofs.lemmas.Int.{ints}
use Rattle.std.proofs.lemmas.Nat.{mul-le}
use Rattle.grid_model.specs.Amounts.{square}
use Rattle.grid_model.specs.Angles.{unit}
use Rattle.grid_model.specs.Intervals.{Between, Ends}
use Rattle.grid_model.specs.Roots.{IsRoot, root}
use Rattle.grid_model.specs.Rounding.{grain_floor, grain_ceil}
use Rattle.grid_model.specs.Sines.{NearCircle}
use Rattle.grid_model.specs.Squares.{least_end, greatest_end, least_square, greatest_square}
use Rattle.grid_model.proofs.RootLemmas.{root_mono, square-mono, root_is}
use Rattle.grid_model.proofs.ProductLemmas.{square_of_amount}
use Rattle.grid_model.proofs.RoundingLemmas.{grain_floor_one, grain_ceil_one}
use Rattle.grid_model.proofs.SquareLemmas.{one_part, square_between, least_le_greatest_end, root_between, ends_apart}
use Rattle.earth_rotation.specs.RoundSizes.{sine_amount, cosine_amount, cosine_width}

abbrev pub least_circle : ℕ
least_circle = unit * unit - 16 * unit

abbrev pub greatest_circle : ℕ
greatest_circle = unit * unit + 16 * unit

-- ---- it is held

square_left : (s c : ℤ) (l h : ℕ) → NearCircle s c → l ≤ square (nat_abs s) → square (nat_abs s) ≤ h
    → (least_circle - h ≤ nat_abs c * nat_abs c) × (nat_abs c * nat_abs c ≤ greatest_circle - l)
square_left s c l h n p q = (omega (arith, ints, n.below, n.above, square_of_amount s, square_of_amount c), omega (arith, ints, n.below, n.above, square_of_amount s, square_of_amount c))

own_root : (v : ℕ) → IsRoot (v * v) v
own_root v = record { square_le = omega arith; next_square_gt = omega arith }

natural : (c : ℤ) → pos 0 ≤ℤ c → pos (nat_abs c) ≡ c
natural c h = omega (arith, ints)

pub circle_held : (lo hi s c a b : ℤ) (l h : ℕ) → l ≡ least_square lo hi → h ≡ greatest_square lo hi
    → a ≡ grain_floor (pos 1) (pos (root (least_circle - h)))
    → b ≡ grain_ceil (pos 1) (pos (root (greatest_circle - l))) → Between lo hi s → pos 0 ≤ℤ c
    → NearCircle s c → Between a b c
circle_held lo hi s c a b l h el eh ea eb i n k =
    let q = square_between lo hi s i in
    let r = square_left s c l h k (omega (arith, q.0)) (omega (arith, q.1)) in
    let z = root_between (pos 1) (least_circle - h) (greatest_circle - l) (nat_abs c * nat_abs c) (nat_abs c) (record { le = tt }) r.0 r.1 (own_root (nat_abs c)) in
    rw (ea, eb) (subst (λ (d : ℤ). Between (grain_floor (pos 1) (pos (root (least_circle - h)))) (grain_ceil (pos 1) (pos (root (greatest_circle - l)))) d) (natural c n) z)

-- ---- it is narrow

square_after : (x d w : ℕ) → d ≤ w → x + d ≤ sine_amount
    → (x + d) * (x + d) ≤ x * x + 2 * sine_amount * w
square_after x d w h k = let m = mul-le d (x + (x + d)) w (2 * sine_amount) h (omega arith) in omega (arith, m)

squares_apart : (x y w : ℕ) → x ≤ y → y ≤ x + w → y ≤ sine_amount
    → y * y ≤ x * x + 2 * sine_amount * w
squares_apart x y w h k m =
    let e : y ≡ x + (y - x) = omega arith in
    subst (λ (z : ℕ). z * z ≤ x * x + 2 * sine_amount * w) (sym e) (square_after x (y - x) w (omega arith) (omega arith))

-- the root is at least one half
root_great : (h v : ℕ) → h ≤ sine_amount * sine_amount → least_circle - h < (v + 1) * (v + 1)
    → 5 * 10 ^ 15 ≤ v + 1
root_great h v k r = grind (arith, square-mono (v + 1) (5 * 10 ^ 15), k, r)

step_by : (v q xx yy w : ℕ) → 5 * 10 ^ 15 ≤ v + 1 → w < 5000 * (q + 1) → xx ≤ 10 ^ 24 → yy ≤ 10 ^ 24
    → yy ≤ xx + 2 * sine_amount * w → least_circle - yy < (v + 1) * (v + 1)
    → greatest_circle - xx < (v + 1 + (q + 33)) * (v + 1 + (q + 33))
step_by v q xx yy w g f i j k r = let m = mul-le (5 * 10 ^ 15) (q + 33) (v + 1) (q + 33) g (omega arith) in omega (arith, m, r)

pub circle_spread : (w x y v u : ℕ) → x ≤ y → y ≤ x + w → y ≤ sine_amount
    → least_circle - y * y < (v + 1) * (v + 1) → u * u ≤ greatest_circle - x * x
    → u ≤ v + cosine_width w
circle_spread w x y v u h k m r s =
    let a = square-mono y sine_amount m in
    let b = square-mono x y h in
    let g = root_great (y * y) v a r in
    let t = step_by v (w / 5000) (x * x) (y * y) w g (omega arith) (omega arith) (omega arith) (squares_apart x y w h k m) r in
    grind (arith, square-mono (v + 1 + (w / 5000 + 33)) u, s, t)

value_fits : (n v : ℕ) → IsRoot n v → n ≤ greatest_circle → v ≤ cosine_amount
value_fits n v r h = grind (arith, square-mono (cosine_amount + 1) v, r.square_le, h)

cosine_by : (w u v : ℕ) (l h : ℤ) → l ≡ pos u → h ≡ pos v → u ≤ v → v ≤ cosine_amount → v ≤ u + w
    → Ends cosine_amount w l h
cosine_by w u v l h e f o k i = record { order = omega (arith, ints); low = record { low = omega (arith, ints); high = omega (arith, ints) }; high = record { low = omega (arith, ints); high = omega (arith, ints) }; width = omega (arith, ints) }

amount_fits : (n w : ℕ) (lo hi : ℤ) → Ends n w lo hi → greatest_end lo hi ≤ n
amount_fits n w lo hi e = let l = e.low in let h = e.high in omega (arith, ints, one_part lo, one_part hi)

pub circle_ends : (w : ℕ) (lo hi a b : ℤ) (l h : ℕ) → Ends sine_amount w lo hi
    → l ≡ least_square lo hi → h ≡ greatest_square lo hi
    → a ≡ grain_floor (pos 1) (pos (root (least_circle - h)))
    → b ≡ grain_ceil (pos 1) (pos (root (greatest_circle - l)))
    → Ends cosine_amount (cosine_width w) a b
circle_ends w lo hi a b l h e el eh ea eb =
    let ra = root_is (least_circle - h) in
    let rb = root_is (greatest_circle - l) in
    let m = square-mono _ _ (least_le_greatest_end lo hi e.order) in
    let o = root_mono _ _ _ _ ra rb (omega arith) in
    let s = circle_spread w (least_end lo hi) (greatest_end lo hi) (root (least_circle - h)) (root (greatest_circle - l)) (least_le_greatest_end lo hi e.order) (ends_apart _ w lo hi e) (amount_fits _ w lo hi e) (omega (arith, ra.next_square_gt)) (omega (arith, rb.square_le)) in
    cosine_by (cosine_width w) _ _ a b (omega (arith, ints, grain_floor_one (pos (root (least_circle - h))))) (omega (arith, ints, grain_ceil_one (pos (root (greatest_circle - l))))) o (value_fits _ _ rb (omega arith)) s
