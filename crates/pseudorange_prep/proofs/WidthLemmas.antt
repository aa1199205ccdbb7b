-- Ends of a product with one number, and of a combination of codes.
use Rattle.std.proofs.Common.{◌≡◌, ℕ, ◌+◌, ◌-◌, ◌*◌, ◌^◌, ◌≤◌, arith, lit≤, refl, to_z, of_z}
use Rattle.std.specs.Prelude.{ℤ, pos, ◌+ℤ◌, ◌-ℤ◌, ◌*ℤ◌, neg_ℤ, ◌≤ℤ◌, ◌<ℤ◌}
use mir.Syntax.{w128}
use Rattle.std.proofs.lemmas.Int.{ints}
use lib.IntN.{*ℤ_comm}
use Rattle.grid_model.specs.Intervals.{Between, Ends}
use Rattle.grid_model.specs.Rounding.{Near, IsTightRound}
use Rattle.grid_model.specs.Products.{least_product, greatest_product}
use Rattle.grid_model.specs.Sizes.{IsWithin}
use Rattle.grid_model.proofs.EndsLemmas.{product_ends}
use Rattle.grid_model.proofs.SpreadLemmas.{products_spread}
use Rattle.gnss_model.specs.EarthModel.{light_speed}
use Rattle.gnss_model.specs.Pseudorange.{IsSent}
use Rattle.gnss_model.specs.Systems.{first_square, second_square, squares_apart}
use Rattle.gnss_model.specs.declared.systems.System.{System}
use Rattle.gnss_model.specs.declared.systems.System.TheVariants.{Gps, Galileo}
use Rattle.gnss_model.specs.declared.systems.Message.TheVariants.{Fnav, Inav}
use Rattle.grid_model.proofs.ProductLemmas.{mul_mono, mul_lt_back, distrib, add_mul, neg_mul}
use Rattle.pseudorange_prep.specs.Ranges.{IsCode, IsNarrow}
use Rattle.grid_model.proofs.IntervalLemmas.{one_number}
use Rattle.grid_model.proofs.PlainLemmas.{times_one}

-- a product with one number, over a whole number
pub times_one_number : (m v n k j d : ℕ) (a b l h : ℤ) → Ends m v a b → pos 0 <ℤ pos d
    → m * n ≤ k * d → n * v ≤ j * d → l ≤ℤ h
    → IsTightRound (least_product a b (pos n) (pos n)) (pos d) (greatest_product a b (pos n) (pos n)) (pos d) l h
    → Ends (k + 2) (j + 4) l h
times_one_number m v n k j d a b l h e p f g o t =
    product_ends m v n 0 k j a b (pos n) (pos n) (pos d) l h e (one_number n) p (omega (arith, ints, f)) (omega (arith, ints, g)) o t

-- ends of this amount, as far apart as they are
pub narrow_ends : (n w : ℕ) (a b : ℤ) → a ≤ℤ b → IsWithin n a → IsWithin n b → IsNarrow w a b
    → Ends n w a b
narrow_ends n w a b o f g h = record { order = o; low = f; high = g; width = h.width }

pub amount_ends : (n : ℕ) (a b : ℤ) → a ≤ℤ b → IsWithin n a → IsWithin n b → Ends n (n + n) a b
amount_ends n a b o f g = record { order = o; low = f; high = g; width = omega (arith, ints) }

-- ---- a combination of codes

-- one times a number
times_mono : (m : ℕ) (a b : ℤ) → a ≤ℤ b → (pos m *ℤ a) ≤ℤ (pos m *ℤ b)
times_mono m a b h = omega (arith, ints, mul_mono a b (pos m) h (omega (arith, ints)), *ℤ_comm (pos m) a, *ℤ_comm (pos m) b)

times_from : (m : ℕ) (a : ℤ) → pos 0 ≤ℤ a → pos 0 ≤ℤ (pos m *ℤ a)
times_from m a h = omega (arith, ints, times_mono m (pos 0) a h)

times_to : (m k : ℕ) (a : ℤ) → a ≤ℤ pos k → (pos m *ℤ a) ≤ℤ pos (m * k)
times_to m k a h = omega (arith, ints, times_mono m a (pos k) h)

times_apart : (m : ℕ) (a b : ℤ) → (b -ℤ a) ≤ℤ pos 1 → (pos m *ℤ b) ≤ℤ ((pos m *ℤ a) +ℤ pos m)
times_apart m a b h = omega (arith, ints, times_mono m b (a +ℤ pos 1) (omega (arith, ints)), distrib (pos m) a (pos 1))

-- what is known of the squares of a system's frequencies
squares_ordered : (y : System) → second_square y ≤ first_square y
squares_ordered Gps = lit≤ tt
squares_ordered (Galileo Fnav) = lit≤ tt
squares_ordered (Galileo Inav) = lit≤ tt

squares_near : (y : System) → first_square y + second_square y + 1 ≤ 5 * squares_apart y
squares_near Gps = lit≤ tt
squares_near (Galileo Fnav) = lit≤ tt
squares_near (Galileo Inav) = lit≤ tt

pub apart_positive : (y : System) → pos 0 <ℤ pos (squares_apart y)
apart_positive Gps = record { lt = tt }
apart_positive (Galileo Fnav) = record { lt = tt }
apart_positive (Galileo Inav) = record { lt = tt }

-- in 128 bits it is itself
pub apart_is : (y : System) → to_z w128 (of_z w128 (pos (squares_apart y))) ≡ pos (squares_apart y)
apart_is Gps = refl
apart_is (Galileo Fnav) = refl
apart_is (Galileo Inav) = refl

abbrev pub combined_amount : System → ℕ
combined_amount y = first_square y * 40000000000000

pub combined_small : (y : System) → combined_amount y ≤ 10 ^ 18
combined_small Gps = lit≤ tt
combined_small (Galileo message) = lit≤ tt

pub combined_fits : (y : System) → combined_amount y * 1 ≤ (2 * 10 ^ 14 - 2) * squares_apart y
combined_fits Gps = lit≤ tt
combined_fits (Galileo Fnav) = lit≤ tt
combined_fits (Galileo Inav) = lit≤ tt

pub combined_spreads : (y : System)
    → 1 * (combined_amount y + combined_amount y) ≤ 3 * 10 ^ 14 * squares_apart y
combined_spreads Gps = lit≤ tt
combined_spreads (Galileo Fnav) = lit≤ tt
combined_spreads (Galileo Inav) = lit≤ tt

-- between the codes, each times its square
code_amount : (y : System) (a c : ℤ) → pos 0 ≤ℤ a → a ≤ℤ pos 40000000000000 → pos 0 ≤ℤ c
    → c ≤ℤ pos 40000000000000
    → IsWithin (combined_amount y) ((pos (first_square y) *ℤ a) -ℤ (pos (second_square y) *ℤ c))
code_amount y a c f g h i =
    let m = first_square y in
    let n = second_square y in
    let u = times_to m 40000000000000 a g in
    let v = times_to n 40000000000000 c i in
    let w = squares_ordered y in
    record { low = omega (arith, ints, times_from m a f, v, w); high = omega (arith, ints, u, times_from n c h) }

pub code_ends : (y : System) (a b c d l h : ℤ) → IsCode a b → IsCode c d → a ≤ℤ b → c ≤ℤ d
    → l ≡ (pos (first_square y) *ℤ a) -ℤ (pos (second_square y) *ℤ d)
    → h ≡ (pos (first_square y) *ℤ b) -ℤ (pos (second_square y) *ℤ c)
    → l ≤ℤ h → Ends (combined_amount y) (combined_amount y + combined_amount y) l h
code_ends y a b c d l h f g o p e i q =
    let low : IsWithin (combined_amount y) l = rw e (code_amount y a d f.from (omega (arith, ints, o, f.to)) (omega (arith, ints, p, g.from)) g.to) in
    let high : IsWithin (combined_amount y) h = rw i (code_amount y b c (omega (arith, ints, o, f.from)) f.to g.from (omega (arith, ints, p, g.to))) in
    amount_ends (combined_amount y) l h q low high

narrow_codes : (y : System) (a b c d l h : ℤ) → IsNarrow 1 a b → IsNarrow 1 c d
    → l ≡ (pos (first_square y) *ℤ a) -ℤ (pos (second_square y) *ℤ d)
    → h ≡ (pos (first_square y) *ℤ b) -ℤ (pos (second_square y) *ℤ c)
    → (h -ℤ l) ≤ℤ pos (first_square y + second_square y)
narrow_codes y a b c d l h f g e i = omega (arith, ints, times_apart (first_square y) a b f.width, times_apart (second_square y) c d g.width)

pub code_member : (y : System) (a b c d u v l h : ℤ) → Between a b u → Between c d v
    → l ≡ (pos (first_square y) *ℤ a) -ℤ (pos (second_square y) *ℤ d)
    → h ≡ (pos (first_square y) *ℤ b) -ℤ (pos (second_square y) *ℤ c)
    → Between l h ((pos (first_square y) *ℤ u) -ℤ (pos (second_square y) *ℤ v))
code_member y a b c d u v l h f g e i =
    let m = first_square y in
    let n = second_square y in
    record { from = omega (arith, ints, times_mono m a u f.from, times_mono n v d g.to); to = omega (arith, ints, times_mono m u b f.to, times_mono n c v g.from) }

eighth : (k s : ℕ) (x g l : ℤ) → pos 0 <ℤ pos k → s + 1 ≤ 5 * k → g ≤ℤ (l +ℤ pos s)
    → (x *ℤ pos k) ≤ℤ ((g -ℤ l) +ℤ (pos 4 *ℤ pos k)) → x ≤ℤ pos 8
eighth k s x g l p f h w =
    let less : x <ℤ pos 9 = mul_lt_back x (pos 9) (pos k) p (omega (arith, ints)) in
    omega (arith, ints, less)

-- the combination of codes that are one unit wide
pub dual_width : (y : System) (a b c d l h lo hi : ℤ) → IsNarrow 1 a b → IsNarrow 1 c d
    → Ends (combined_amount y) (combined_amount y + combined_amount y) l h
    → l ≡ (pos (first_square y) *ℤ a) -ℤ (pos (second_square y) *ℤ d)
    → h ≡ (pos (first_square y) *ℤ b) -ℤ (pos (second_square y) *ℤ c)
    → ((hi -ℤ lo) *ℤ pos (squares_apart y)) ≤ℤ ((greatest_product l h (pos 1) (pos 1) -ℤ least_product l h (pos 1) (pos 1)) +ℤ (pos 4 *ℤ pos (squares_apart y)))
    → IsNarrow 8 lo hi
dual_width y a b c d l h lo hi f g e i j w =
    let s = first_square y + second_square y in
    let n : Ends (combined_amount y) s l h = record { order = e.order; low = e.low; high = e.high; width = narrow_codes y a b c d l h f g i j } in
    let spread = products_spread (combined_amount y) s 1 0 l h (pos 1) (pos 1) n (one_number 1) in
    record { width = eighth (squares_apart y) s (hi -ℤ lo) (greatest_product l h (pos 1) (pos 1)) (least_product l h (pos 1) (pos 1)) (apart_positive y) (squares_near y) (omega (arith, ints, spread)) w }

pub near_times_one : (m d v : ℤ) → Near m d v → Near (m *ℤ pos 1) d v
near_times_one m d v n = record { below = omega (arith, ints, n.below, times_one m); above = omega (arith, ints, n.above, times_one m) }

pub turned_factors : (v n k : ℕ) → v * n ≤ k → n * v ≤ k
turned_factors v n k h = omega arith

-- ---- a time before the tag

-- the way is the tag less the time of sending
pub sent_way : (tag p v : ℤ) → IsSent tag p v
    → Near (p *ℤ pos (10 ^ 6)) (pos light_speed) (tag -ℤ v)
sent_way tag p v n = record {
  below = omega (arith, ints, n.below, n.above, add_mul tag (neg_ℤ v) (pos light_speed), neg_mul v (pos light_speed));
  above = omega (arith, ints, n.below, n.above, add_mul tag (neg_ℤ v) (pos light_speed), neg_mul v (pos light_speed));
}

pub before_tag : (tag lo hi l h v : ℤ) → Between lo hi (tag -ℤ v) → l ≡ tag -ℤ hi → h ≡ tag -ℤ lo
    → Between l h v
before_tag tag lo hi l h v b e f = record { from = omega (arith, ints, b.from, b.to); to = omega (arith, ints, b.from, b.to) }

pub before_width : (tag lo hi l h : ℤ) (w : ℕ) → IsNarrow w lo hi → l ≡ tag -ℤ hi → h ≡ tag -ℤ lo
    → IsNarrow w l h
before_width tag lo hi l h w b e f = record { width = omega (arith, ints, b.width) }

-- ---- a length added

pub plus_size : (x y : ℤ) → IsWithin (10 ^ 15) x → IsWithin (3 * 10 ^ 14 + 2) y
    → IsWithin (10 ^ 38) (x +ℤ y)
plus_size x y f g = record { low = omega (arith, ints, f.low, g.low); high = omega (arith, ints, f.high, g.high) }

pub near_light : (d v : ℤ) → Near (pos light_speed *ℤ d) (pos (10 ^ 10)) v
    → Near (d *ℤ pos light_speed) (pos (10 ^ 10)) v
near_light d v n = rw (*ℤ_comm d (pos light_speed)) n

pub sum_width : (w : ℕ) (a b lo hi l h : ℤ) → IsNarrow w a b → (hi -ℤ lo) ≤ℤ pos 6 → l ≡ a +ℤ lo
    → h ≡ b +ℤ hi → IsNarrow (w + 24) l h
sum_width w a b lo hi l h f g e i = record { width = omega (arith, ints, f.width) }
