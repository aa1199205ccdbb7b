-- What holds every number near a fraction holds the fraction itself strictly between its ends. So it
-- goes with sums, differences and products of fractions, and a number near one of these is held.
use Rattle.std.proofs.Common.{◌≡◌, arith, sym, ap, ◌∙◌, subst}
use Rattle.std.specs.Prelude.{ℤ, pos, neg_ℤ, ◌+ℤ◌, ◌-ℤ◌, ◌*ℤ◌, ◌≤ℤ◌, ◌<ℤ◌}
use Rattle.std.specs.Int.{int_div_euclid}
use Rattle.std.proofs.lemmas.Int.{ints, by_lt_z}
use lib.IntN.{*ℤ_comm}
use Rattle.grid_model.specs.Intervals.{Between}
use Rattle.grid_model.specs.Rounding.{Near, IsFloor}
use Rattle.grid_model.proofs.ProductLemmas.{mul_mono, mul_anti, mul_lt_back, add_mul, neg_mul, mul_neg, mul_assoc, less_mul}
use Rattle.grid_model.proofs.RoundingLemmas.{floor_is}

-- num / den lies strictly between lo and hi
pub record Inside (num den lo hi : ℤ) : Type 0 where
  pub low : (lo *ℤ den) <ℤ num
  pub high : num <ℤ (hi *ℤ den)

-- q is the last number below num / den, or the first above it
record LastBelow (num den q : ℤ) : Type 0 where
  near : Near num den q
  below : (q *ℤ den) <ℤ num

record FirstAbove (num den q : ℤ) : Type 0 where
  near : Near num den q
  above : num <ℤ (q *ℤ den)

above_floor : (n d f q : ℤ) → pos 0 <ℤ d → (q *ℤ d) ≡ (f *ℤ d) +ℤ d → IsFloor n d f
    → FirstAbove n d q
above_floor n d f q p e i = record { near = record { below = omega (arith, ints, i.le, i.gt); above = omega (arith, ints, i.le, i.gt) }; above = omega (arith, ints, i.gt) }

first_above : (n d : ℤ) → pos 0 <ℤ d → (q : ℤ) × FirstAbove n d q
first_above n d p =
    let f = int_div_euclid n d in
    (f +ℤ pos 1, above_floor n d f (f +ℤ pos 1) p (omega (arith, ints, add_mul f (pos 1) d)) (floor_is n d p))

turned : (n d q q' : ℤ) → (q' *ℤ d) ≡ neg_ℤ (q *ℤ d) → FirstAbove (neg_ℤ n) d q → LastBelow n d q'
turned n d q q' e f = let g = f.near in record { near = record { below = omega (arith, ints, g.below, g.above, f.above); above = omega (arith, ints, g.below, g.above, f.above) }; below = omega (arith, ints, f.above) }

last_below : (n d : ℤ) → pos 0 <ℤ d → (q : ℤ) × LastBelow n d q
last_below n d p =
    let f = first_above (neg_ℤ n) d p in
    (neg_ℤ f.0, turned n d f.0 (neg_ℤ f.0) (neg_mul f.0 d) f.1)

pub inside_of : (n d lo hi : ℤ) → pos 0 <ℤ d → ((v : ℤ) → Near n d v → Between lo hi v)
    → Inside n d lo hi
inside_of n d lo hi p h =
    let a = last_below n d p in
    let b = first_above n d p in
    let ab = a.1 in
    let bb = b.1 in
    let x = h a.0 ab.near in
    let y = h b.0 bb.near in
    let s : (lo *ℤ d) ≤ℤ (a.0 *ℤ d) = mul_mono lo a.0 d x.from (omega (arith, ints)) in
    let t : (b.0 *ℤ d) ≤ℤ (hi *ℤ d) = mul_mono b.0 hi d y.to (omega (arith, ints)) in
    record { low = omega (arith, ints, ab.below); high = omega (arith, ints, bb.above) }

-- a number near the fraction is held
pub held : (n d lo hi v : ℤ) → pos 0 <ℤ d → Inside n d lo hi → Near n d v → Between lo hi v
held n d lo hi v p i h =
    let x : lo <ℤ (v +ℤ pos 1) = mul_lt_back lo (v +ℤ pos 1) d p (omega (arith, ints, i.low, h.above, add_mul v (pos 1) d)) in
    let y : v <ℤ (hi +ℤ pos 1) = mul_lt_back v (hi +ℤ pos 1) d p (omega (arith, ints, i.high, h.below, add_mul hi (pos 1) d)) in
    record { from = omega (arith, ints); to = omega (arith, ints) }

pub sum_inside : (m n d a b a' b' : ℤ) → Inside m d a b → Inside n d a' b'
    → Inside (m +ℤ n) d (a +ℤ a') (b +ℤ b')
sum_inside m n d a b a' b' i j = record { low = omega (arith, ints, i.low, j.low, add_mul a a' d); high = omega (arith, ints, i.high, j.high, add_mul b b' d) }

pub difference_inside : (m n d a b a' b' : ℤ) → Inside m d a b → Inside n d a' b'
    → Inside (m -ℤ n) d (a -ℤ b') (b -ℤ a')
difference_inside m n d a b a' b' i j = record { low = omega (arith, ints, i.low, j.high, less_mul a b' d); high = omega (arith, ints, i.high, j.low, less_mul b a' d) }

-- a whole number of d more
pub moved_inside : (m n d a b lo hi : ℤ) → pos 0 <ℤ d → Inside m d a b → Between lo hi n
    → Inside (m +ℤ (n *ℤ d)) d (a +ℤ lo) (b +ℤ hi)
moved_inside m n d a b lo hi p i h =
    let x : (lo *ℤ d) ≤ℤ (n *ℤ d) = mul_mono lo n d h.from (omega (arith, ints)) in
    let y : (n *ℤ d) ≤ℤ (hi *ℤ d) = mul_mono n hi d h.to (omega (arith, ints)) in
    record { low = omega (arith, ints, i.low, add_mul a lo d); high = omega (arith, ints, i.high, add_mul b hi d) }

-- the same fraction with another factor above and below
pub scaled_inside : (m d a b q : ℤ) → pos 0 <ℤ q → Inside m d a b → Inside (m *ℤ q) (d *ℤ q) a b
scaled_inside m d a b q p i =
    let step = λ (x y : ℤ) (h : (x +ℤ pos 1) ≤ℤ y). mul_mono (x +ℤ pos 1) y q h (omega (arith, ints)) in
    let s : (((a *ℤ d) +ℤ pos 1) *ℤ q) ≤ℤ (m *ℤ q) = step (a *ℤ d) m (omega (arith, ints, i.low)) in
    let t : ((m +ℤ pos 1) *ℤ q) ≤ℤ ((b *ℤ d) *ℤ q) = step m (b *ℤ d) (omega (arith, ints, i.high)) in
    record { low = omega (arith, ints, add_mul (a *ℤ d) (pos 1) q, mul_assoc a d q); high = omega (arith, ints, add_mul m (pos 1) q, mul_assoc b d q) }

-- m / q lies between lo and hi, and t and the product of y with either of these between a and b, over d
pub mixed_sum : (t m q y d lo hi a b : ℤ) → pos 0 <ℤ q → Inside m q lo hi
    → Inside (t +ℤ (lo *ℤ y)) d a b → Inside (t +ℤ (hi *ℤ y)) d a b
    → Inside ((t *ℤ q) +ℤ (m *ℤ y)) (d *ℤ q) a b
mixed_sum t m q y d lo hi a b p i j k =
    let s = scaled_inside (t +ℤ (lo *ℤ y)) d a b q p j in
    let r = scaled_inside (t +ℤ (hi *ℤ y)) d a b q p k in
    let swap = λ (x : ℤ). mul_assoc x y q ∙ ap (λ (z : ℤ). x *ℤ z) (*ℤ_comm y q) ∙ sym (mul_assoc x q y) in
    let e : (t +ℤ (lo *ℤ y)) *ℤ q ≡ (t *ℤ q) +ℤ ((lo *ℤ q) *ℤ y) = add_mul t (lo *ℤ y) q ∙ ap (λ (z : ℤ). (t *ℤ q) +ℤ z) (swap lo) in
    let f : (t +ℤ (hi *ℤ y)) *ℤ q ≡ (t *ℤ q) +ℤ ((hi *ℤ q) *ℤ y) = add_mul t (hi *ℤ y) q ∙ ap (λ (z : ℤ). (t *ℤ q) +ℤ z) (swap hi) in
    by_lt_z y (pos 0)
    (λ h.
    let u : (m *ℤ y) ≤ℤ ((lo *ℤ q) *ℤ y) = mul_anti (lo *ℤ q) m y (omega (arith, ints, i.low)) (omega (arith, ints)) in
    let v : ((hi *ℤ q) *ℤ y) ≤ℤ (m *ℤ y) = mul_anti m (hi *ℤ q) y (omega (arith, ints, i.high)) (omega (arith, ints)) in
    record { low = omega (arith, ints, r.low); high = omega (arith, ints, s.high) })
    (λ h.
    let u : ((lo *ℤ q) *ℤ y) ≤ℤ (m *ℤ y) = mul_mono (lo *ℤ q) m y (omega (arith, ints, i.low)) h in
    let v : (m *ℤ y) ≤ℤ ((hi *ℤ q) *ℤ y) = mul_mono m (hi *ℤ q) y (omega (arith, ints, i.high)) h in
    record { low = omega (arith, ints, s.low); high = omega (arith, ints, r.high) })

pub mixed_difference : (t m q y d lo hi a b : ℤ) → pos 0 <ℤ q → Inside m q lo hi
    → Inside (t -ℤ (lo *ℤ y)) d a b → Inside (t -ℤ (hi *ℤ y)) d a b
    → Inside ((t *ℤ q) -ℤ (m *ℤ y)) (d *ℤ q) a b
mixed_difference t m q y d lo hi a b p i j k =
    let turn = λ (x : ℤ) (h : Inside (t -ℤ (x *ℤ y)) d a b). subst (λ (z : ℤ). Inside (t +ℤ z) d a b) (sym (mul_neg x y)) h in
    subst (λ (z : ℤ). Inside ((t *ℤ q) +ℤ z) (d *ℤ q) a b) (mul_neg m y) (mixed_sum t m q (neg_ℤ y) d lo hi a b p i (turn lo j) (turn hi k))
