-- Numbers near a fraction: there is one, how large it is, what is left when a whole number is taken off,
-- and how an interval that holds all of them goes on through a product.
use Rattle.std.proofs.Common.{◌≡◌, ℕ, ◌+◌, arith, ap, ◌∙◌, sym, ◌⊎◌, inl, inr, ⊎_elim}
use Rattle.std.specs.Prelude.{ℤ, pos, ◌+ℤ◌, ◌-ℤ◌, ◌*ℤ◌, neg_ℤ, ◌≤ℤ◌, ◌<ℤ◌}
use Rattle.std.specs.Int.{int_div_euclid}
use Rattle.std.proofs.lemmas.Int.{ints, by_lt_z}
use lib.IntN.{*ℤ_comm}
use Rattle.grid_model.specs.Sizes.{IsWithin}
use Rattle.grid_model.specs.Intervals.{Between, Ends}
use Rattle.grid_model.specs.Products.{ProductsWithin, least_product, greatest_product}
use Rattle.grid_model.specs.Rounding.{Near, IsTightRound}
use Rattle.grid_model.proofs.ProductLemmas.{mul_mono, mul_anti, mul_le_back, mul_lt_back, add_mul, neg_mul, mul_assoc}
use Rattle.grid_model.proofs.IntervalLemmas.{low_member, high_member}
use Rattle.grid_model.proofs.RoundingLemmas.{floor_is, floor_near}
use Rattle.grid_model.proofs.SpreadLemmas.{least_has, greatest_has}
use Rattle.grid_model.proofs.EndsLemmas.{rounded_ends, low_of as low_bound, high_of as high_bound, common as regrouped}

pub near_itself : (z : ℤ) → Near z (pos 1) z
near_itself z = record { below = omega (arith, ints); above = omega (arith, ints) }

pub near_exists : (num den : ℤ) → pos 0 <ℤ den → (v : ℤ) × Near num den v
near_exists num den p = (int_div_euclid num den, floor_near num den _ p (floor_is num den p))

-- ---- how large it is

-- at least `low` denominators: at least `low`, less one unit
pub near_low : (num den v low : ℤ) → pos 0 <ℤ den → (low *ℤ den) ≤ℤ num → Near num den v
    → (low -ℤ pos 1) ≤ℤ v
near_low num den v low p h n = mul_le_back (low -ℤ pos 1) v den p (rw (add_mul low (neg_ℤ (pos 1)) den) (omega (arith, ints, n.above)))

-- ---- whole numbers taken off

-- what is near a + num / den is, without a, near num / den
pub near_without : (a num den v : ℤ) → Near ((a *ℤ den) +ℤ num) den v → Near num den (v -ℤ a)
near_without a num den v n =
    let e : (v -ℤ a) *ℤ den ≡ (v *ℤ den) -ℤ (a *ℤ den) = add_mul v (neg_ℤ a) den ∙ ap (λ (z : ℤ). (v *ℤ den) +ℤ z) (neg_mul a den) in
    record { below = omega (arith, ints, e, n.below, n.above); above = omega (arith, ints, e, n.below, n.above) }

-- ---- the ends of a product whose factors are any

apart_bound : (n k : ℕ) (x y den : ℤ) → IsWithin n x → IsWithin n y → pos n ≤ℤ (pos k *ℤ den)
    → y ≤ℤ (x +ℤ (pos (k + k) *ℤ den))
apart_bound n k x y den v w h = rw (add_mul (pos k) (pos k) den) (omega (arith, ints, v.low, w.high))

-- no product of ends passes k denominators
pub any_product_ends : (k : ℕ) (den a b c d l h : ℤ) → pos 0 <ℤ den → (n : ℕ)
    → pos n ≤ℤ (pos k *ℤ den) → ProductsWithin n a b c d → l ≤ℤ h
    → IsTightRound (least_product a b c d) den (greatest_product a b c d) den l h
    → Ends (k + 2) (k + k + 4) l h
any_product_ends k den a b c d l h p n i q o t =
    let u : IsWithin n (least_product a b c d) = least_has (λ (z : ℤ). IsWithin n z) a b c d q.low_low q.low_high q.high_low q.high_high in
    let v : IsWithin n (greatest_product a b c d) = greatest_has (λ (z : ℤ). IsWithin n z) a b c d q.low_low q.low_high q.high_low q.high_high in
    rounded_ends k (k + k) (least_product a b c d) (greatest_product a b c d) den l h p o (low_bound n (least_product a b c d) (pos k *ℤ den) u i) (high_bound n (greatest_product a b c d) (pos k *ℤ den) v i) (apart_bound n k (least_product a b c d) (greatest_product a b c d) den u v i) t

-- ---- a product in steps, rounded once: the interval of each step holds the exact fraction

-- num / den lies between lo and hi
pub record FractionWithin (lo hi num den : ℤ) : Type 0 where
  pub from : (lo *ℤ den) ≤ℤ num
  pub to : num ≤ℤ (hi *ℤ den)

-- what is at most each number near n / d is at most each one above
near_or_above : (n d w l : ℤ) → pos 0 <ℤ d → ((v : ℤ) → Near n d v → l ≤ℤ v) → n ≤ℤ (w *ℤ d +ℤ d)
    → l ≤ℤ w
near_or_above n d w l p f h =
    let q = floor_is n d p in
    by_lt_z (n +ℤ d) (w *ℤ d)
    (λ k. let i : int_div_euclid n d <ℤ w = mul_lt_back (int_div_euclid n d) w d p (omega (arith, ints, q.le)) in let j : l ≤ℤ int_div_euclid n d = f _ (floor_near n d _ p q) in omega (arith, ints))
    (λ k. f w (record { below = k; above = h }))

near_or_below : (n d w h : ℤ) → pos 0 <ℤ d → ((v : ℤ) → Near n d v → v ≤ℤ h) → (w *ℤ d) ≤ℤ (n +ℤ d)
    → w ≤ℤ h
near_or_below n d w h p f g =
    let q = floor_is n d p in
    by_lt_z (w *ℤ d +ℤ d) n
    (λ k. let i : w <ℤ int_div_euclid n d = mul_lt_back w (int_div_euclid n d) d p (omega (arith, ints, q.gt)) in let j : int_div_euclid n d ≤ℤ h = f _ (floor_near n d _ p q) in omega (arith, ints))
    (λ k. f w (record { below = g; above = k }))

-- an interval that holds each number near a fraction holds the fraction
pub held_fraction : (n d l h : ℤ) → pos 0 <ℤ d → ((v : ℤ) → Near n d v → Between l h v)
    → FractionWithin l h n d
held_fraction n d l h p f =
    let q = floor_is n d p in
    let e : l ≤ℤ int_div_euclid n d = (f _ (floor_near n d _ p q)).from in
    let g : (int_div_euclid n d +ℤ pos 1) ≤ℤ h = near_or_below n d (int_div_euclid n d +ℤ pos 1) h p (λ v i. (f v i).to) (rw (add_mul (int_div_euclid n d) (pos 1) d) (omega (arith, ints, q.le))) in
    record { from = omega (arith, ints, mul_mono l (int_div_euclid n d) d e (omega (arith, ints)), q.le); to = omega (arith, ints, mul_mono (int_div_euclid n d +ℤ pos 1) h d g (omega (arith, ints)), add_mul (int_div_euclid n d) (pos 1) d, q.gt) }

cancel_below : (t m v q d : ℤ) → pos 0 <ℤ q → t ≤ℤ (m *ℤ q) → (v *ℤ (q *ℤ d)) ≤ℤ (t +ℤ (q *ℤ d))
    → (v *ℤ d) ≤ℤ (m +ℤ d)
cancel_below t m v q d p h k = mul_le_back (v *ℤ d) (m +ℤ d) q p (rw (regrouped v q d, add_mul m d q, *ℤ_comm d q) (omega (arith, ints)))

cancel_above : (t m v q d : ℤ) → pos 0 <ℤ q → (m *ℤ q) ≤ℤ t → t ≤ℤ (v *ℤ (q *ℤ d) +ℤ (q *ℤ d))
    → m ≤ℤ (v *ℤ d +ℤ d)
cancel_above t m v q d p h k = mul_le_back m (v *ℤ d +ℤ d) q p (rw (add_mul (v *ℤ d) d q, regrouped v q d, *ℤ_comm d q) (omega (arith, ints)))

pub swapped : (a b c : ℤ) → (a *ℤ b) *ℤ c ≡ (a *ℤ c) *ℤ b
swapped a b c = mul_assoc a b c ∙ ap (λ (z : ℤ). a *ℤ z) (*ℤ_comm b c) ∙ sym (mul_assoc a c b)

-- num / den times b lies between products of ends with b
least_of : (lo hi num q b : ℤ) → FractionWithin lo hi num q
    → (((lo *ℤ b) *ℤ q) ≤ℤ (num *ℤ b)) ⊎ (((hi *ℤ b) *ℤ q) ≤ℤ (num *ℤ b))
least_of lo hi num q b f = by_lt_z b (pos 0)
    (λ k. inr (rw (swapped hi b q) (mul_anti num (hi *ℤ q) b f.to (omega (arith, ints)))))
    (λ k. inl (rw (swapped lo b q) (mul_mono (lo *ℤ q) num b f.from k)))

greatest_of : (lo hi num q b : ℤ) → FractionWithin lo hi num q
    → ((num *ℤ b) ≤ℤ ((lo *ℤ b) *ℤ q)) ⊎ ((num *ℤ b) ≤ℤ ((hi *ℤ b) *ℤ q))
greatest_of lo hi num q b f = by_lt_z b (pos 0)
    (λ k. inl (rw (swapped lo b q) (mul_anti (lo *ℤ q) num b f.from (omega (arith, ints)))))
    (λ k. inr (rw (swapped hi b q) (mul_mono num (hi *ℤ q) b f.to k)))

-- An interval that holds each number near a b / den, for the whole numbers a from lo to hi, holds each
-- one near the product of a fraction from lo to hi and b.
pub fraction_product : (lo hi num q b den l h : ℤ) → lo ≤ℤ hi → pos 0 <ℤ q → pos 0 <ℤ den
    → FractionWithin lo hi num q
    → ((a v : ℤ) → Between lo hi a → Near (a *ℤ b) den v → Between l h v) → (v : ℤ)
    → Near (num *ℤ b) (q *ℤ den) v → Between l h v
fraction_product lo hi num q b den l h o p r f g v n =
    let at_low = λ (w : ℤ) (i : Near (lo *ℤ b) den w). g lo w (low_member lo hi o) i in
    let at_high = λ (w : ℤ) (i : Near (hi *ℤ b) den w). g hi w (high_member lo hi o) i in
    record {
      from = ⊎_elim (λ k. near_or_above (lo *ℤ b) den v l r (λ w i. (at_low w i).from) (cancel_above (num *ℤ b) (lo *ℤ b) v q den p k n.above)) (λ k. near_or_above (hi *ℤ b) den v l r (λ w i. (at_high w i).from) (cancel_above (num *ℤ b) (hi *ℤ b) v q den p k n.above)) (least_of lo hi num q b f);
      to = ⊎_elim (λ k. near_or_below (lo *ℤ b) den v h r (λ w i. (at_low w i).to) (cancel_below (num *ℤ b) (lo *ℤ b) v q den p k n.below)) (λ k. near_or_below (hi *ℤ b) den v h r (λ w i. (at_high w i).to) (cancel_below (num *ℤ b) (hi *ℤ b) v q den p k n.below)) (greatest_of lo hi num q b f);
    }

-- ---- sums

-- a number is held, and what another is more than it
pub between_sums : (lo hi l h rl rh a v : ℤ) → Between lo hi a → Between l h (v -ℤ a) → rl ≡ lo +ℤ l
    → rh ≡ hi +ℤ h → Between rl rh v
between_sums lo hi l h rl rh a v p q e f = record { from = omega (arith, ints, p.from, q.from); to = omega (arith, ints, p.to, q.to) }
