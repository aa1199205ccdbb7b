-- What one axis gives, over plain numbers.
use Rattle.std.proofs.Common.{◌≡◌, ℕ, ◌+◌, ◌*◌, arith, refl, ap, sym, ◌∙◌}
use Rattle.std.specs.Prelude.{ℤ, pos, negsuc, ◌+ℤ◌, ◌-ℤ◌, ◌*ℤ◌, neg_ℤ, unsigned_abs, ◌≤ℤ◌, ◌<ℤ◌}
use Rattle.std.proofs.lemmas.Int.{ints}
use lib.IntN.{*ℤ_comm}
use Rattle.grid_model.specs.Amounts.{square}
use Rattle.grid_model.specs.Sizes.{IsWithin}
use Rattle.grid_model.specs.Rounding.{IsFloor}
use Rattle.grid_model.proofs.ProductLemmas.{distrib, add_mul, neg_mul, mul_assoc, product_within, square_of_amount}

pub amount_within : (z : ℤ) → IsWithin (unsigned_abs z) z
amount_within (pos n) = record { low = omega (arith, ints); high = omega (arith, ints) }
amount_within (negsuc n) = record { low = omega (arith, ints); high = omega (arith, ints) }

pub sum_within : (m n : ℕ) (y z : ℤ) → IsWithin m y → IsWithin n z → IsWithin (m + n) (y +ℤ z)
sum_within m n y z p q = record { low = omega (arith, ints, p.low, q.low); high = omega (arith, ints, p.high, q.high) }

-- ---- v d from below and d d from above, where d = v + u + e

-- a + s is at most d + p
pub record UpTo (a d : ℤ) (s p : ℕ) : Type 0 where
  pub holds : (a +ℤ pos s) ≤ℤ (d +ℤ pos p)

-- n is at most s + g + 2 p + 2 a
pub record From (a : ℤ) (n s g p : ℕ) : Type 0 where
  pub holds : pos n ≤ℤ (pos (s + g + 2 * p) +ℤ (a +ℤ a))

upper_sum : (vd vu vv ve : ℤ) (s k : ℕ) → vd ≡ vv +ℤ (vu +ℤ ve) → vv ≡ pos s → neg_ℤ (pos k) ≤ℤ ve
    → (vu +ℤ pos s) ≤ℤ (vd +ℤ pos k)
upper_sum vd vu vv ve s k e f h = omega (arith, ints)

-- v u + v v is at most v d and what v e may take away
pub upper_axis : (v u e : ℤ) (w : ℕ) → IsWithin w e
    → UpTo (v *ℤ u) (v *ℤ (v +ℤ (u +ℤ e))) (square (unsigned_abs v)) (unsigned_abs v * w)
upper_axis v u e w h = record {
  holds =
      upper_sum (v *ℤ (v +ℤ (u +ℤ e))) (v *ℤ u) (v *ℤ v) (v *ℤ e) (square (unsigned_abs v)) (unsigned_abs v * w)
      (distrib v v (u +ℤ e) ∙ ap (λ (z : ℤ). (v *ℤ v) +ℤ z) (distrib v u e)) (square_of_amount v)
      (product_within (unsigned_abs v) w v e (amount_within v) h).low;
}

lower_sum : (d2 vv vt tv tt' : ℤ) (vu ve : ℤ) (s sv k g : ℕ)
    → d2 ≡ (vv +ℤ vt) +ℤ (tv +ℤ tt') → tv ≡ vt → vt ≡ vu +ℤ ve → d2 ≡ pos s → vv ≡ pos sv
    → ve ≤ℤ pos k → tt' ≤ℤ pos g
    → pos s ≤ℤ (pos (sv + g + 2 * k) +ℤ (vu +ℤ vu))
lower_sum d2 vv vt tv tt' vu ve s sv k g a b c d e f h = omega (arith, ints)

-- d d is at most v v, twice v u and what the ways from the middles add
pub lower_axis : (v u e : ℤ) (h w : ℕ) → IsWithin h u → IsWithin w e
    → From (v *ℤ u) (square (unsigned_abs (v +ℤ (u +ℤ e)))) (square (unsigned_abs v)) (square (h + w)) (unsigned_abs v * w)
lower_axis v u e h w p q =
    let t = u +ℤ e in
    let d = v +ℤ t in
    record {
      holds = lower_sum (d *ℤ d) (v *ℤ v) (v *ℤ t) (t *ℤ v) (t *ℤ t) (v *ℤ u) (v *ℤ e) (square (unsigned_abs d)) (square (unsigned_abs v)) (unsigned_abs v * w) (square (h + w))
          (add_mul v t d ∙ ap (λ (z : ℤ). z +ℤ (t *ℤ d)) (distrib v v t) ∙ ap (λ (z : ℤ). ((v *ℤ v) +ℤ (v *ℤ t)) +ℤ z) (distrib t v t))
          (*ℤ_comm t v) (distrib v u e) (square_of_amount d) (square_of_amount v)
          (product_within (unsigned_abs v) w v e (amount_within v) q).high
          (product_within (h + w) (h + w) t t (sum_within h w u e p q) (sum_within h w u e p q)).high;
    }

-- ---- N u against S v u / A

near_sum : (na sv x : ℤ) (a : ℕ) → na ≤ℤ sv → sv <ℤ (na +ℤ pos a) → x ≡ sv -ℤ na → IsWithin a x
near_sum na sv x a p q e = record { low = omega (arith, ints); high = omega (arith, ints) }

pub record NearProduct (x y : ℤ) (n : ℕ) : Type 0 where
  pub below : x ≤ℤ (y +ℤ pos n)
  pub above : y ≤ℤ (x +ℤ pos n)

near_from : (x y r : ℤ) (n : ℕ) → r ≡ y -ℤ x → IsWithin n r → NearProduct x y n
near_from x y r n e w = record { below = omega (arith, ints, w.low); above = omega (arith, ints, w.high) }

-- A N u and S v u differ by at most A h
pub slope_axis : (s v n u : ℤ) (a h : ℕ) → IsFloor (s *ℤ v) (pos a) n → IsWithin h u
    → NearProduct ((n *ℤ u) *ℤ pos a) (s *ℤ (v *ℤ u)) (a * h)
slope_axis s v n u a h f p =
    let rest = (s *ℤ v) -ℤ (n *ℤ pos a) in
    let w : IsWithin a rest = near_sum (n *ℤ pos a) (s *ℤ v) rest a f.le f.gt refl in
    near_from ((n *ℤ u) *ℤ pos a) (s *ℤ (v *ℤ u)) (rest *ℤ u) (a * h)
    (add_mul (s *ℤ v) (neg_ℤ (n *ℤ pos a)) u ∙ ap (λ (z : ℤ). ((s *ℤ v) *ℤ u) +ℤ z) (neg_mul (n *ℤ pos a) u)
    ∙ ap (λ (z : ℤ). z -ℤ ((n *ℤ pos a) *ℤ u)) (mul_assoc s v u)
    ∙ ap (λ (z : ℤ). (s *ℤ (v *ℤ u)) -ℤ z) (mul_assoc n (pos a) u ∙ ap (λ (z : ℤ). n *ℤ z) (*ℤ_comm (pos a) u) ∙ sym (mul_assoc n u (pos a))))
    (product_within a h rest u w p)
