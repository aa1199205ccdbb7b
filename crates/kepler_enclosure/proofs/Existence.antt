-- Each mean anomaly and eccentricity has an eccentric anomaly.
use Rattle.std.proofs.Common.{◌≡◌, ℕ, zero, suc, ◌+◌, ◌*◌, arith, subst}
use Rattle.std.specs.Prelude.{ℤ, pos, neg_ℤ, nat_abs, ◌+ℤ◌, ◌-ℤ◌, ◌*ℤ◌, ◌≤ℤ◌}
use Rattle.std.proofs.lemmas.Int.{ints, by_lt_z}
use lib.IntN.{*ℤ_comm}
use Rattle.grid_model.specs.Sizes.{IsWithin}
use Rattle.grid_model.specs.Angles.{unit}
use Rattle.gnss_model.specs.Kepler.{Kepler}
use Rattle.grid_model.proofs.ProductLemmas.{mul_mono, neg_mul}
use Rattle.interval_trig.proofs.Existence.{sine_exists}
use Rattle.interval_trig.proofs.Smoothness.{sine_value_small}

-- f is at most t at x, and at least t one on
record Crosses (f : ℤ → ℤ) (t x : ℤ) : Type 0 where
  below : f x ≤ℤ t
  above : t ≤ℤ f (x +ℤ pos 1)

next_is : (a : ℤ) (n : ℕ) → a +ℤ pos (suc n) ≡ (a +ℤ pos n) +ℤ pos 1
next_is a n = omega (arith, ints)

-- what is at most t at a and at least t at a + n + 1 crosses it between
crossing : (f : ℤ → ℤ) (t a : ℤ) (n : ℕ) → f a ≤ℤ t → t ≤ℤ f (a +ℤ pos (suc n))
    → (x : ℤ) × Crosses f t x
crossing f t a zero h k = (a, record { below = h; above = k })
crossing f t a (suc n) h k = by_lt_z t (f (a +ℤ pos (suc n)))
    (λ l. crossing f t a n h (omega (arith, ints)))
    (λ l. (a +ℤ pos (suc n), record { below = l; above = subst (λ (z : ℤ). t ≤ℤ f z) (next_is a (suc n)) k }))

-- x - e sin x, times one
abbrev mean : ℤ → ℤ → ℤ
mean e x = (x *ℤ pos unit) -ℤ (e *ℤ (sine_exists x).0)

-- e s is at most 2 e, times one
product_above : (e s : ℤ) → pos 0 ≤ℤ e → IsWithin (unit + 8) s → (e *ℤ s) ≤ℤ (pos (2 * unit) *ℤ e)
product_above e s h w = rw (*ℤ_comm e s) (mul_mono s (pos (2 * unit)) e (omega (arith, ints)) h)

product_below : (e s : ℤ) → pos 0 ≤ℤ e → IsWithin (unit + 8) s
    → neg_ℤ (pos (2 * unit) *ℤ e) ≤ℤ (e *ℤ s)
product_below e s h w = rw (*ℤ_comm e s) (subst (λ (z : ℤ). z ≤ℤ (s *ℤ e)) (neg_mul (pos (2 * unit)) e) (mul_mono (neg_ℤ (pos (2 * unit))) s e (omega (arith, ints)) h))

low_of : (m e p : ℤ) → neg_ℤ (pos (2 * unit) *ℤ e) ≤ℤ p
    → (((m -ℤ (pos 2 *ℤ e)) *ℤ pos unit) -ℤ p) ≤ℤ (m *ℤ pos unit)
low_of m e p h = omega (arith, ints)

high_of : (m e p x : ℤ) → x ≡ m +ℤ (pos 2 *ℤ e) +ℤ pos 1 → p ≤ℤ (pos (2 * unit) *ℤ e)
    → (m *ℤ pos unit) ≤ℤ ((x *ℤ pos unit) -ℤ p)
high_of m e p x f h = omega (arith, ints)

small : (x : ℤ) → IsWithin (unit + 8) (sine_exists x).0
small x = sine_value_small x (sine_exists x).0 (sine_exists x).1

top_is : (m e : ℤ) → pos 0 ≤ℤ e
    → (m -ℤ (pos 2 *ℤ e)) +ℤ pos (suc (4 * nat_abs e)) ≡ m +ℤ (pos 2 *ℤ e) +ℤ pos 1
top_is m e h = omega (arith, ints)

pub kepler_exists : (m e : ℤ) → pos 0 ≤ℤ e → (x : ℤ) × Kepler m e x
kepler_exists m e h =
    let a = m -ℤ (pos 2 *ℤ e) in
    let b = a +ℤ pos (suc (4 * nat_abs e)) in
    let x = crossing (mean e) (m *ℤ pos unit) a (4 * nat_abs e)
    (low_of m e (e *ℤ (sine_exists a).0) (product_below e (sine_exists a).0 h (small a)))
    (high_of m e (e *ℤ (sine_exists b).0) b (top_is m e h) (product_above e (sine_exists b).0 h (small b))) in (
      x.0,
      record {
        here = (sine_exists x.0).0;
        after = (sine_exists (x.0 +ℤ pos 1)).0;
        sine_here = (sine_exists x.0).1;
        sine_after = (sine_exists (x.0 +ℤ pos 1)).1;
        below = x.1.below;
        above = x.1.above;
      },
    )
