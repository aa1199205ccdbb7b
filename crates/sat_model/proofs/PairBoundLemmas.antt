-- The bounds of a row's form, over plain numbers.
use Rattle.std.proofs.Common.{◌≡◌, ℕ, ◌+◌, ◌*◌, ◌<◌, ◌≤◌, arith, refl, ap, sym, ◌∙◌, subst}
use Rattle.std.specs.Prelude.{ℤ, pos, ◌+ℤ◌, ◌-ℤ◌, ◌*ℤ◌, ◌≤ℤ◌, ◌<ℤ◌}
use Rattle.std.proofs.lemmas.Int.{ints}
use lib.IntN.{*ℤ_comm}
use Rattle.grid_model.specs.Rounding.{IsFloor}
use Rattle.grid_model.proofs.ProductLemmas.{mul_mono, distrib, add_mul, mul_assoc, mul_lt_back, mul_le_back}
use Rattle.sat_model.proofs.PairAxisLemmas.{NearProduct, UpTo, From}

pos_product : (a r : ℕ) → pos (a * (r + 1)) ≡ (pos a *ℤ pos r) +ℤ pos a
pos_product a r = omega (arith, ints)

upper_atoms : (ab ar az azz ab_r d v m : ℤ) (a vv pl : ℕ)
    → (v +ℤ pos vv) ≤ℤ (d +ℤ pos pl) → d <ℤ (ar +ℤ pos a) → ab_r ≡ ab +ℤ ar → ab_r ≤ℤ az
    → azz ≡ az +ℤ pos a → m ≡ (azz -ℤ pos vv) +ℤ pos pl
    → (ab +ℤ v) ≤ℤ m
upper_atoms ab ar az azz ab_r d v m a vv pl h k e l f g = omega (arith, ints)

-- A b + V is at most M
pub upper_numbers : (a r : ℕ) (b z v d : ℤ) (vv pl : ℕ) → UpTo v d vv pl → d <ℤ pos (a * (r + 1))
    → (b +ℤ pos r) ≤ℤ z
    → ((pos a *ℤ b) +ℤ v) ≤ℤ (((pos a *ℤ (z +ℤ pos 1)) -ℤ pos vv) +ℤ pos pl)
upper_numbers a r b z v d vv pl h k l =
    upper_atoms (pos a *ℤ b) (pos a *ℤ pos r) (pos a *ℤ z) (pos a *ℤ (z +ℤ pos 1)) (pos a *ℤ (b +ℤ pos r)) d v _ a vv pl
    h.holds (subst (λ (t : ℤ). d <ℤ t) (pos_product a r) k) (distrib (pos a) b (pos r))
    (rw (*ℤ_comm (pos a) (b +ℤ pos r), *ℤ_comm (pos a) z) (mul_mono (b +ℤ pos r) z (pos a) l (omega (arith, ints))))
    (distrib (pos a) z (pos 1) ∙ ap (λ (t : ℤ). (pos a *ℤ z) +ℤ t) (one_times a)) refl
  where
    one_times : (a : ℕ) → pos a *ℤ pos 1 ≡ pos a
    one_times a = omega (arith, ints)

lower_atoms : (ab2 ar2 az2 ab_r2 v y : ℤ) (aa vv pl sp n : ℕ)
    → pos n ≤ℤ (pos (vv + sp + 2 * pl) +ℤ (v +ℤ v)) → ar2 ≤ℤ pos (aa + n) → ab_r2 ≡ ab2 +ℤ ar2
    → az2 ≤ℤ ab_r2 → y ≡ az2 -ℤ pos (aa + vv + 2 * pl + sp)
    → y ≤ℤ (ab2 +ℤ (v +ℤ v))
lower_atoms ab2 ar2 az2 ab_r2 v y aa vv pl sp n h k e l f = omega (arith, ints)

-- Y is at most twice A b + V
pub lower_numbers : (a r : ℕ) (b z v : ℤ) (vv pl sp n : ℕ) → From v n vv sp pl
    → 2 * (a * r) ≤ a * a + n → z ≤ℤ (b +ℤ pos r)
    → ((pos (2 * a) *ℤ z) -ℤ pos (a * a + vv + 2 * pl + sp)) ≤ℤ ((pos (2 * a) *ℤ b) +ℤ (v +ℤ v))
lower_numbers a r b z v vv pl sp n h k l =
    lower_atoms (pos (2 * a) *ℤ b) (pos (2 * a) *ℤ pos r) (pos (2 * a) *ℤ z) (pos (2 * a) *ℤ (b +ℤ pos r)) v _ (a * a) vv pl sp n
    h.holds (twice a r n k) (distrib (pos (2 * a)) b (pos r))
    (rw (*ℤ_comm (pos (2 * a)) (b +ℤ pos r), *ℤ_comm (pos (2 * a)) z) (mul_mono z (b +ℤ pos r) (pos (2 * a)) l (omega (arith, ints)))) refl
  where
    twice : (a r n : ℕ) → 2 * (a * r) ≤ a * a + n → (pos (2 * a) *ℤ pos r) ≤ℤ pos (a * a + n)
    twice a r n k = omega (arith, ints)

-- ---- three axes

near_atoms : (x y z x' y' z' t s : ℤ) (a b c n : ℕ) → t ≡ (x +ℤ y) +ℤ z → s ≡ (x' +ℤ y') +ℤ z'
    → n ≡ a + b + c
    → NearProduct x x' a → NearProduct y y' b → NearProduct z z' c → NearProduct t s n
near_atoms x y z x' y' z' t s a b c n e f g h k l = record {
  below = omega (arith, ints, h.below, k.below, l.below);
  above = omega (arith, ints, h.above, k.above, l.above);
}

pub near_three : (tx ty tz vx vy vz s : ℤ) (a hx hy hz : ℕ)
    → NearProduct (tx *ℤ pos a) (s *ℤ vx) (a * hx) → NearProduct (ty *ℤ pos a) (s *ℤ vy) (a * hy)
    → NearProduct (tz *ℤ pos a) (s *ℤ vz) (a * hz)
    → NearProduct ((tx +ℤ ty +ℤ tz) *ℤ pos a) (s *ℤ (vx +ℤ vy +ℤ vz)) (a * (hx + hy + hz))
near_three tx ty tz vx vy vz s a hx hy hz h k l =
    near_atoms (tx *ℤ pos a) (ty *ℤ pos a) (tz *ℤ pos a) (s *ℤ vx) (s *ℤ vy) (s *ℤ vz) _ _ (a * hx) (a * hy) (a * hz) _
    (add_mul (tx +ℤ ty) tz (pos a) ∙ ap (λ (t : ℤ). t +ℤ (tz *ℤ pos a)) (add_mul tx ty (pos a)))
    (distrib s (vx +ℤ vy) vz ∙ ap (λ (t : ℤ). t +ℤ (s *ℤ vz)) (distrib s vx vy))
    (omega arith) h k l

-- ---- rounded quotients

upper_end_atoms : (sba ta sv sm fa fha sab_v sbta : ℤ) (ah a : ℕ)
    → sbta ≡ sba +ℤ ta → ta ≤ℤ (sv +ℤ pos ah) → sab_v ≡ sba +ℤ sv → sab_v ≤ℤ sm
    → sm <ℤ (fa +ℤ pos a) → fha ≡ (fa +ℤ pos ah) +ℤ pos a
    → sbta <ℤ fha
upper_end_atoms sba ta sv sm fa fha sab_v sbta ah a e h f k l g = omega (arith, ints)

scaled : (s b : ℤ) (a : ℕ) → (s *ℤ b) *ℤ pos a ≡ s *ℤ (pos a *ℤ b)
scaled s b a = mul_assoc s b (pos a) ∙ ap (λ (t : ℤ). s *ℤ t) (*ℤ_comm b (pos a))

pub upper_end : (a : ℕ) (s b v t m f : ℤ) (h : ℕ) → 0 < a → pos 0 ≤ℤ s
    → NearProduct (t *ℤ pos a) (s *ℤ v) (a * h) → ((pos a *ℤ b) +ℤ v) ≤ℤ m
    → IsFloor (s *ℤ m) (pos a) f → ((s *ℤ b) +ℤ t) ≤ℤ (f +ℤ pos h)
upper_end a s b v t m f h some p near le floor =
    let more : ((s *ℤ b) +ℤ t) <ℤ ((f +ℤ pos h) +ℤ pos 1) = mul_lt_back _ _ (pos a) (omega (arith, ints))
    (upper_end_atoms ((s *ℤ b) *ℤ pos a) (t *ℤ pos a) (s *ℤ v) (s *ℤ m) (f *ℤ pos a) (((f +ℤ pos h) +ℤ pos 1) *ℤ pos a) (s *ℤ ((pos a *ℤ b) +ℤ v)) (((s *ℤ b) +ℤ t) *ℤ pos a) (a * h) a
    (add_mul (s *ℤ b) t (pos a)) near.below
    (distrib s (pos a *ℤ b) v ∙ ap (λ (z : ℤ). z +ℤ (s *ℤ v)) (sym (scaled s b a)))
    (rw (*ℤ_comm s ((pos a *ℤ b) +ℤ v), *ℤ_comm s m) (mul_mono ((pos a *ℤ b) +ℤ v) m s le p))
    floor.gt
    (add_mul (f +ℤ pos h) (pos 1) (pos a) ∙ ap (λ (z : ℤ). z +ℤ (pos 1 *ℤ pos a)) (add_mul f (pos h) (pos a)) ∙ ends_of_it (f *ℤ pos a) h a)) in
    from_less ((s *ℤ b) +ℤ t) (f +ℤ pos h) more
  where
    ends_of_it : (fa : ℤ) (h a : ℕ)
        → (fa +ℤ (pos h *ℤ pos a)) +ℤ (pos 1 *ℤ pos a) ≡ (fa +ℤ pos (a * h)) +ℤ pos a
    ends_of_it fa h a = omega (arith, ints)

    from_less : (x y : ℤ) → x <ℤ (y +ℤ pos 1) → x ≤ℤ y
    from_less x y h = omega (arith, ints)

lower_end_atoms : (sba ta sv sm fa sab_v sbta sbta2 : ℤ) (ah : ℕ)
    → sbta2 ≡ ((sba +ℤ ta) +ℤ pos ah) +ℤ ((sba +ℤ ta) +ℤ pos ah) → sv ≤ℤ (ta +ℤ pos ah)
    → sab_v ≡ (sba +ℤ sba) +ℤ (sv +ℤ sv) → sm ≤ℤ sab_v → fa ≤ℤ sm
    → fa ≤ℤ sbta2
lower_end_atoms sba ta sv sm fa sab_v sbta sbta2 ah e h f k l = omega (arith, ints)

pub lower_end : (a : ℕ) (s b v t m f : ℤ) (h : ℕ) → 0 < a → pos 0 ≤ℤ s
    → NearProduct (t *ℤ pos a) (s *ℤ v) (a * h) → m ≤ℤ ((pos (2 * a) *ℤ b) +ℤ (v +ℤ v))
    → IsFloor (s *ℤ m) (pos (2 * a)) f → (f -ℤ pos h) ≤ℤ ((s *ℤ b) +ℤ t)
lower_end a s b v t m f h some p near le floor =
    let more : f ≤ℤ (((s *ℤ b) +ℤ t) +ℤ pos h) = mul_le_back _ _ (pos (2 * a)) (omega (arith, ints))
    (lower_end_atoms ((s *ℤ b) *ℤ pos a) (t *ℤ pos a) (s *ℤ v) (s *ℤ m) (f *ℤ pos (2 * a)) (s *ℤ ((pos (2 * a) *ℤ b) +ℤ (v +ℤ v))) (((s *ℤ b) +ℤ t) *ℤ pos a) ((((s *ℤ b) +ℤ t) +ℤ pos h) *ℤ pos (2 * a)) (a * h)
    (doubled (((s *ℤ b) +ℤ t) +ℤ pos h) a ∙ ap (λ (z : ℤ). z +ℤ z) (add_mul ((s *ℤ b) +ℤ t) (pos h) (pos a) ∙ ap (λ (z : ℤ). z +ℤ (pos h *ℤ pos a)) (add_mul (s *ℤ b) t (pos a)) ∙ ap (λ (z : ℤ). (((s *ℤ b) *ℤ pos a) +ℤ (t *ℤ pos a)) +ℤ z) (turned h a)))
    near.above
    (distrib s (pos (2 * a) *ℤ b) (v +ℤ v) ∙ ap (λ (z : ℤ). z +ℤ (s *ℤ (v +ℤ v))) (sym (scaled s b (2 * a)) ∙ doubled (s *ℤ b) a) ∙ ap (λ (z : ℤ). (((s *ℤ b) *ℤ pos a) +ℤ ((s *ℤ b) *ℤ pos a)) +ℤ z) (distrib s v v))
    (rw (*ℤ_comm s m, *ℤ_comm s ((pos (2 * a) *ℤ b) +ℤ (v +ℤ v))) (mul_mono m ((pos (2 * a) *ℤ b) +ℤ (v +ℤ v)) s le p))
    floor.le) in
    less_by f ((s *ℤ b) +ℤ t) h more
  where
    doubled : (x : ℤ) (a : ℕ) → x *ℤ pos (2 * a) ≡ (x *ℤ pos a) +ℤ (x *ℤ pos a)
    doubled x a = omega (arith, ints)

    turned : (h a : ℕ) → pos h *ℤ pos a ≡ pos (a * h)
    turned h a = omega (arith, ints)

    less_by : (f x : ℤ) (h : ℕ) → f ≤ℤ (x +ℤ pos h) → (f -ℤ pos h) ≤ℤ x
    less_by f x h k = omega (arith, ints)
