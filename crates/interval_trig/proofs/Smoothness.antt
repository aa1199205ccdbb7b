-- The values at near angles are near, and no value is much more than one.
use Rattle.grid_model.proofs.IntervalLemmas.{wider, chain, flipped}
use Rattle.std.proofs.Common.{◌≡◌, ℕ, ◌+◌, ◌≤◌, arith, sym, ap, ◌∙◌, subst, ⊎_elim}
use Rattle.std.specs.Prelude.{ℤ, pos, nat_abs, ◌-ℤ◌, ◌+ℤ◌, ◌≤ℤ◌}
use Rattle.std.proofs.lemmas.Int.{ints, by_lt_z}
use Rattle.grid_model.specs.Angles.{unit, quarter, IsRest}
use Rattle.grid_model.specs.Intervals.{Close, Between}
use Rattle.grid_model.specs.Sines.{by_quarter, Sine, Cosine, modulo_4}
use Rattle.grid_model.specs.Sizes.{IsWithin}
use Rattle.interval_trig.proofs.WholeSums.{seam}
use Rattle.interval_trig.proofs.QuarterLemmas.{next, turn_next, quarter_next, rest_small, rests_in_quarter, rests_at_seam}
use Rattle.interval_trig.proofs.SignedSums.{whole_by, value_near_whole, inside, whole_small}
use Rattle.interval_trig.proofs.Seams.{across, to_seam, from_seam}

-- the whole sums at rests of x and of y, which is at most one radian above
wholes_close : (x y r q : ℤ) (n i j : ℕ) → x ≤ℤ y → y ≤ℤ (x +ℤ pos n) → n ≤ unit → IsRest x r
    → IsRest y q → (quarter y ≡ quarter x → j ≡ i) → (quarter y ≡ quarter x +ℤ pos 1 → j ≡ next i)
    → Close (n + 3) (whole_by i r) (whole_by j q)
wholes_close x y r q n i j h k l a b f g =
    let v = rest_small x r a in
    let w = rest_small y q b in
    ⊎_elim
    (λ (e : quarter y ≡ quarter x). subst (λ (m : ℕ). Close (n + 3) (whole_by i r) (whole_by m q)) (sym (f e)) (wider (n + 2) (n + 3) (whole_by i r) (whole_by i q) (omega arith) (inside i r q (n + 2) (rests_in_quarter x y r q n (record { below = omega (arith, ints); above = k }) e a b) v w)))
    (λ (e : quarter y ≡ quarter x +ℤ pos 1). subst (λ (m : ℕ). Close (n + 3) (whole_by i r) (whole_by m q)) (sym (g e))
    (let s = rests_at_seam x y r q n k e a b in wider (nat_abs (r -ℤ pos seam) + nat_abs (q +ℤ pos seam) + 1) (n + 3) (whole_by i r) (whole_by (next i) q) (omega arith) (across i r q (nat_abs (r -ℤ pos seam)) (nat_abs (q +ℤ pos seam)) (to_seam r) (from_seam q) v w)))
    (quarter_next x y h (omega (arith, ints)))

values_close : (x y r q s t : ℤ) (n i j : ℕ) → x ≤ℤ y → y ≤ℤ (x +ℤ pos n) → n ≤ unit → IsRest x r
    → IsRest y q → by_quarter i r s → by_quarter j q t → (quarter y ≡ quarter x → j ≡ i)
    → (quarter y ≡ quarter x +ℤ pos 1 → j ≡ next i) → Close (n + 7) s t
values_close x y r q s t n i j h k l a b u v f g =
    wider (2 + 2 + (n + 3)) (n + 7) s t (omega arith) (chain 2 2 (n + 3) s t (whole_by i r) (whole_by j q) (value_near_whole i r s (rest_small x r a) u) (value_near_whole j q t (rest_small y q b) v) (wholes_close x y r q n i j h k l a b f g))

sine_upward : (x y s t : ℤ) (n : ℕ) → x ≤ℤ y → Close n x y → n ≤ unit → Sine x s → Sine y t
    → Close (n + 7) s t
unfolding Sine
sine_upward x y s t n h c l u v = values_close x y u.0 v.0 s t n (modulo_4 (quarter x)) (modulo_4 (quarter y)) h c.above l u.1 v.1 u.2 v.2 (λ e. ap modulo_4 e) (λ e. ap modulo_4 e ∙ turn_next (quarter x))

cosine_upward : (x y s t : ℤ) (n : ℕ) → x ≤ℤ y → Close n x y → n ≤ unit → Cosine x s → Cosine y t
    → Close (n + 7) s t
unfolding Cosine
cosine_upward x y s t n h c l u v = values_close x y u.0 v.0 s t n (modulo_4 (quarter x +ℤ pos 1)) (modulo_4 (quarter y +ℤ pos 1)) h c.above l u.1 v.1 u.2 v.2 (λ e. ap (λ (k : ℤ). modulo_4 (k +ℤ pos 1)) e) (λ e. ap (λ (k : ℤ). modulo_4 (k +ℤ pos 1)) e ∙ turn_next (quarter x +ℤ pos 1))

-- the law: values at angles that are at most one radian apart are at most seven units farther apart
pub sine_smooth : (x y s t : ℤ) (n : ℕ) → Close n x y → n ≤ unit → Sine x s → Sine y t
    → Close (n + 7) s t
sine_smooth x y s t n c l u v = by_lt_z x y (λ h. sine_upward x y s t n (omega (arith, ints)) c l u v) (λ h. flipped (n + 7) t s (sine_upward y x t s n h (flipped n x y c) l v u))

pub cosine_smooth : (x y s t : ℤ) (n : ℕ) → Close n x y → n ≤ unit → Cosine x s → Cosine y t
    → Close (n + 7) s t
cosine_smooth x y s t n c l u v = by_lt_z x y (λ h. cosine_upward x y s t n (omega (arith, ints)) c l u v) (λ h. flipped (n + 7) t s (cosine_upward y x t s n h (flipped n x y c) l v u))

-- no value is more than one and eight units in amount
value_small : (n : ℕ) (x r s : ℤ) → IsRest x r → by_quarter n r s → IsWithin (unit + 8) s
value_small n x r s a v =
    let w = rest_small x r a in
    let c = value_near_whole n r s w v in
    let k = whole_small n r w in
    record { low = omega (arith, ints); high = omega (arith, ints) }

pub sine_value_small : (x s : ℤ) → Sine x s → IsWithin (unit + 8) s
unfolding Sine
sine_value_small x s v = value_small (modulo_4 (quarter x)) x v.0 s v.1 v.2

pub cosine_value_small : (x s : ℤ) → Cosine x s → IsWithin (unit + 8) s
unfolding Cosine
cosine_value_small x s v = value_small (modulo_4 (quarter x +ℤ pos 1)) x v.0 s v.1 v.2

-- a member is no farther from the middle than the high end
pub to_middle : (lo m hi v : ℤ) → lo ≤ℤ m → (m -ℤ lo) ≤ℤ (hi -ℤ m) → Between lo hi v
    → Close (nat_abs (hi -ℤ m)) m v
to_middle lo m hi v h k p = record { below = omega (arith, ints); above = omega (arith, ints) }

pub within_reach : (c s m hi : ℤ) → m ≤ℤ hi → Close (nat_abs (hi -ℤ m) + 7) c s
    → Between (c -ℤ ((hi -ℤ m) +ℤ pos 7)) (c +ℤ ((hi -ℤ m) +ℤ pos 7)) s
within_reach c s m hi h k = record { from = omega (arith, ints); to = omega (arith, ints) }

pub small_half : (m hi : ℤ) → m ≤ℤ hi → (hi -ℤ m) ≤ℤ pos unit → nat_abs (hi -ℤ m) ≤ unit
small_half m hi h k = omega (arith, ints)
