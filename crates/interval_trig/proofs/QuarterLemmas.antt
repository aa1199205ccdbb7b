-- The number of a quarter modulo 4, and the rests of near angles.
use Rattle.grid_model.specs.Sines.{modulo_4}
use Rattle.std.proofs.Common.{◌≡◌, ℕ, zero, suc, ◌+◌, ◌*◌, ◌/◌, ◌%◌, ◌≤◌, ◌<◌, arith, sym, refl, ap, ◌∙◌, subst, lit≤, ◌⊎◌, inl, inr}
use Rattle.std.specs.Prelude.{ℤ, pos, nat_abs, ◌-ℤ◌, ◌+ℤ◌, ◌*ℤ◌, ◌≤ℤ◌, ◌<ℤ◌}
use Rattle.std.proofs.lemmas.Int.{ints, int_rem_euclid_is, by_lt_z}
use Rattle.grid_model.proofs.RoundingLemmas.{floor_is}
use Rattle.grid_model.specs.Angles.{unit, quarter, quarter_turn, IsRest}
use Rattle.grid_model.specs.Intervals.{Close}
use Rattle.grid_model.specs.Rounding.{IsFloor}
use Rattle.grid_model.specs.Sizes.{IsWithin}
use Rattle.interval_trig.specs.NestedSums.{greatest_rest}
use Rattle.interval_trig.proofs.WholeSums.{seam}

abbrev pub next : ℕ → ℕ
next zero = 1
next (suc zero) = 2
next (suc (suc zero)) = 3
next (suc (suc (suc n))) = 0

next_is : (m p c d : ℕ) → m < 4 → p < 4 → p + 4 * c ≡ m + 1 + 4 * d → p ≡ next m
next_is zero p c d h k e = omega arith
next_is (suc zero) p c d h k e = omega arith
next_is (suc (suc zero)) p c d h k e = omega arith
next_is (suc (suc (suc m))) p c d h k e = omega arith

next_mod : (m : ℕ) → (m + 1) % 4 ≡ next (m % 4)
next_mod m = next_is (m % 4) ((m + 1) % 4) ((m + 1) / 4) (m / 4) (omega arith) (omega arith) (omega arith)

turn_mod : (k : ℤ) (c m : ℕ) → k +ℤ pos (c * 4) ≡ pos m → modulo_4 k ≡ m % 4
turn_mod k c m e = ap nat_abs (int_rem_euclid_is k (pos 4) 4 c m (lit≤ tt) refl e)

pub turn_next : (k : ℤ) → modulo_4 (k +ℤ pos 1) ≡ next (modulo_4 k)
turn_next k =
    let m = nat_abs (k +ℤ pos (nat_abs k * 4)) in
    let a : modulo_4 k ≡ m % 4 = turn_mod k (nat_abs k) m (omega (arith, ints)) in
    let b : modulo_4 (k +ℤ pos 1) ≡ (m + 1) % 4 = turn_mod (k +ℤ pos 1) (nat_abs k) (m + 1) (omega (arith, ints)) in
    b ∙ next_mod m ∙ ap next (sym a)

pub quarter_floor : (x : ℤ)
    → IsFloor (pos 20000 *ℤ x +ℤ pos quarter_turn) (pos (2 * quarter_turn)) (quarter x)
quarter_floor x = floor_is (pos 20000 *ℤ x +ℤ pos quarter_turn) (pos (2 * quarter_turn)) (record { lt = tt })

-- an angle that is at most one radian above lies in the same quarter or in the next
quarter_steps : (x y k l : ℤ) → x ≤ℤ y → y ≤ℤ (x +ℤ pos unit)
    → IsFloor (pos 20000 *ℤ x +ℤ pos quarter_turn) (pos (2 * quarter_turn)) k
    → IsFloor (pos 20000 *ℤ y +ℤ pos quarter_turn) (pos (2 * quarter_turn)) l
    → (l ≡ k) ⊎ (l ≡ k +ℤ pos 1)
quarter_steps x y k l h j f g = by_lt_z k l (λ i. inr (omega (arith, ints))) (λ i. inl (omega (arith, ints)))

pub quarter_next : (x y : ℤ) → x ≤ℤ y → y ≤ℤ (x +ℤ pos unit)
    → (quarter y ≡ quarter x) ⊎ (quarter y ≡ quarter x +ℤ pos 1)
quarter_next x y h j = quarter_steps x y (quarter x) (quarter y) h j (quarter_floor x) (quarter_floor y)

rest_within : (x k r : ℤ) → IsWithin 10000 ((pos 10000 *ℤ (x -ℤ r)) -ℤ (k *ℤ pos quarter_turn))
    → IsFloor (pos 20000 *ℤ x +ℤ pos quarter_turn) (pos (2 * quarter_turn)) k
    → IsWithin greatest_rest r
rest_within x k r a f = record { low = omega (arith, ints); high = omega (arith, ints) }

pub rest_small : (x r : ℤ) → IsRest x r → IsWithin greatest_rest r
rest_small x r h = rest_within x (quarter x) r h.within (quarter_floor x)

-- the rests of two angles in one quarter are at most two units farther apart
rests_close : (x y k r q : ℤ) (n : ℕ) → Close n x y
    → IsWithin 10000 ((pos 10000 *ℤ (x -ℤ r)) -ℤ (k *ℤ pos quarter_turn))
    → IsWithin 10000 ((pos 10000 *ℤ (y -ℤ q)) -ℤ (k *ℤ pos quarter_turn)) → Close (n + 2) r q
rests_close x y k r q n h a b = record { below = omega (arith, ints); above = omega (arith, ints) }

pub rests_in_quarter : (x y r q : ℤ) (n : ℕ) → Close n x y → quarter y ≡ quarter x → IsRest x r
    → IsRest y q → Close (n + 2) r q
rests_in_quarter x y r q n h e a b = rests_close x y (quarter x) r q n h a.within (subst (λ (z : ℤ). IsWithin 10000 ((pos 10000 *ℤ (y -ℤ q)) -ℤ (z *ℤ pos quarter_turn))) e b.within)

-- the same as bounds on the rest, h being the quarters' sum
record RestBounds (x h r : ℤ) : Type 0 where
  low : (pos 10000 *ℤ x) ≤ℤ (pos 10000 *ℤ r +ℤ h +ℤ pos 10000)
  high : (pos 10000 *ℤ r +ℤ h) ≤ℤ (pos 10000 *ℤ x +ℤ pos 10000)

rest_bounds : (x k r : ℤ) → IsWithin 10000 ((pos 10000 *ℤ (x -ℤ r)) -ℤ (k *ℤ pos quarter_turn))
    → RestBounds x (k *ℤ pos quarter_turn) r
rest_bounds x k r a = record { low = omega (arith, ints); high = omega (arith, ints) }

below_half : (x k : ℤ) → IsFloor (pos 20000 *ℤ x +ℤ pos quarter_turn) (pos (2 * quarter_turn)) k
    → (pos 20000 *ℤ x) <ℤ (pos 2 *ℤ (k *ℤ pos quarter_turn) +ℤ pos quarter_turn)
below_half x k f = omega (arith, ints)

above_half : (y k l : ℤ) → l ≡ k +ℤ pos 1
    → IsFloor (pos 20000 *ℤ y +ℤ pos quarter_turn) (pos (2 * quarter_turn)) l
    → (pos 2 *ℤ (k *ℤ pos quarter_turn) +ℤ pos quarter_turn) ≤ℤ (pos 20000 *ℤ y)
above_half y k l e f = omega (arith, ints)

next_sum : (k l : ℤ) → l ≡ k +ℤ pos 1
    → l *ℤ pos quarter_turn ≡ (k *ℤ pos quarter_turn) +ℤ pos quarter_turn
next_sum k l e = omega (arith, ints)

-- the rests on both sides of a seam: how far they are from the seam, added up
seam_sum : (x y h r q : ℤ) (n : ℕ) → y ≤ℤ (x +ℤ pos n)
    → (pos 20000 *ℤ x) <ℤ (pos 2 *ℤ h +ℤ pos quarter_turn)
    → (pos 2 *ℤ h +ℤ pos quarter_turn) ≤ℤ (pos 20000 *ℤ y) → RestBounds x h r
    → RestBounds y (h +ℤ pos quarter_turn) q
    → nat_abs (r -ℤ pos seam) + nat_abs (q +ℤ pos seam) ≤ n + 2
seam_sum x y h r q n d f g a b = omega (arith, ints)

pub rests_at_seam : (x y r q : ℤ) (n : ℕ) → y ≤ℤ (x +ℤ pos n) → quarter y ≡ quarter x +ℤ pos 1
    → IsRest x r → IsRest y q → nat_abs (r -ℤ pos seam) + nat_abs (q +ℤ pos seam) ≤ n + 2
rests_at_seam x y r q n h e a b = seam_sum x y (quarter x *ℤ pos quarter_turn) r q n h (below_half x (quarter x) (quarter_floor x)) (above_half y (quarter x) (quarter y) e (quarter_floor y))
    (rest_bounds x (quarter x) r a.within) (subst (λ (z : ℤ). RestBounds y z q) (next_sum (quarter x) (quarter y) e) (rest_bounds y (quarter y) q b.within))
