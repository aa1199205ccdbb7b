-- What is left of an angle, rounded down, is a rest, and the value there is one of the angle.
use Rattle.std.proofs.Common.{◌≡◌, ℕ, ◌*◌, arith, sym, ap, ◌∙◌, subst}
use Rattle.std.specs.Prelude.{ℤ, pos, neg_ℤ, ◌-ℤ◌, ◌+ℤ◌, ◌*ℤ◌}
use Rattle.std.proofs.lemmas.Int.{ints}
use Rattle.grid_model.proofs.RoundingLemmas.{floor_is}
use Rattle.grid_model.specs.Angles.{quarter, quarter_turn, IsRest}
use Rattle.grid_model.specs.Rounding.{IsFloor}
use Rattle.grid_model.specs.Sines.{by_quarter, modulo_4, Sine, Cosine}
use Rattle.grid_model.specs.Sizes.{IsWithin}
use Rattle.grid_model.specs.Taylor.{SineAt, CosineAt}

pub left_within : (x k : ℤ) → k ≡ quarter x
    → IsWithin 78539816339744830962 ((pos 10000 *ℤ x) -ℤ (k *ℤ pos quarter_turn))
left_within x k e =
    let f : IsFloor (pos 20000 *ℤ x +ℤ pos quarter_turn) (pos (2 * quarter_turn)) k = subst (λ (q : ℤ). IsFloor (pos 20000 *ℤ x +ℤ pos quarter_turn) (pos (2 * quarter_turn)) q) (sym e) (floor_is (pos 20000 *ℤ x +ℤ pos quarter_turn) (pos (2 * quarter_turn)) (record { lt = tt })) in
    record { low = omega (arith, ints); high = omega (arith, ints) }

-- a value of the function that a quarter names; t is the value as the code casts it
pub neg_back : (s t : ℤ) → t ≡ neg_ℤ s → neg_ℤ t ≡ s
neg_back s t e = omega (arith, ints)

pub turn_sine : (n : ℕ) (r q s t : ℤ) → n ≡ 0 → r ≡ q → t ≡ s → SineAt q s → by_quarter n r t
turn_sine n r q s t e g f v = rw (e, g, f) v

pub turn_cosine : (n : ℕ) (r q s t : ℤ) → n ≡ 1 → r ≡ q → t ≡ s → CosineAt q s → by_quarter n r t
turn_cosine n r q s t e g f v = rw (e, g, f) v

pub turn_less_sine : (n : ℕ) (r q s t : ℤ) → n ≡ 2 → r ≡ q → t ≡ neg_ℤ s → SineAt q s
    → by_quarter n r t
turn_less_sine n r q s t e g f v = rw (e, g) (subst (λ (z : ℤ). SineAt q z) (sym (neg_back s t f)) v)

pub turn_less_cosine : (n : ℕ) (r q s t : ℤ) → n ≡ 3 → r ≡ q → t ≡ neg_ℤ s → CosineAt q s
    → by_quarter n r t
turn_less_cosine n r q s t e g f v = rw (e, g) (subst (λ (z : ℤ). CosineAt q z) (sym (neg_back s t f)) v)

-- a whole number that is left of x, rounded down, is a rest
pub floor_is_rest : (x k m r : ℤ) → k ≡ quarter x → m ≡ (pos 10000 *ℤ x) -ℤ (k *ℤ pos quarter_turn)
    → IsFloor m (pos 10000) r → IsRest x r
floor_is_rest x k m r e g f =
    record { within = subst (λ (z : ℤ). IsWithin 10000 ((pos 10000 *ℤ (x -ℤ r)) -ℤ (z *ℤ pos quarter_turn))) e (record { low = omega (arith, ints); high = omega (arith, ints) }) }

pub sine_from : (x k m r s : ℤ) (n : ℕ) → k ≡ quarter x
    → m ≡ (pos 10000 *ℤ x) -ℤ (k *ℤ pos quarter_turn) → IsFloor m (pos 10000) r → n ≡ modulo_4 k
    → by_quarter n r s → Sine x s
unfolding Sine
sine_from x k m r s n e g f t v = (r, floor_is_rest x k m r e g f, subst (λ (j : ℕ). by_quarter j r s) (t ∙ ap (λ (z : ℤ). modulo_4 z) e) v)

pub cosine_from_turn : (x k m r s : ℤ) (n : ℕ) → k ≡ quarter x
    → m ≡ (pos 10000 *ℤ x) -ℤ (k *ℤ pos quarter_turn) → IsFloor m (pos 10000) r
    → n ≡ modulo_4 (k +ℤ pos 1) → by_quarter n r s → Cosine x s
unfolding Cosine
cosine_from_turn x k m r s n e g f t v = (r, floor_is_rest x k m r e g f, subst (λ (j : ℕ). by_quarter j r s) (t ∙ ap (λ (z : ℤ). modulo_4 (z +ℤ pos 1)) e) v)
