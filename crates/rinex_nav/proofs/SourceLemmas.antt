-- Which number a whole one is, by its floor and its ceiling in 10^-6.
use Rattle.std.proofs.Common.{◌≡◌, ℕ, ◌*◌, ◌^◌, ◌≤◌, arith, ap}
use Rattle.std.specs.Prelude.{ℤ, pos, ◌+ℤ◌, ◌*ℤ◌, ◌<ℤ◌}
use Rattle.std.proofs.lemmas.Int.{ints}
use Rattle.exact_decimal.specs.Units.{numerator, denominator}
use Rattle.exact_decimal.specs.declared.decimal.Decimal.{Decimal}
use Rattle.exact_decimal.specs.declared.unit.Unit.TheVariants.{Length}
use Rattle.exact_decimal.proofs.Limits.{some_parts}
use Rattle.grid_model.specs.Rounding.{IsFloor, IsCeiling}
use Rattle.grid_model.proofs.ProductLemmas.{mul_lt_back, add_mul}
use Rattle.rinex_nav.specs.Sources.{IsWhole}

floor_exact : (n d q w : ℤ) → pos 0 <ℤ d → n ≡ w *ℤ d → IsFloor n d q → q ≡ w
floor_exact n d q w p e f =
    let a : q <ℤ (w +ℤ pos 1) = mul_lt_back q (w +ℤ pos 1) d p (omega (arith, ints, f.le, e, add_mul w (pos 1) d)) in
    let b : w <ℤ (q +ℤ pos 1) = mul_lt_back w (q +ℤ pos 1) d p (omega (arith, ints, f.gt, e, add_mul q (pos 1) d)) in
    omega (arith, ints, a, b)

ceiling_exact : (n d q w : ℤ) → pos 0 <ℤ d → n ≡ w *ℤ d → IsCeiling n d q → q ≡ w
ceiling_exact n d q w p e f =
    let a : q <ℤ (w +ℤ pos 1) = mul_lt_back q (w +ℤ pos 1) d p (omega (arith, ints, f.lt, e, add_mul w (pos 1) d)) in
    let b : w <ℤ (q +ℤ pos 1) = mul_lt_back w (q +ℤ pos 1) d p (omega (arith, ints, f.ge, e, add_mul q (pos 1) d)) in
    omega (arith, ints, a, b)

module _ (number : Decimal) where
  -- and both are it, in 10^-6
  pub whole_floor : (v : ℕ) (lo : ℤ) → IsWhole number v
      → IsFloor (numerator number.digits number.ten Length) (pos (denominator number.ten Length)) lo
      → lo ≡ pos (v * 10 ^ 6)
  whole_floor v lo w f = floor_exact _ _ lo (pos (v * 10 ^ 6)) (some_parts number.ten Length) w.is f

  pub whole_ceiling : (v : ℕ) (hi : ℤ) → IsWhole number v
      → IsCeiling (numerator number.digits number.ten Length) (pos (denominator number.ten Length)) hi
      → hi ≡ pos (v * 10 ^ 6)
  whole_ceiling v hi w f = ceiling_exact _ _ hi (pos (v * 10 ^ 6)) (some_parts number.ten Length) w.is f

  -- where both are one number of 10^6
  pub is_whole : (v : ℕ) (lo hi : ℤ)
      → IsFloor (numerator number.digits number.ten Length) (pos (denominator number.ten Length)) lo
      → IsCeiling (numerator number.digits number.ten Length) (pos (denominator number.ten Length)) hi
      → lo ≡ hi → lo ≡ pos (v * 10 ^ 6) → v ≤ 1023 → IsWhole number v
  is_whole v lo hi f g e is few =
      let same = ap (λ (z : ℤ). z *ℤ pos (denominator number.ten Length)) is in
      let also = ap (λ (z : ℤ). z *ℤ pos (denominator number.ten Length)) e in
      record { at_most = few; is = omega (arith, ints, f.le, g.ge, same, also) }

-- there is one such number
pub whole_one : (number : Decimal) (v w : ℕ) → IsWhole number v → IsWhole number w → v ≡ w
whole_one number v w a b =
    let d = pos (denominator number.ten Length) in
    let f : IsFloor (numerator number.digits number.ten Length) d (pos (v * 10 ^ 6)) = record { le = omega (arith, ints, a.is); gt = omega (arith, ints, a.is, some_parts number.ten Length) } in
    omega (arith, ints, whole_floor number w (pos (v * 10 ^ 6)) b f)
