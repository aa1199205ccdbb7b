-- A whole number is at most a fraction where it is at most its floor, and at least where at least its ceiling.
use Rattle.std.proofs.Common.{◌≡◌, ℕ, ◌*◌, ◌≤◌, arith, refl}
use Rattle.std.specs.Prelude.{ℤ, pos, neg_ℤ, ◌+ℤ◌, ◌*ℤ◌, ◌≤ℤ◌, ◌<ℤ◌, ◌↔◌, unsigned_abs}
use Rattle.std.proofs.lemmas.Int.{ints}
use Rattle.grid_model.specs.Rounding.{IsFloor, IsCeiling}
use Rattle.grid_model.specs.Sizes.{IsWithin}
use Rattle.grid_model.proofs.IntervalLemmas.{le_z_trans}
use Rattle.grid_model.proofs.ProductLemmas.{mul_mono, add_mul, neg_mul, mul_lt_back}
use Rattle.exact_decimal.specs.declared.unit.Unit.{Unit}
use borrow.Author.Differences.{down}
use Rattle.exact_decimal.specs.Units.{bound_of, shift_of, numerator, denominator, PassesBound, LiesBetween}
use Rattle.exact_decimal.proofs.Units.{power_some}
use Rattle.grid_model.proofs.PlainLemmas.{one_times}

pub below_floor : (num den low q : ℤ) → pos 0 <ℤ den → IsFloor num den q
    → (low ≤ℤ q) ↔ ((low *ℤ den) ≤ℤ num)
below_floor num den low q some f = (
  λ h. le_z_trans _ _ _ (mul_mono low q den h (omega (arith, ints))) f.le,
  λ h.
      let under : (low *ℤ den) <ℤ ((q +ℤ pos 1) *ℤ den) = omega (arith, ints, add_mul q (pos 1) den, one_times den, f.gt, h) in
      let less : low <ℤ (q +ℤ pos 1) = mul_lt_back low (q +ℤ pos 1) den some under in
      omega (arith, ints, less),
)

pub above_ceiling : (num den high q : ℤ) → pos 0 <ℤ den → IsCeiling num den q
    → (q ≤ℤ high) ↔ (num ≤ℤ (high *ℤ den))
above_ceiling num den high q some c = (
  λ h. le_z_trans _ _ _ c.ge (mul_mono q high den h (omega (arith, ints))),
  λ h.
      let under : (q *ℤ den) <ℤ ((high +ℤ pos 1) *ℤ den) = omega (arith, ints, add_mul high (pos 1) den, one_times den, c.lt, h) in
      let less : q <ℤ (high +ℤ pos 1) = mul_lt_back q (high +ℤ pos 1) den some under in
      omega (arith, ints, less),
)

pub some_parts : (ten : ℤ) (unit : Unit) → pos 0 <ℤ pos (denominator ten unit)
some_parts ten unit = omega (arith, ints, power_some (down (shift_of ten unit)))

amount_low : (n : ℕ) (z : ℤ) → neg_ℤ (pos n) ≤ℤ z → z ≤ℤ pos n → unsigned_abs z ≤ n
amount_low n z low high = omega (arith, ints)

-- what passes the unit's bound lies between no ends that don't
pub passes_none : (digits ten : ℤ) (unit : Unit) (low high : ℤ) → IsWithin (bound_of unit) low
    → IsWithin (bound_of unit) high
    → PassesBound digits ten unit → LiesBetween digits ten unit low high → ⊥
passes_none digits ten unit low high l h passes lies =
    let den = pos (denominator ten unit) in
    let zero : pos 0 ≤ℤ pos (denominator ten unit) = omega (arith, ints) in
    let below = mul_mono (neg_ℤ (pos (bound_of unit))) low (pos (denominator ten unit)) l.low zero in
    let above = mul_mono high (pos (bound_of unit)) (pos (denominator ten unit)) h.high zero in
    let flip = neg_mul (pos (bound_of unit)) (pos (denominator ten unit)) in
    let product : pos (bound_of unit) *ℤ pos (denominator ten unit) ≡ pos (bound_of unit * denominator ten unit) = refl in
    let most : unsigned_abs (numerator digits ten unit) ≤ bound_of unit * denominator ten unit =
    amount_low (bound_of unit * denominator ten unit) (numerator digits ten unit)
    (omega (arith, ints, below, flip, product, lies.from)) (omega (arith, ints, above, product, lies.to)) in
    omega (arith, passes, most)
