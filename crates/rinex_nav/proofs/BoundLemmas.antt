-- Fields inside and outside their bounds.
use Rattle.std.proofs.Common.{◌≡◌, ℕ, ◌+◌, ◌-◌, arith, sym, subst, List, inl, inr, Some, slice_get, ◌↔◌}
use Rattle.std.specs.Prelude.{ℤ, pos, ◌+ℤ◌, ◌*ℤ◌, ◌≤ℤ◌, ◌<ℤ◌}
use Rattle.std.proofs.Math.Nat.{eq-or-lt_of_le}
use Rattle.std.proofs.lemmas.Int.{ints, by_lt_z}
use Rattle.exact_decimal.specs.Units.{numerator, denominator, LiesBetween}
use Rattle.exact_decimal.specs.declared.decimal.Decimal.{Decimal}
use Rattle.exact_decimal.specs.declared.unit.Unit.{Unit}
use Rattle.exact_decimal.specs.declared.unit.Unit.TheVariants.{Time}
use Rattle.exact_decimal.proofs.Limits.{below_floor, some_parts}
use Rattle.gnss_model.specs.RecordBounds.{LiesFrom}
use Rattle.grid_model.specs.Rounding.{IsFloor, IsCeiling}
use Rattle.grid_model.specs.declared.spans.Wide.{Wide}
use Rattle.grid_model.proofs.ProductLemmas.{add_mul, mul_lt_back}
use Rattle.rinex_nav.specs.FieldBounds.{Between, field_bounds, field_of, IsInside, AreInsideBefore}
use Rattle.rinex_nav.specs.ElementsOf.{IsRounded, Holds}

pub one_more : (fields : List Decimal) (k : ℕ) → AreInsideBefore fields k → IsInside fields k
    → AreInsideBefore fields (k + 1)
one_more fields k before is j from under = elim (eq-or-lt_of_le {n = j} {m = k} (omega arith)) [
  | inl same ↦ subst (IsInside fields) (sym same) is
  | inr less ↦ before j from less
]

-- a field whose row of the table is known
pub inside_row : (fields : List Decimal) (k : ℕ) (unit : Unit) (low high : ℤ)
    → slice_get field_bounds (k - 1) ≡ Some (Between unit low high)
    → IsInside fields k ↔ LiesBetween (field_of fields k).digits (field_of fields k).ten unit low high
inside_row fields k unit low high row = (λ h. rw row at h, λ h. rw row h)

pub holds_row : (fields : List Decimal) (k : ℕ) (unit : Unit) (low high : ℤ) (field : Wide)
    → slice_get field_bounds (k - 1) ≡ Some (Between unit low high)
    → IsRounded field (field_of fields k) unit → LiesFrom low high field → Holds fields k field
holds_row fields k unit low high field row rounded lies = rw row (rounded, lies)

-- the floor and the ceiling are at most one unit apart
pub narrow : (num den lo hi : ℤ) → pos 0 <ℤ den → IsFloor num den lo → IsCeiling num den hi
    → hi ≤ℤ (lo +ℤ pos 1)
narrow num den lo hi some f c =
    let under : (hi *ℤ den) <ℤ ((lo +ℤ pos 2) *ℤ den) = omega (arith, ints, add_mul lo (pos 2) den, f.gt, c.lt) in
    let less : hi <ℤ (lo +ℤ pos 2) = mul_lt_back hi (lo +ℤ pos 2) den some under in
    omega (arith, ints, less)

-- under a whole number is what has its floor there
pub under_floor : (number : Decimal) (high q : ℤ)
    → IsFloor (numerator number.digits number.ten Time) (pos (denominator number.ten Time)) q
    → (q <ℤ high) ↔ (numerator number.digits number.ten Time <ℤ (high *ℤ pos (denominator number.ten Time)))
under_floor number high q f =
    let some = some_parts number.ten Time in
    let same = below_floor (numerator number.digits number.ten Time) (pos (denominator number.ten Time)) high q some f in (
      λ h. by_lt_z _ _ (λ (l : numerator number.digits number.ten Time <ℤ (high *ℤ pos (denominator number.ten Time))). l) (λ g. let no = same.1 g in absurd (omega (arith, ints, h, no))),
      λ h. by_lt_z _ _ (λ (l : q <ℤ high). l) (λ g. let no = same.0 g in absurd (omega (arith, ints, h, no))),
    )
