-- The elements of a record: its fields in whole units.
use Rattle.std.specs.Prelude.{ℕ, ◌-◌, ◌≡◌, pos, ◌<ℤ◌, List, slice_get, IfSome}
use Rattle.exact_decimal.specs.Units.{numerator, denominator}
use Rattle.exact_decimal.specs.declared.decimal.Decimal.{Decimal}
use Rattle.exact_decimal.specs.declared.unit.Unit.{Unit}
use Rattle.exact_decimal.specs.declared.unit.Unit.TheVariants.{Length, Ratio, Rate, Drift, Time}
use Rattle.exact_decimal.specs.declared.unit.Unit.TheVariants.{Clock, RootA}
use Rattle.gnss_model.specs.RecordBounds.{LiesFrom}
use Rattle.grid_model.specs.Rounding.{IsFloor, IsCeiling}
use Rattle.gnss_model.specs.declared.elements.Elements.{Elements}
use Rattle.grid_model.specs.declared.spans.Wide.{Wide}
use Rattle.rinex_nav.specs.FieldBounds.{FieldBound, Between, Under, field_bounds, field_of}
use Rattle.rinex_nav.specs.Weeks.{IsNearestWeek}
use Rattle.rinex_nav.specs.declared.record.NavRecord.{NavRecord}

-- the field holds the floor and the ceiling of the number in the unit
pub record IsRounded (field : Wide) (number : Decimal) (unit : Unit) : Type 0 where
  pub floor : IsFloor (numerator number.digits number.ten unit)
      (pos (denominator number.ten unit)) field.lo
  pub ceiling : IsCeiling (numerator number.digits number.ten unit)
      (pos (denominator number.ten unit)) field.hi

-- the field holds the number in its unit, within its bounds
abbrev pub HoldsIn : Wide → Decimal → FieldBound → Type 0
HoldsIn field number (Between unit low high) = IsRounded field number unit × LiesFrom low high field
HoldsIn field number (Under unit high) =
    IsRounded field number unit × LiesFrom (pos 0) high field × (field.lo <ℤ high)

abbrev pub Holds : List Decimal → ℕ → Wide → Type 0
Holds fields k field = IfSome (slice_get field_bounds (k - 1)) (HoldsIn field (field_of fields k))

-- the elements of the record
pub record AreElements (r : NavRecord) (el : Elements) : Type 0 where
  pub toc : el.toc ≡ r.toc
  pub week_start : IsNearestWeek r.toc el.toe_week.lo el.week_start
  pub af0 : IsRounded el.af0 (field_of r.fields 1) Clock
  pub af1 : IsRounded el.af1 (field_of r.fields 2) Rate
  pub af2 : IsRounded el.af2 (field_of r.fields 3) Drift
  pub crs : IsRounded el.crs (field_of r.fields 4) Length
  pub dn : IsRounded el.dn (field_of r.fields 5) Rate
  pub m0 : IsRounded el.m0 (field_of r.fields 6) Ratio
  pub cuc : IsRounded el.cuc (field_of r.fields 7) Ratio
  pub e : IsRounded el.e (field_of r.fields 8) Ratio
  pub cus : IsRounded el.cus (field_of r.fields 9) Ratio
  pub root_a : IsRounded el.root_a (field_of r.fields 10) RootA
  pub toe_week : IsRounded el.toe_week (field_of r.fields 11) Time
  pub cic : IsRounded el.cic (field_of r.fields 12) Ratio
  pub om0 : IsRounded el.om0 (field_of r.fields 13) Ratio
  pub cis : IsRounded el.cis (field_of r.fields 14) Ratio
  pub i0 : IsRounded el.i0 (field_of r.fields 15) Ratio
  pub crc : IsRounded el.crc (field_of r.fields 16) Length
  pub omega : IsRounded el.omega (field_of r.fields 17) Ratio
  pub om_dot : IsRounded el.om_dot (field_of r.fields 18) Rate
  pub idot : IsRounded el.idot (field_of r.fields 19) Rate
  pub tgd : IsRounded el.tgd (field_of r.fields 20) Clock
