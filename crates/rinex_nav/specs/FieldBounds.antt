-- The twenty fields of a record that are used, with their units and bounds. IS-GPS-200 (tables 20-I
-- and 20-III) gives the fields; the bounds are wide of what GPS satellites send.
use Rattle.std.specs.Prelude.{ℕ, ◌-◌, ◌<◌, ◌≤◌, ℤ, pos, neg_ℤ, ◌*ℤ◌, ◌≤ℤ◌, ◌<ℤ◌, List, [], ◌∷◌}
use Rattle.std.specs.Prelude.{slice_get, unwrap_or, IfSome}
use Rattle.exact_decimal.specs.Units.{numerator, denominator, LiesBetween}
use Rattle.exact_decimal.specs.declared.decimal.Decimal.{Decimal}
use Rattle.exact_decimal.specs.declared.unit.Unit.{Unit}
use Rattle.exact_decimal.specs.declared.unit.Unit.TheVariants.{Length, Ratio, Rate, Drift, Time}
use Rattle.exact_decimal.specs.declared.unit.Unit.TheVariants.{Clock, RootA}
use Rattle.gnss_model.specs.RecordBounds.{offset_bound, drift_bound, ageing_bound, delay_bound}
use Rattle.gnss_model.specs.RecordBounds.{angle_bound, rate_bound, angle_swing_bound}
use Rattle.gnss_model.specs.RecordBounds.{radius_swing_bound, eccentricity_bound, least_root_a}
use Rattle.gnss_model.specs.RecordBounds.{greatest_root_a, week}
use Rattle.rinex_nav.specs.Fields.{zero_decimal}

-- ---- the table

-- from one number of units to another, or from 0 to under a number of units
pub data FieldBound : Type 0 where
  Between : Unit → ℤ → ℤ → FieldBound
  Under : Unit → ℤ → FieldBound

-- a bound on the amount
abbrev pub within : Unit → ℕ → FieldBound
within unit bound = Between unit (neg_ℤ (pos bound)) (pos bound)

-- the bounds of fields 1 to 20: af0, af1, af2; Crs, dn, M0; Cuc, e, Cus, sqrtA; toe, Cic, Om0, Cis;
-- i0, Crc, omega, OmDot; IDOT; TGD
abbrev pub field_bounds : List FieldBound
field_bounds =
    within Clock offset_bound
    ∷ within Rate drift_bound
    ∷ within Drift ageing_bound
    ∷ within Length radius_swing_bound
    ∷ within Rate rate_bound
    ∷ within Ratio angle_bound
    ∷ within Ratio angle_swing_bound
    ∷ Between Ratio (pos 0) (pos eccentricity_bound)
    ∷ within Ratio angle_swing_bound
    ∷ Between RootA (pos least_root_a) (pos greatest_root_a)
    ∷ Under Time (pos week)
    ∷ within Ratio angle_swing_bound
    ∷ within Ratio angle_bound
    ∷ within Ratio angle_swing_bound
    ∷ within Ratio angle_bound
    ∷ within Length radius_swing_bound
    ∷ within Ratio angle_bound
    ∷ within Rate rate_bound
    ∷ within Rate rate_bound
    ∷ within Clock delay_bound
    ∷ []

-- ---- fields within and outside their bounds

-- the number is from 0 to under so many units
pub record LiesUnder (number : Decimal) (unit : Unit) (high : ℤ) : Type 0 where
  pub from : pos 0 ≤ℤ numerator number.digits number.ten unit
  pub under : numerator number.digits number.ten unit <ℤ (high *ℤ pos (denominator number.ten unit))

abbrev pub LiesIn : Decimal → FieldBound → Type 0
LiesIn number (Between unit low high) = LiesBetween number.digits number.ten unit low high
LiesIn number (Under unit high) = LiesUnder number unit high

-- the field with a number from 1
abbrev pub field_of : List Decimal → ℕ → Decimal
field_of fields k = unwrap_or (slice_get fields (k - 1)) zero_decimal

abbrev pub IsInside : List Decimal → ℕ → Type 0
IsInside fields k = IfSome (slice_get field_bounds (k - 1)) (LiesIn (field_of fields k))

-- all fields before one are inside their bounds
abbrev pub AreInsideBefore : List Decimal → ℕ → Type 0
AreInsideBefore fields k = (j : ℕ) → 1 ≤ j → j < k → IsInside fields j

abbrev pub AreInside : List Decimal → Type 0
AreInside fields = AreInsideBefore fields 21

-- of the fields this is the first outside its bounds
pub record IsFirstOutside (fields : List Decimal) (k : ℕ) : Type 0 where
  pub from : 1 ≤ k
  pub to : k ≤ 20
  pub before : AreInsideBefore fields k
  pub outside : ¬ IsInside fields k
