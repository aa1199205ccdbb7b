-- Where a row may fit, where it surely fits, and where all but at most q rows do.
use Rattle.std.specs.Prelude.{ℕ, zero, suc, ◌⊎◌, ℤ, pos, ◌-ℤ◌, ◌≤ℤ◌, List, [], ◌∷◌}
use Rattle.sat_model.specs.declared.rows.Row.{Row}
use Rattle.grid_model.specs.declared.boxes.Pos.{Pos}
use Rattle.grid_model.specs.Boxes.{Side}
use Rattle.grid_model.specs.Ranges.{range_to}

-- a satellite's place and corrected pseudorange within the spans of a row
pub record RowValue (row : Row) : Type 0 where
  pub x : ℤ
  pub y : ℤ
  pub z : ℤ
  pub measured : ℤ
  pub x_in : (row.x.lo ≤ℤ x) × (x ≤ℤ row.x.hi)
  pub y_in : (row.y.lo ≤ℤ y) × (y ≤ℤ row.y.hi)
  pub z_in : (row.z.lo ≤ℤ z) × (z ≤ℤ row.z.hi)
  pub measured_in : (row.range.lo ≤ℤ measured) × (measured ≤ℤ row.range.hi)

-- what the measurement leaves of the error at point p and clock offset b
abbrev pub error_of : (row : Row) → RowValue row → Pos → ℤ → ℤ
error_of row v p b = v.measured -ℤ pos (range_to v.x v.y v.z p) -ℤ b

-- The error's lower bound lies in `low_bounds`, its upper bound in `high_bounds`; they are spans
-- since the bounds depend on the point.
abbrev pub low_bounds : Row → Side
low_bounds row = record { lo = row.err.lo; hi = row.sure_lo }

abbrev pub high_bounds : Row → Side
high_bounds row = record { lo = row.sure_hi; hi = row.err.hi }

-- by some of these ends
abbrev pub IsAllowed : Row → ℤ → Type 0
IsAllowed row error = (row.err.lo ≤ℤ error) × (error ≤ℤ row.err.hi)

-- by all of them
abbrev pub IsSurelyAllowed : Row → ℤ → Type 0
IsSurelyAllowed row error = (row.sure_lo ≤ℤ error) × (error ≤ℤ row.sure_hi)

-- some values of the row's spans leave an allowed error
pub record IsPossible (p : Pos) (b : ℤ) (row : Row) : Type 0 where
  pub value : RowValue row
  pub allowed : IsAllowed row (error_of row value p b)

-- all values of the row's spans leave an error that is surely allowed
abbrev pub IsSure : Pos → ℤ → Row → Type 0
IsSure p b row = (value : RowValue row) → IsSurelyAllowed row (error_of row value p b)

-- all of them but at most q meet the fact
abbrev pub AllBut : {A : Type 0} → ℕ → (A → Type 0) → List A → Type 0
AllBut q Meets [] = Unit {0}
AllBut zero Meets (one ∷ more) = Meets one × AllBut zero Meets more
AllBut (suc q) Meets (one ∷ more) = (Meets one × AllBut (suc q) Meets more) ⊎ AllBut q Meets more
