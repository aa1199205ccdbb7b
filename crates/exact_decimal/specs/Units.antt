-- A decimal in a unit: the exact value as a fraction, and its floor and ceiling.
use Rattle.std.specs.Prelude.{ℕ, ◌+◌, ◌*◌, ◌^◌, ◌<◌, ◌≤◌, ℤ, pos, ◌+ℤ◌, ◌*ℤ◌, ◌≤ℤ◌, unsigned_abs}
use Rattle.std.specs.Prelude.{Option, None, Some}
use borrow.Author.Differences.{up, down}
use Rattle.exact_decimal.specs.declared.unit.Unit.{Unit}
use Rattle.exact_decimal.specs.declared.unit.Unit.TheVariants.{Length, Ratio, Rate, Drift, Time}
use Rattle.exact_decimal.specs.declared.unit.Unit.TheVariants.{Clock, RootA}

-- one unit is a ten to the power of minus this many: of m, one, 1/s, 1/s^2, s, s and m^(1/2)
abbrev pub decimals_of : Unit → ℕ
decimals_of Length = 6
decimals_of Ratio = 16
decimals_of Rate = 22
decimals_of Drift = 28
decimals_of Time = 12
decimals_of Clock = 16
decimals_of RootA = 12

-- the greatest amount in units: 10^9 m, 64, 10^-3 per s, 10^-10 per s^2, 10^7 s, 1 s, 10^4 m^(1/2)
abbrev pub bound_of : Unit → ℕ
bound_of Length = 10 ^ 15
bound_of Ratio = 64 * 10 ^ 16
bound_of Rate = 10 ^ 19
bound_of Drift = 10 ^ 18
bound_of Time = 10 ^ 19
bound_of Clock = 10 ^ 16
bound_of RootA = 10 ^ 16

-- digits * 10 ^ ten in the unit is a fraction: the power of ten that multiplies the digits, where
-- the number is whole, and the one that divides them, where it is not
abbrev pub shift_of : ℤ → Unit → ℤ
shift_of ten unit = ten +ℤ pos (decimals_of unit)

abbrev pub numerator : ℤ → ℤ → Unit → ℤ
numerator digits ten unit = digits *ℤ pos (10 ^ up (shift_of ten unit))

abbrev pub denominator : ℤ → Unit → ℕ
denominator ten unit = 10 ^ down (shift_of ten unit)

-- the amount of the fraction passes the unit's bound
abbrev pub PassesBound : ℤ → ℤ → Unit → Type 0
PassesBound digits ten unit =
    bound_of unit * denominator ten unit < unsigned_abs (numerator digits ten unit)

-- floor and ceiling of num / den
pub record IsRounded (num den floor ceiling : ℕ) : Type 0 where
  pub floor_le : floor * den ≤ num
  pub floor_gt : num < floor * den + den
  pub ceiling_ge : num ≤ ceiling * den
  pub ceiling_lt : ceiling * den < num + den

-- these are the answer, unless the fraction passes the bound
abbrev pub RoundsWithin : ℕ → ℕ → ℕ → Option (ℕ × ℕ) → Type 0
RoundsWithin num den bound None = bound * den < num
RoundsWithin num den bound (Some (floor, ceiling)) =
    (num ≤ bound * den) × IsRounded num den floor ceiling

-- the number lies from low to high units
pub record LiesBetween (digits ten : ℤ) (unit : Unit) (low high : ℤ) : Type 0 where
  pub from : (low *ℤ pos (denominator ten unit)) ≤ℤ numerator digits ten unit
  pub to : numerator digits ten unit ≤ℤ (high *ℤ pos (denominator ten unit))
