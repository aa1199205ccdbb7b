-- What the data of a Galileo record come from. Its bits, from the lowest: 0 I/NAV on E1, 1 F/NAV on
-- E5a, 2 I/NAV on E5b; 8 clock for E1 and E5a, 9 clock for E1 and E5b (RINEX 3.05, table A8). And
-- its health, by bits too: 0 to 2 of E1, 3 to 5 of E5a, 6 to 8 of E5b.
use Rattle.std.specs.Prelude.{ℕ, ◌≡◌, ◌⊎◌, ◌↔◌, ◌*◌, ◌/◌, ◌%◌, ◌^◌, ◌≤◌, ◌==◌, ◌&&◌, pos, ◌*ℤ◌}
use Rattle.std.specs.Prelude.{ℤ, zero, suc, negsuc, Bool, true, false, IsTrue, Option, None, Some}
use Rattle.exact_decimal.specs.Units.{numerator, denominator}
use Rattle.exact_decimal.specs.declared.decimal.Decimal.{Decimal}
use Rattle.exact_decimal.specs.declared.unit.Unit.TheVariants.{Length}
use Rattle.gnss_model.specs.declared.satellites.Sat.{Sat}
use Rattle.gnss_model.specs.declared.systems.Message.{Message}
use Rattle.gnss_model.specs.declared.systems.Message.TheVariants.{Fnav, Inav}

-- the number is a whole one from 0 to 1,023; it is compared in 10^-6
pub record IsWhole (number : Decimal) (value : ℕ) : Type 0 where
  pub at_most : value ≤ 1023
  pub is : numerator number.digits number.ten Length ≡ pos (value * 10 ^ 6)
      *ℤ pos (denominator number.ten Length)

-- the bits of F/NAV on E5a and of the clock for E1 and E5a are set
pub record IsFnav (source : Decimal) : Type 0 where
  pub value : ℕ
  pub value_is : IsWhole source value
  pub orbit : value / 2 % 2 ≡ 1
  pub clock : value / 256 % 2 ≡ 1

-- One of the bits of I/NAV is set, or both, and that of the clock for E1 and E5b; those of F/NAV and
-- of the other clock aren't. The clock's bits exclude each other, so a record with both doesn't tell
-- which its clock is, and one of both messages doesn't tell which its orbit is.
pub record IsInav (source : Decimal) : Type 0 where
  pub value : ℕ
  pub value_is : IsWhole source value
  pub orbit : (value % 2 ≡ 1) ⊎ (value / 4 % 2 ≡ 1)
  pub clock : value / 512 % 2 ≡ 1
  pub no_fnav : value / 2 % 2 ≡ 0
  pub no_other : value / 256 % 2 ≡ 0

-- the record is of the message whose records are kept
abbrev pub IsOf : Option Message → Decimal → Type 0
IsOf None source = ⊥
IsOf (Some Fnav) source = IsFnav source
IsOf (Some Inav) source = IsInav source

-- of Galileo records those of one message are kept, and all of GPS
abbrev pub IsKept : Option Message → Sat → Decimal → Type 0
IsKept galileo sat source = sat.system ≡ 69 → IsOf galileo source

-- ---- the health

abbrev pub is_message_inav : Option Message → Bool
is_message_inav None = false
is_message_inav (Some Fnav) = false
is_message_inav (Some Inav) = true

-- the letter is that of Galileo, whose records of I/NAV are kept
abbrev pub is_inav : Option Message → ℕ → Bool
is_inav galileo system = is_message_inav galileo && system == 69

abbrev pub is_zero : ℤ → Bool
is_zero (pos zero) = true
is_zero (pos (suc n)) = false
is_zero (negsuc n) = false

-- the bits of E1 and E5b are clear, and so are those behind them, which have no meaning
pub record AreClear (health : Decimal) : Type 0 where
  pub value : ℕ
  pub value_is : IsWhole health value
  pub first : value % 8 ≡ 0
  pub second : value / 64 ≡ 0

-- a satellite is healthy where its health is zero; by I/NAV, where the bits of E1 and E5b are clear
abbrev pub IsHealthy : Bool → Decimal → Bool → Type 0
IsHealthy false health healthy = healthy ≡ is_zero health.digits
IsHealthy true health healthy = IsTrue healthy ↔ AreClear health
