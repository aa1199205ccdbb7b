-- The fields on the lines of a navigation record (RINEX 3.04, table A6).
use Rattle.std.specs.Prelude.{ℕ, ◌≡◌, ◌⊎◌, ◌+◌, ◌*◌, ℤ, pos, Bool, true, false, List}
use Rattle.exact_decimal.specs.Counts.{IsCount}
use Rattle.exact_decimal.specs.NumberFields.{AreBlanks, IsFloating}
use Rattle.exact_decimal.specs.declared.decimal.Decimal.{Decimal}
use Rattle.rinex_text.specs.Columns.{columns_of}
use Rattle.rinex_text.specs.Dates.{IsGpsTime, gps_time}
use Rattle.rinex_nav.specs.Sources.{IsHealthy}

-- a blank field is zero
abbrev pub zero_decimal : Decimal
zero_decimal = record { digits = pos 0; ten = pos 0 }

abbrev pub IsField : List ℕ → Decimal → Type 0
IsField field number = (AreBlanks field × (number ≡ zero_decimal))
    ⊎ IsFloating field number.digits number.ten

-- the field of 19 columns that begins in a column
abbrev pub FieldAt : List ℕ → ℕ → Decimal → Type 0
FieldAt text first number = IsField (columns_of text first (first + 18)) number

abbrev pub Two : Type 0
Two = Decimal × Decimal

abbrev pub Three : Type 0
Three = Decimal × Decimal × Decimal

abbrev pub Four : Type 0
Four = Decimal × Decimal × Decimal × Decimal

abbrev pub LastFields : List ℕ → Three → Type 0
LastFields text numbers = FieldAt text 24 numbers.0 × FieldAt text 43 numbers.1
    × FieldAt text 62 numbers.2

-- a Galileo record tells behind its first field what its data come from; else zero stands for it
abbrev pub IsSource : ℕ → List ℕ → Decimal → Type 0
IsSource system text source = ((system ≡ 69) × FieldAt text 24 source)
    ⊎ ((system ≡ 69 → ⊥) × (source ≡ zero_decimal))

abbrev pub SourceFields : ℕ → List ℕ → Two → Type 0
SourceFields system text numbers = FieldAt text 5 numbers.0 × IsSource system text numbers.1

abbrev pub AllFields : List ℕ → Four → Type 0
AllFields text numbers = FieldAt text 5 numbers.0 × FieldAt text 24 numbers.1
    × FieldAt text 43 numbers.2 × FieldAt text 62 numbers.3

-- The group delay is the third field of its line: T_GD of GPS, BGD(E1,E5a) of Galileo. By I/NAV it
-- is the fourth, BGD(E1,E5b).
abbrev pub delay_column : Bool → ℕ
delay_column false = 43
delay_column true = 62

-- whether the satellite is healthy, by the second field, and its group delay
abbrev pub Health : Type 0
Health = Bool × Decimal

abbrev pub HealthFields : Bool → List ℕ → Health → Type 0
HealthFields inav text given = (health : Decimal) × FieldAt text 24 health
    × IsHealthy inav health given.0 × FieldAt text (delay_column inav) given.1

-- the clock time, from its year, month, day, hour, minute and second
pub record IsClockTime (text : List ℕ) (toc : ℤ) : Type 0 where
  pub year : ℕ
  pub month : ℕ
  pub day : ℕ
  pub hour : ℕ
  pub minute : ℕ
  pub second : ℕ
  pub year_is : IsCount (columns_of text 5 8) year
  pub month_is : IsCount (columns_of text 10 11) month
  pub day_is : IsCount (columns_of text 13 14) day
  pub hour_is : IsCount (columns_of text 16 17) hour
  pub minute_is : IsCount (columns_of text 19 20) minute
  pub second_is : IsCount (columns_of text 22 23) second
  pub time : IsGpsTime year month day hour minute (second * 10000000)
  pub value : toc ≡ pos (gps_time year month day hour minute (second * 10000000))
