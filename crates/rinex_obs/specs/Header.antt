-- The header lines of an observation file that are read (RINEX 3.05, table A2), and what they are
-- read for: where the wanted codes of each system stand on a satellite's line, and the approximate
-- position.
use Rattle.std.specs.Prelude.{ℕ, ◌≡◌, ◌⊎◌, ◌+◌, ℤ, pos, neg_ℤ, Bool, true, false, List, [], ◌∷◌}
use Rattle.std.specs.Prelude.{Option, None, Some, is_some, IsSome, Result, Err, codes}
use Rattle.std.specs.List.{list_all}
use Rattle.exact_decimal.specs.NumberFields.{is_blank, AreBlanks, IsFixed}
use Rattle.exact_decimal.specs.Units.{numerator, denominator, LiesBetween}
use Rattle.exact_decimal.specs.declared.decimal.Decimal.{Decimal}
use Rattle.exact_decimal.specs.declared.unit.Unit.TheVariants.{Length}
use Rattle.rinex_text.specs.Columns.{columns_of, label_of}
use Rattle.rinex_text.specs.Faults.{refusal, test, where_holds, read, then, gives, line_gives}
use Rattle.rinex_text.specs.Headers.{Behind, IsShort, IsHeaderEnd}
use Rattle.rinex_text.specs.Lines.{TextLine}
use Rattle.rinex_text.specs.declared.fault.Fault.{Fault}
use Rattle.rinex_text.specs.declared.fault.Fault.TheVariants as fault
use Rattle.rinex_text.specs.declared.fault.Refusal.{Refusal}
use Rattle.grid_model.specs.Rounding.{IsFloor}
use Rattle.grid_model.specs.declared.boxes.Pos.{Pos}
use Rattle.gnss_model.specs.declared.satellites.Signal.{Signal}
use Rattle.gnss_model.specs.declared.satellites.Signal.TheVariants.{Single, Dual}
use Rattle.rinex_obs.specs.Types.{Code, Types, IsOfRead, types_line, galileo_line, AreComplete}
use Rattle.rinex_obs.specs.Types.{codes_of, place_of}
use Rattle.rinex_obs.specs.declared.sought.Sought.{Sought}

-- ---- the position

-- a fixed field: none where it is blank
abbrev pub IsFixedField : List ℕ → Option Decimal → Type 0
IsFixedField field None = AreBlanks field
IsFixedField field (Some number) = IsFixed field number.digits number.ten

-- x, y and z in m
abbrev pub Coordinates : Type 0
Coordinates = Decimal × Decimal × Decimal

-- where one of the coordinates is blank there are none
abbrev pub all_three : Option Decimal → Option Decimal → Option Decimal → Option Coordinates
all_three (Some x) (Some y) (Some z) = Some (x, y, z)
all_three (Some x) (Some y) None = None
all_three (Some x) None z = None
all_three None y z = None

-- the coordinates of a line, in columns 1 to 14, 15 to 28 and 29 to 42
abbrev pub position_line : List ℕ → Result (Option Coordinates) Fault → Type 0
position_line text =
    read (IsFixedField (columns_of text 1 14)) fault.BadNumber (λ x.
    read (IsFixedField (columns_of text 15 28)) fault.BadNumber (λ y.
    read (IsFixedField (columns_of text 29 42)) fault.BadNumber (λ z.
    gives (all_three x y z))))

-- a coordinate within 8,500 km, rounded down to um
pub record IsCoordinate (number : Decimal) (um : ℤ) : Type 0 where
  pub within : LiesBetween number.digits number.ten Length (neg_ℤ (pos 8500000000000))
      (pos 8500000000000)
  pub floor : IsFloor (numerator number.digits number.ten Length)
      (pos (denominator number.ten Length)) um

-- the point with these coordinates
pub record IsPoint (coordinates : Coordinates) (point : Pos) : Type 0 where
  pub x : IsCoordinate coordinates.0 point.x
  pub y : IsCoordinate coordinates.1 point.y
  pub z : IsCoordinate coordinates.2 point.z

-- the position, where it is wanted
abbrev pub IsPosition : Bool → Option Coordinates → Option Pos → Type 0
IsPosition false coordinates None = Unit {0}
IsPosition false coordinates (Some point) = ⊥
IsPosition true (Some coordinates) (Some point) = IsPoint coordinates point
IsPosition true (Some coordinates) None = ⊥
IsPosition true None point = ⊥

-- ---- the lines

-- what is known behind some of the lines
pub record Header : Type 0 where
  pub gps : Option Types
  pub galileo : Option Types
  pub position : Option Coordinates

abbrev pub IsLabelled : List ℕ → TextLine → Type 0
IsLabelled label line = label_of line.text ≡ label

-- GPS time, or blank
abbrev pub IsTimeSystem : List ℕ → Type 0
IsTimeSystem field = (field ≡ codes "GPS") ⊎ (list_all is_blank field ≡ true)

-- what is known behind a line of types
abbrev pub types_behind : Bool → Header → List ℕ → Result Header Fault → Type 0
types_behind both header text =
    then (types_line 71 header.gps text) (λ gps.
    then (galileo_line both header.galileo text) (λ galileo.
    gives (record { gps = gps; galileo = galileo; position = header.position })))

-- A line with another label than that of the end. All but these four are passed over, and so is the
-- position where it isn't wanted. The last position counts.
abbrev pub header_line : Bool → Bool → Header → TextLine → Result Header Fault → Type 0
header_line both position header line =
    where_holds (IsLabelled (codes "SYS / # / OBS TYPES") line) (types_behind both header line.text)
    (where_holds (IsLabelled (codes "TIME OF FIRST OBS") line)
    (test (IsTimeSystem (columns_of line.text 49 51)) fault.TimeSystem (gives header))
    (where_holds (IsLabelled (codes "SYS / SCALE FACTOR") line)
    (test (IsOfRead both line.text → ⊥) fault.ScaleFactor (gives header))
    (where_holds (IsLabelled (codes "APPROX POSITION XYZ") line × (position ≡ true))
    (then (position_line line.text)
    (λ coordinates. gives
    (record { gps = header.gps; galileo = header.galileo; position = coordinates })))
    (gives header))))

-- both systems are read where there are codes of Galileo too
abbrev pub are_both : Sought → Bool
are_both sought = is_some sought.galileo

-- the places of wanted codes among the types of a system
pub record CodePlaces : Type 0 where
  pub first : ℕ
  pub second : Option ℕ

abbrev pub ArePlaces : Signal → List Code → CodePlaces → Type 0
ArePlaces (Single code) codes places =
    (place_of code codes ≡ Some places.first) × (places.second ≡ None)
ArePlaces (Dual first second) codes places =
    (place_of first codes ≡ Some places.first) × (place_of second codes ≡ places.second)
    × IsSome places.second

-- there are some exactly where there are wanted codes
abbrev pub MayBePlaces : Option Signal → List Code → Option CodePlaces → Type 0
MayBePlaces None codes places = places ≡ None
MayBePlaces (Some signal) codes None = ⊥
MayBePlaces (Some signal) codes (Some places) = ArePlaces signal codes places

-- the places of the wanted codes of each system
pub record Wanted : Type 0 where
  pub gps : CodePlaces
  pub galileo : Option CodePlaces

-- both systems are read
abbrev pub have_both : Wanted → Bool
have_both wanted = is_some wanted.galileo

pub record AreWanted (sought : Sought) (gps galileo : List Code) (wanted : Wanted) : Type 0 where
  pub of_gps : ArePlaces sought.gps gps wanted.gps
  pub of_galileo : MayBePlaces sought.galileo galileo wanted.galileo

-- what the end of the header gives
abbrev pub header_end : Sought → Bool → Header → Result (Wanted × Option Pos) Fault → Type 0
header_end sought position header =
    test (AreComplete header.gps × AreComplete header.galileo) fault.BadCount
    (read (AreWanted sought (codes_of header.gps) (codes_of header.galileo)) fault.CodeAbsent
    (λ wanted.
    read (IsPosition position header.position) fault.NoPosition (λ point.
    gives (wanted, point))))

-- ---- the header

-- what a header gives, and what stands behind it
pub record Start : Type 0 where
  pub wanted : Wanted
  pub position : Option Pos
  pub behind : Behind

-- the lines from a number on, up to the first that ends the header
abbrev pub header_lines : Sought → Bool → Header → ℕ → List TextLine → Result Start Refusal → Type 0
header_lines sought position header number [] answer =
    answer ≡ Err (refusal fault.NoEndOfHeader number)
header_lines sought position header number (line ∷ more) answer =
    test (IsShort line) (refusal fault.LongLine number)
    (where_holds (IsHeaderEnd line)
    (line_gives (header_end sought position header) number (λ end.
    gives (record {
      wanted = end.0;
      position = end.1;
      behind = record { number = number + 1; lines = more };
    })))
    (line_gives (header_line (are_both sought) position header line) number (λ next.
    header_lines sought position next (number + 1) more)))
    answer
