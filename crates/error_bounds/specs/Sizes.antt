-- What each value of the settings keeps to. Lengths are in um.
use Rattle.std.specs.Prelude.{◌≡◌, ℕ, ◌+◌, ◌*◌, ◌^◌, ◌<◌, ◌≤◌, Option, ℤ, pos, ◌+ℤ◌, ◌*ℤ◌, Bool, false, ◌&&◌, ◌==◌, nat_le, List, [], ◌∷◌, length, ◌≤ℤ◌, slice_index_or}
use Rattle.std.specs.List.{All}
use Rattle.std.specs.Option.{ForSome}
use Rattle.grid_model.specs.Sizes.{IsWithin}
use Rattle.grid_model.specs.declared.boxes.Pos.{Pos}
use Rattle.gnss_model.specs.declared.satellites.Sat.{Sat}
use Rattle.gnss_model.specs.declared.satellites.Signal.{Signal}
use Rattle.gnss_model.specs.declared.satellites.Signal.TheVariants.{Single, Dual}
use Rattle.gnss_model.specs.declared.systems.Message.{Message}
use Rattle.gnss_model.specs.declared.systems.Message.TheVariants.{Fnav, Inav}
use Rattle.grid_model.specs.declared.spans.Span.{Span}
use Rattle.error_bounds.specs.declared.settings.Centre.{Centre}
use Rattle.error_bounds.specs.declared.settings.Centre.TheVariants.{At}

-- a point within 8,500 km of the origin on each axis
pub record IsNearEarth (p : Pos) : Type 0 where
  pub x : IsWithin 8500000000000 p.x
  pub y : IsWithin 8500000000000 p.y
  pub z : IsWithin 8500000000000 p.z

-- the centre, where it is a point
pub record IsCentre (centre : Centre) : Type 0 where
  pub near : (p : Pos) → centre ≡ At p → IsNearEarth p

-- from 1 mm to 100 km
pub record IsHalfSide (z : ℤ) : Type 0 where
  pub low : pos 1000 ≤ℤ z
  pub high : z ≤ℤ pos 100000000000

pub record AreHalfSides (half : Pos) : Type 0 where
  pub x : IsHalfSide half.x
  pub y : IsHalfSide half.y
  pub z : IsHalfSide half.z

-- both ends of one declared span are within 1 km, and those of a sum of four within 4 km
pub record IsSpanWithin (n : ℕ) (s : Span) : Type 0 where
  pub lo : IsWithin n s.lo
  pub hi : IsWithin n s.hi

abbrev pub IsDeclared : Span → Type 0
IsDeclared s = IsSpanWithin 1000000000 s

abbrev pub IsSumOfFour : Span → Type 0
IsSumOfFour s = IsSpanWithin 4000000000 s

-- a speed, where one is declared, is up to 1 km/s, in mm/s
abbrev pub IsSpeed : Option ℕ → Type 0
IsSpeed speed = ForSome speed (λ declared. declared ≤ 1000000)

-- how far from the origin a station stands: 6,600 km in um
abbrev pub station_reach : ℕ
station_reach = 66 * 10 ^ 11

-- ... at most
abbrev pub IsNearGround : Pos → Type 0
IsNearGround p = ((p.x *ℤ p.x) +ℤ (p.y *ℤ p.y) +ℤ (p.z *ℤ p.z))
    ≤ℤ pos (station_reach * station_reach)

-- the place of a station, where it is a point
pub record IsStationPlace (place : Centre) : Type 0 where
  pub near : (p : Pos) → place ≡ At p → IsNearGround p

-- the letters from A to Z
abbrev pub is_capital : ℕ → Bool
is_capital byte = nat_le 65 byte && nat_le byte 90

-- `C`, the digit of a band and a capital letter: the code of a pseudorange (RINEX 3, table A2)
abbrev pub is_code : ℕ → List ℕ → Bool
is_code band (kind ∷ digit ∷ letter ∷ []) = kind == 67 && (digit == band && is_capital letter)
is_code band _ = false

-- one code of the first band, or one of the first and one of the second
abbrev pub are_codes : Signal → Bool
are_codes (Single code) = is_code 49 code
are_codes (Dual first second) = is_code 49 first && is_code 50 second

-- one of the first band and one of this one
abbrev pub are_codes_on : ℕ → Signal → Bool
are_codes_on band (Single code) = false
are_codes_on band (Dual first second) = is_code 49 first && is_code band second

-- the digit of the other band of a message of Galileo: 5 is that of E5a, 7 that of E5b (RINEX 3,
-- table A2)
abbrev pub band_of : Message → ℕ
band_of Fnav = 53
band_of Inav = 55

-- one code on E1, or one there and one on the other band
abbrev pub are_codes_of : Message → Signal → Bool
are_codes_of message (Single code) = is_code 49 code
are_codes_of message (Dual first second) = are_codes_on (band_of message) (Dual first second)

-- each satellite's own span is a declared one
abbrev pub AreDeclared : List (Sat × Span) → Type 0
AreDeclared extra = All (λ e. IsDeclared e.1) extra

-- by the letter of the system, and then by the number, which is a byte
abbrev pub IsBefore : Sat → Sat → Type 0
IsBefore a b = 256 * a.system + a.number < 256 * b.system + b.number

-- satellites stand in this order, and so none is listed twice
abbrev pub IsAscending : List (Sat × Span) → Type 0
IsAscending extra =
    (i j : ℕ) (e : Sat × Span) → i < j → j < length extra
    → IsBefore (slice_index_or extra i e).0 (slice_index_or extra j e).0
