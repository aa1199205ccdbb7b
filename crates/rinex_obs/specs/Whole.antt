-- What an accepted observation file is as a whole (RINEX 3.05, tables A2 and A3): how its lines are
-- shared out, and which of them the types, the position, the epochs and their satellites come from.
-- The readers' definitions go from line to line; these speak of the whole list of lines.
use Rattle.std.specs.Prelude.{ℕ, zero, suc, ◌≡◌, ◌+◌, ◌-◌, min, Bool, true, false, nat_le}
use Rattle.std.specs.Prelude.{List, [], ◌∷◌, ◌++◌, length, Option, None, Some, Ok, codes}
use Rattle.std.specs.List.{AllByRecursion, filter, list_all}
use Rattle.std.specs.Str.{bytes_eq}
use Rattle.exact_decimal.specs.Counts.{IsCount}
use Rattle.rinex_text.specs.Bodies.{counted, is_printable}
use Rattle.rinex_text.specs.Columns.{column_of, columns_of, label_of}
use Rattle.rinex_text.specs.Counts.{IsNumber}
use Rattle.rinex_text.specs.Headers.{IsShort}
use Rattle.rinex_text.specs.Lines.{TextLine}
use Rattle.rinex_text.specs.Whole.{OneForOne, IsParted}
use Rattle.grid_model.specs.declared.boxes.Pos.{Pos}
use Rattle.gnss_model.specs.declared.satellites.Signal.{Signal}
use Rattle.rinex_obs.specs.Types.{Code, code_at, IsSolid, IsOf, IsOfRead, is_read, GoesOn}
use Rattle.rinex_obs.specs.Header.{Coordinates, position_line, IsPoint, IsLabelled, IsTimeSystem}
use Rattle.rinex_obs.specs.Header.{are_both, CodePlaces, Wanted, have_both, AreWanted}
use Rattle.rinex_obs.specs.Epochs.{IsTag, flag_of, IsFlag, IsLineCount, IsObserved, field_at}
use Rattle.rinex_obs.specs.Epochs.{IsSecond, ArePlacesOf, sat_on, Observed}
use Rattle.rinex_obs.specs.Files.{Observations, alone}
use Rattle.rinex_obs.specs.declared.sought.Sought.{Sought}
use Rattle.rinex_obs.specs.declared.obs.SatObs.{SatObs}

-- ---- the header

-- labelled `SYS / # / OBS TYPES`
abbrev pub is_types_line : TextLine → Bool
is_types_line line = bytes_eq (label_of line.text) (codes "SYS / # / OBS TYPES")

-- so many codes of a line, from a place on
abbrev pub codes_on : List ℕ → ℕ → ℕ → List Code
codes_on text place zero = []
codes_on text place (suc left) = code_at text place ∷ codes_on text (place + 1) left

-- so many codes of some lines, 13 on each but the last
abbrev pub codes_of_lines : ℕ → List TextLine → List Code
codes_of_lines count [] = []
codes_of_lines count (line ∷ more) =
    codes_on line.text 0 (min 13 count) ++ codes_of_lines (count - 13) more

-- The types of the system with this letter are those of all its lines, joined: of the line with the
-- letter and how many they are, and of those behind it that go on with them. No other line is of
-- the system.
pub record AreJoined (letter : ℕ) (typed : List TextLine) (types : List Code) : Type 0 where
  pub before : List TextLine
  pub line : TextLine
  pub more : List TextLine
  pub after : List TextLine
  pub spelled : typed ≡ before ++ line ∷ (more ++ after)
  pub others_before : AllByRecursion (λ other. IsOf letter other.text → ⊥) before
  pub of_system : IsOf letter line.text
  pub go_on : AllByRecursion (λ next. GoesOn next.text) more
  pub others_after : AllByRecursion (λ other. IsOf letter other.text → ⊥) after
  pub count_is : IsCount (columns_of line.text 4 6) (length types)
  pub types_are : types ≡ codes_of_lines (length types) (line ∷ more)

-- ... none of them blank
pub record AreTypes (letter : ℕ) (typed : List TextLine) (types : List Code) : Type 0 where
  pub joined : AreJoined letter typed types
  pub solid : AllByRecursion IsSolid types

-- those of Galileo, where both systems are read
abbrev pub AreGalileoTypes : Bool → List TextLine → List Code → Type 0
AreGalileoTypes false typed types = types ≡ []
AreGalileoTypes true typed types = AreTypes 69 typed types

abbrev pub IsPositionLine : TextLine → Type 0
IsPositionLine line = IsLabelled (codes "APPROX POSITION XYZ") line

-- the point of the last of the lines that are labelled so
pub record IsLastPosition (header : List TextLine) (point : Pos) : Type 0 where
  pub before : List TextLine
  pub line : TextLine
  pub behind : List TextLine
  pub spelled : header ≡ before ++ line ∷ behind
  pub labelled : IsPositionLine line
  pub last : AllByRecursion (λ next. IsPositionLine next → ⊥) behind
  pub coordinates : Coordinates
  pub are : position_line line.text (Ok (Some coordinates))
  pub point_is : IsPoint coordinates point

-- the position, where it is wanted
abbrev pub IsPositionOf : Bool → List TextLine → Option Pos → Type 0
IsPositionOf false header point = point ≡ None
IsPositionOf true header None = ⊥
IsPositionOf true header (Some point) = IsLastPosition header point

-- a line of the header isn't refused for its time system, its scale factors or its position
pub record IsFineInHeader (both position : Bool) (line : TextLine) : Type 0 where
  pub time : IsLabelled (codes "TIME OF FIRST OBS") line → IsTimeSystem (columns_of line.text 49 51)
  pub scale : IsLabelled (codes "SYS / SCALE FACTOR") line → IsOfRead both line.text → ⊥
  pub place : position ≡ true → IsPositionLine line → (at : Option Coordinates)
      × position_line line.text (Ok at)

-- ---- the parts of the body

-- a `>` line and the lines that it counts
pub record Part : Type 0 where
  pub head : TextLine
  pub lines : List TextLine

-- the lines of parts that stand one behind another
abbrev pub lines_of_parts : List Part → List TextLine
lines_of_parts [] = []
lines_of_parts (part ∷ more) = part.head ∷ (part.lines ++ lines_of_parts more)

-- a line of an event neither scales the codes of a system that is read nor changes the types
pub record IsFineInEvent (both : Bool) (line : TextLine) : Type 0 where
  pub scale : IsLabelled (codes "SYS / SCALE FACTOR") line → IsOfRead both line.text → ⊥
  pub types : IsLabelled (codes "SYS / # / OBS TYPES") line → ⊥

-- flags 0 and 1
abbrev pub begins_epoch : Part → Bool
begins_epoch part = nat_le (flag_of part.head.text) 49

-- flags up to 5
abbrev pub is_looked_at : Part → Bool
is_looked_at part = nat_le (flag_of part.head.text) 53

-- the first line has the mark, a flag and the number of the others; none is longer than it may be
pub record IsPart (both : Bool) (part : Part) : Type 0 where
  pub marked : column_of part.head.text 1 ≡ 62
  pub flag : IsFlag (flag_of part.head.text)
  pub count : IsLineCount (columns_of part.head.text 33 35) (length part.lines)
  pub printable : list_all is_printable part.head.text ≡ true
  pub short : AllByRecursion IsShort (part.head ∷ part.lines)
  pub event : begins_epoch part ≡ false → is_looked_at part ≡ true →
      AllByRecursion (IsFineInEvent both) part.lines

-- ---- the epochs

abbrev pub is_of_read : Bool → TextLine → Bool
is_of_read both line = is_read both (column_of line.text 1)

-- the satellite with the line's letter and number, and what the line has of the wanted codes of its
-- system
pub record IsSeenOn (wanted : Wanted) (line : TextLine) (seen : SatObs) : Type 0 where
  pub printable : list_all is_printable line.text ≡ true
  pub number : IsNumber line.text seen.sat.number
  pub sat_is : seen.sat ≡ sat_on line seen.sat.number
  pub places : CodePlaces
  pub places_are : ArePlacesOf wanted (column_of line.text 1) places
  pub first : IsObserved (field_at line.text places.first) seen.first
  pub second : IsSecond line.text places.second seen.second

-- the time of the part's first line; the satellites are, one for one, its lines with a letter that
-- is read
pub record IsEpochOf (wanted : Wanted) (part : Part) (epoch : Observed) : Type 0 where
  pub tag : IsTag part.head.text epoch.tag
  pub sats : OneForOne (IsSeenOn wanted)
      (filter (is_of_read (have_both wanted)) part.lines) epoch.sats

-- the lines fall into parts; the epochs are, one for one, those with flag 0 or 1
pub record AreInParts (wanted : Wanted) (lines : List TextLine)
    (epochs : List Observed) : Type 0 where
  pub parts : List Part
  pub spelled : lines ≡ lines_of_parts parts
  pub are_parts : AllByRecursion (IsPart (have_both wanted)) parts
  pub epochs_are : OneForOne (IsEpochOf wanted) (filter begins_epoch parts) epochs

-- ---- the file

pub record IsWholeOf (sought : Sought) (position : Bool) (lines : List TextLine)
    (observations : Observations) : Type 0 where
  pub header : List TextLine
  pub behind : List TextLine
  pub parted : IsParted lines header behind
  pub fine : AllByRecursion (IsFineInHeader (are_both sought) position) header
  pub position_is : IsPositionOf position header observations.position
  pub gps : List Code
  pub gps_are : AreTypes 71 (filter is_types_line header) gps
  pub galileo : List Code
  pub galileo_are : AreGalileoTypes (are_both sought) (filter is_types_line header) galileo
  pub wanted : Wanted
  pub wanted_is : AreWanted sought gps galileo wanted
  pub epochs_are : AreInParts wanted (counted behind) observations.epochs

-- with the satellites of GPS
abbrev pub IsWhole : Signal → Bool → List TextLine → Observations → Type 0
IsWhole signal position lines observations = IsWholeOf (alone signal) position lines observations
