-- Which satellites of an epoch are used, and by which record: seven tests in their order, six of
-- the satellite itself and one of the search box. The choice is made from the whole list of
-- records.
use Rattle.std.specs.Prelude.{ℕ, ◌*◌, ◌^◌, ◌≤◌, ◌≡◌, ◌⊎◌, ℤ, pos, ◌-ℤ◌, ◌*ℤ◌, ◌≤ℤ◌, List}
use Rattle.std.specs.Prelude.{Bool, true, false}
use Rattle.std.specs.Prelude.{Option, None, Some, slice_get, nat_eq, if◌then◌else◌}
use Rattle.error_bounds.specs.declared.settings.Settings.{Settings}
use Rattle.exact_decimal.specs.declared.decimal.Decimal.{Decimal}
use Rattle.exact_decimal.specs.declared.unit.Unit.TheVariants.{Length}
use Rattle.rinex_nav.specs.ElementsOf.{IsRounded, AreElements}
use Rattle.rinex_nav.specs.FieldBounds.{AreInside, IsFirstOutside}
use Rattle.rinex_nav.specs.Weeks.{IsAge}
use Rattle.rinex_nav.specs.declared.record.NavRecord.{NavRecord}
use Rattle.rinex_obs.specs.declared.obs.SatObs.{SatObs}
use Rattle.grid_model.specs.Boxes.{GridBox}
use Rattle.gnss_model.specs.Pseudorange.{Codes}
use Rattle.grid_model.specs.SearchBoxes.{IsFarFromOrigin}
use Rattle.gnss_model.specs.Systems.{first_square, second_square, squares_apart}
use Rattle.gnss_model.specs.declared.elements.Elements.{Elements}
use Rattle.gnss_model.specs.declared.satellites.Sat.{Sat}
use Rattle.gnss_model.specs.declared.satellites.Signal.{Signal}
use Rattle.gnss_model.specs.declared.satellites.GalileoUse.{GalileoUse}
use Rattle.gnss_model.specs.declared.satellites.Signal.TheVariants.{Single, Dual}
use Rattle.gnss_model.specs.declared.satellites.Skip.{Skip}
use Rattle.gnss_model.specs.Delays.{is_plain}
use Rattle.gnss_model.specs.declared.delays.Delays.{Delays}
use Rattle.grid_model.specs.declared.spans.Wide.{Wide}
use Rattle.gnss_model.specs.declared.systems.System.{System}
use Rattle.gnss_model.specs.declared.systems.System.TheVariants.{Gps, Galileo}

-- what was observed of a satellite at a time, by the receiver's clock in ps, and what it is judged
-- by: the records of a navigation file, its system, the wanted codes, and how far in s an ephemeris
-- time may be from that time
pub record Sighting : Type 0 where
  pub records : List NavRecord
  pub system : System
  pub signal : Signal
  pub max_age : ℕ
  pub tag : ℤ
  pub seen : SatObs

-- The system as which a satellite is used, and its wanted codes. By the codes of GPS alone every
-- satellite is one of GPS; where there are a message and codes of Galileo too, `E` is the letter of
-- its satellites.
abbrev pub use_of : Signal → Option GalileoUse → Sat → System × Signal
use_of gps None sat = (Gps, gps)
use_of gps (Some galileo) sat =
    if nat_eq sat.system 69 then (Galileo galileo.message, galileo.signal) else (Gps, gps)

-- of a file's records, by its settings, with the codes of Galileo where these satellites are used
abbrev pub sighting_by : Option GalileoUse → List NavRecord → Settings → ℤ → SatObs → Sighting
sighting_by galileo records settings tag seen = record {
  records = records;
  system = (use_of settings.signal galileo seen.sat).0;
  signal = (use_of settings.signal galileo seen.sat).1;
  max_age = settings.max_age;
  tag = tag;
  seen = seen;
}

-- of GPS
abbrev pub sighting : List NavRecord → Settings → ℤ → SatObs → Sighting
sighting records settings tag seen = sighting_by None records settings tag seen

-- ---- the codes

-- the wanted codes are there
abbrev pub AreThere : Signal → SatObs → Type 0
AreThere (Single code) seen = (d : Decimal) × (seen.first ≡ Some d)
AreThere (Dual first second) seen =
    ((d : Decimal) × (seen.first ≡ Some d)) × ((e : Decimal) × (seen.second ≡ Some e))

-- their whole numbers of um
abbrev pub HaveValue : Signal → SatObs → Codes → Type 0
HaveValue (Single code) seen codes =
    (d : Decimal) × (seen.first ≡ Some d) × IsRounded codes.first d Length × (codes.second ≡ None)
HaveValue (Dual first second) seen codes =
    ((d : Decimal) × (seen.first ≡ Some d) × IsRounded codes.first d Length)
    × ((e : Decimal) × (w : Wide) × (seen.second ≡ Some e) × (codes.second ≡ Some w)
    × IsRounded w e Length)

-- a signal of a GPS satellite is under way for 15,000 to 40,000 km, in um
abbrev pub least_range : ℕ
least_range = 15 * 10 ^ 12

abbrev pub greatest_range : ℕ
greatest_range = 40 * 10 ^ 12

pub record IsPlausible (lo hi : ℤ) (scale : ℕ) : Type 0 where
  pub from : pos (scale * least_range) ≤ℤ lo
  pub to : hi ≤ℤ pos (scale * greatest_range)

-- the least and the greatest ionosphere-free combination of two codes (IS-GPS-200, 20.3.3.3.3.3),
-- times the difference of the squares of their frequencies
abbrev pub IsCombinationPlausible : System → Wide → Wide → Type 0
IsCombinationPlausible system first second =
    IsPlausible ((pos (first_square system) *ℤ first.lo)
    -ℤ (pos (second_square system) *ℤ second.hi))
    ((pos (first_square system) *ℤ first.hi) -ℤ (pos (second_square system) *ℤ second.lo))
    (squares_apart system)

abbrev pub ArePlausibleWith : System → Wide → Option Wide → Type 0
ArePlausibleWith system first None = IsPlausible first.lo first.hi 1
ArePlausibleWith system first (Some second) =
    IsPlausible first.lo first.hi 1 × IsPlausible second.lo second.hi 1
    × IsCombinationPlausible system first second

abbrev pub ArePlausible : System → Codes → Type 0
ArePlausible system codes = ArePlausibleWith system codes.first codes.second

pub record IsMeasured (a : Sighting) : Type 0 where
  pub codes : Codes
  pub values : HaveValue a.signal a.seen codes
  pub plausible : ArePlausible a.system codes

-- ---- the records

-- r is the satellite's record at place i of the list
pub record IsItsRecord (a : Sighting) (i : ℕ) (r : NavRecord) : Type 0 where
  pub at : slice_get a.records i ≡ Some r
  pub sat : r.sat ≡ a.seen.sat

pub record IsHealthy (a : Sighting) (i : ℕ) (r : NavRecord) : Type 0 where
  pub its : IsItsRecord a i r
  pub healthy : r.healthy ≡ true

-- a healthy record, whose ephemeris time is so many ps from the time of the epoch, and no more than
-- allowed
pub record IsFresh (a : Sighting) (i : ℕ) (r : NavRecord) (age : ℤ) : Type 0 where
  pub healthy : IsHealthy a i r
  pub age_is : IsAge r a.tag age
  pub fresh : age ≤ℤ pos (a.max_age * 10 ^ 12)

-- and each field is within its bounds
pub record IsFit (a : Sighting) (i : ℕ) (r : NavRecord) (age : ℤ) : Type 0 where
  pub fresh : IsFresh a i r age
  pub inside : AreInside r.fields

-- of the records that meet a fact this is the one of least age, the later in the file of two
pub record IsNearest (Meets : ℕ → NavRecord → ℤ → Type 0) (i : ℕ) (r : NavRecord)
    (age : ℤ) : Type 0 where
  pub meets : Meets i r age
  pub least : (j : ℕ) (s : NavRecord) (other : ℤ) → Meets j s other → age ≤ℤ other
  pub last : (j : ℕ) (s : NavRecord) → Meets j s age → j ≤ i

-- ---- usable satellites

-- no test of the satellite itself fails, and this is what it is known by
pub record IsUsable (a : Sighting) : Type 0 where
  pub measured : IsMeasured a
  pub i : ℕ
  pub r : NavRecord
  pub age : ℤ
  pub used : IsNearest (IsFit a) i r age
  pub el : Elements
  pub elements : AreElements r el

-- ---- and why one isn't used: each test behind those that pass

-- 1: a wanted code is missing
abbrev pub LacksCode : Sighting → Type 0
LacksCode a = AreThere a.signal a.seen → ⊥

-- 2: a code, or the combination of two, is out of range
pub record IsOutOfRange (a : Sighting) : Type 0 where
  pub there : AreThere a.signal a.seen
  pub out : IsMeasured a → ⊥

-- 3: there is no record of the satellite
pub record LacksRecord (a : Sighting) : Type 0 where
  pub measured : IsMeasured a
  pub none : (i : ℕ) (r : NavRecord) → IsItsRecord a i r → ⊥

-- 4: none of its records is healthy
pub record LacksHealthy (a : Sighting) : Type 0 where
  pub measured : IsMeasured a
  pub some : (i : ℕ) × (r : NavRecord) × IsItsRecord a i r
  pub none : (i : ℕ) (r : NavRecord) → IsHealthy a i r → ⊥

-- 5: none of the healthy ones is fresh
pub record LacksFresh (a : Sighting) : Type 0 where
  pub measured : IsMeasured a
  pub some : (i : ℕ) × (r : NavRecord) × IsHealthy a i r
  pub none : (i : ℕ) (r : NavRecord) (age : ℤ) → IsFresh a i r age → ⊥

-- 6: none of the fresh ones is within the bounds, and of the nearest this field is the first
-- outside
pub record LacksFit (a : Sighting) (field : ℕ) : Type 0 where
  pub measured : IsMeasured a
  pub none : (i : ℕ) (r : NavRecord) (age : ℤ) → IsFit a i r age → ⊥
  pub i : ℕ
  pub r : NavRecord
  pub age : ℤ
  pub nearest : IsNearest (IsFresh a) i r age
  pub first : IsFirstOutside r.fields field

-- the number of the test; no field is told but by the last
abbrev pub IsSkip : Sighting → Skip → Type 0
IsSkip a skip =
    ((skip.number ≡ 1) × (skip.field ≡ 0) × LacksCode a)
    ⊎ (((skip.number ≡ 2) × (skip.field ≡ 0) × IsOutOfRange a)
    ⊎ (((skip.number ≡ 3) × (skip.field ≡ 0) × LacksRecord a)
    ⊎ (((skip.number ≡ 4) × (skip.field ≡ 0) × LacksHealthy a)
    ⊎ (((skip.number ≡ 5) × (skip.field ≡ 0) × LacksFresh a)
    ⊎ ((skip.number ≡ 6) × LacksFit a skip.field)))))

-- ---- the search box

-- a delay can be mapped by elevation at points that are at least 6,000 km from the origin, in um;
-- where none is declared, none is mapped
abbrev pub IsHighIf : Bool → GridBox → Type 0
IsHighIf true root = Unit {0}
IsHighIf false root = IsFarFromOrigin (6 * 10 ^ 12) root

abbrev pub IsHigh : Delays → GridBox → Type 0
IsHigh delays root = IsHighIf (is_plain delays) root

-- 7: nothing else is wrong, but the search box comes too near to the origin
pub record IsTooLow (delays : Delays) (root : GridBox) (a : Sighting)
    (skip : Skip) : Type 0 where
  pub usable : IsUsable a
  pub low : IsHigh delays root → ⊥
  pub number : skip.number ≡ 7
  pub field : skip.field ≡ 0

-- ---- the judgement

-- the satellite is usable in the search box, or this is why it isn't
abbrev pub IsJudged : Delays → GridBox → Sighting → Option Skip → Type 0
IsJudged delays root a None = IsUsable a × IsHigh delays root
IsJudged delays root a (Some skip) = IsSkip a skip ⊎ IsTooLow delays root a skip
