-- What the code answers about a satellite on the way to a judgement. No public clause cites it.
use Rattle.std.specs.Prelude.{ℕ, ◌*◌, ◌^◌, ◌<◌, ◌≡◌, ◌⊎◌, ℤ, pos, ◌≤ℤ◌, ◌<ℤ◌, true, false}
use Rattle.std.specs.Prelude.{Option, None, Some}
use Rattle.rinex_nav.specs.ElementsOf.{AreElements}
use Rattle.rinex_nav.specs.FieldBounds.{AreInside, IsFirstOutside}
use Rattle.rinex_nav.specs.Weeks.{IsAge}
use Rattle.rinex_nav.specs.declared.record.NavRecord.{NavRecord}
use Rattle.rinex_obs.specs.declared.obs.SatObs.{SatObs}
use Rattle.gnss_model.specs.Pseudorange.{Codes}
use Rattle.gnss_model.specs.declared.elements.Elements.{Elements}
use Rattle.gnss_model.specs.declared.satellites.Signal.{Signal}
use Rattle.gnss_model.specs.declared.systems.System.{System}
use Rattle.usable_sats.specs.Measured.{codes_of}
use Rattle.usable_sats.specs.Usability.{Sighting, AreThere, HaveValue, ArePlausible, IsItsRecord}
use Rattle.usable_sats.specs.Usability.{IsHealthy, IsFresh, IsFit, IsNearest}
use Rattle.usable_sats.specs.declared.choice.Choice.{Choice}
use Rattle.usable_sats.specs.declared.choice.Choice.TheVariants.{NoRecord, Unhealthy, Old, Unfit}
use Rattle.usable_sats.specs.declared.choice.Choice.TheVariants.{Fit}
use Rattle.usable_sats.specs.declared.codes.Reading.{Reading}
use Rattle.usable_sats.specs.declared.codes.Reading.TheVariants.{Missing, OutOfRange, Within}
use Rattle.usable_sats.specs.declared.fresh.Nearest.{Nearest}

-- what the wanted codes of a satellite are
abbrev pub IsReading : System → Signal → SatObs → Reading → Type 0
IsReading system signal seen Missing = AreThere signal seen → ⊥
IsReading system signal seen OutOfRange =
    AreThere signal seen
    × ((codes : Codes) → HaveValue signal seen codes → ArePlausible system codes → ⊥)
IsReading system signal seen (Within measured) =
    HaveValue signal seen (codes_of measured) × ArePlausible system (codes_of measured)

-- ---- the choice of a record

-- the nearest of the fresh records, of which none is fit, and its first field outside the bounds
pub record IsUnfit (a : Sighting) (age : ℤ) (field : ℕ) : Type 0 where
  pub none : (i : ℕ) (r : NavRecord) (age : ℤ) → IsFit a i r age → ⊥
  pub i : ℕ
  pub r : NavRecord
  pub nearest : IsNearest (IsFresh a) i r age
  pub first : IsFirstOutside r.fields field

-- the nearest of the fit records, and its elements
pub record IsUsed (a : Sighting) (age : ℤ) (el : Elements) : Type 0 where
  pub i : ℕ
  pub r : NavRecord
  pub nearest : IsNearest (IsFit a) i r age
  pub elements : AreElements r el

-- what the records give of the satellite
abbrev pub IsChoice : Sighting → Choice → Type 0
IsChoice a NoRecord = (i : ℕ) (r : NavRecord) → IsItsRecord a i r → ⊥
IsChoice a Unhealthy =
    ((i : ℕ) × (r : NavRecord) × IsItsRecord a i r)
    × ((i : ℕ) (r : NavRecord) → IsHealthy a i r → ⊥)
IsChoice a Old =
    ((i : ℕ) × (r : NavRecord) × IsHealthy a i r)
    × ((i : ℕ) (r : NavRecord) (age : ℤ) → IsFresh a i r age → ⊥)
IsChoice a (Unfit age field) = IsUnfit a age field
IsChoice a (Fit age el) = IsUsed a age el

-- a healthy record of such an age, no more than allowed in s
pub record IsRecent (max_age : ℕ) (tag : ℤ) (r : NavRecord) (age : ℤ) : Type 0 where
  pub healthy : r.healthy ≡ true
  pub age_is : IsAge r tag age
  pub fresh : age ≤ℤ pos (max_age * 10 ^ 12)

-- the nearest of the fresh records, where there is one
abbrev pub IsNearestFresh : Sighting → Option Nearest → Type 0
IsNearestFresh a None = (i : ℕ) (r : NavRecord) (age : ℤ) → IsFresh a i r age → ⊥
IsNearestFresh a (Some n) = (r : NavRecord) × IsNearest (IsFresh a) n.place r n.age

-- what one record gives
abbrev pub IsAlone : ℕ → ℤ → NavRecord → Choice → Type 0
IsAlone max_age tag r NoRecord = ⊥
IsAlone max_age tag r Unhealthy = r.healthy ≡ false
IsAlone max_age tag r Old = (r.healthy ≡ true) × ((age : ℤ) → IsRecent max_age tag r age → ⊥)
IsAlone max_age tag r (Unfit age field) = IsRecent max_age tag r age × IsFirstOutside r.fields field
IsAlone max_age tag r (Fit age el) =
    IsRecent max_age tag r age × AreInside r.fields × AreElements r el

-- how many of the tests of its record a choice passes
abbrev pub passed_by : Choice → ℕ
passed_by NoRecord = 0
passed_by Unhealthy = 1
passed_by Old = 2
passed_by (Unfit age field) = 3
passed_by (Fit age el) = 4

-- its age, where it is told
abbrev pub age_of : Choice → ℤ
age_of NoRecord = pos 0
age_of Unhealthy = pos 0
age_of Old = pos 0
age_of (Unfit age field) = age
age_of (Fit age el) = age

-- a choice is better than one from later in the file
abbrev pub IsBetter : Choice → Choice → Type 0
IsBetter a b = (passed_by b < passed_by a) ⊎ ((passed_by b ≡ passed_by a) × (age_of a <ℤ age_of b))
