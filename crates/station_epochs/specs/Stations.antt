-- A station, which is a second receiver at a known place, and which of its epochs goes with one of
-- the receiver (Misra and Enge, Global Positioning System, on differences between receivers).
use Rattle.std.specs.Prelude.{ℕ, ◌*◌, ◌^◌, ◌≤◌, ◌≡◌, ℤ, ◌-ℤ◌, List, Some, slice_get, unsigned_abs}
use Rattle.grid_model.specs.declared.boxes.Pos.{Pos}
use Rattle.rinex_obs.specs.declared.obs.ObsEpoch.{ObsEpoch}
use Rattle.station_epochs.specs.declared.station.KnownStation.{KnownStation}

-- where it stands, how far in s its epochs may be from those of the receiver, and its epochs
pub record Station : Type 0 where
  pub place : Pos
  pub age : ℕ
  pub epochs : List ObsEpoch

-- as the code has it
abbrev pub station_of : KnownStation → Station
station_of known = record { place = known.place; age = known.age; epochs = known.epochs.now }

-- the epoch at place i of its file is so many ps from a time, and no more than allowed
pub record IsInTime (station : Station) (tag : ℤ) (i : ℕ) (e : ObsEpoch) (apart : ℕ) : Type 0 where
  pub at : slice_get station.epochs i ≡ Some e
  pub apart_is : apart ≡ unsigned_abs (tag -ℤ e.tag)
  pub near : apart ≤ station.age * 10 ^ 12

-- of these it is the nearest, the later in the file of two
pub record IsStationEpoch (station : Station) (tag : ℤ) (e : ObsEpoch) : Type 0 where
  pub i : ℕ
  pub apart : ℕ
  pub in_time : IsInTime station tag i e apart
  pub least : (j : ℕ) (f : ObsEpoch) (other : ℕ) → IsInTime station tag j f other → apart ≤ other
  pub last : (j : ℕ) (f : ObsEpoch) → IsInTime station tag j f apart → j ≤ i
