-- How the code finds the nearest epoch. No public clause cites this.
use Rattle.std.specs.Prelude.{ℕ, ◌+◌, ◌<◌, ◌≤◌, ◌≡◌, ℤ, ◌≤ℤ◌, ◌<ℤ◌, List, Option, None, Some, length}
use Rattle.std.specs.Prelude.{slice_get}
use Rattle.rinex_obs.specs.declared.obs.ObsEpoch.{ObsEpoch}
use Rattle.station_epochs.specs.Stations.{Station, IsInTime}
use Rattle.station_epochs.specs.declared.nearest.Near.{Near}

-- so many epochs aren't later than a time, and the others are
pub record IsSplitAt (epochs : List ObsEpoch) (tag : ℤ) (count : ℕ) : Type 0 where
  pub within : count ≤ length epochs
  pub before : (i : ℕ) (e : ObsEpoch) → slice_get epochs i ≡ Some e → i < count → e.tag ≤ℤ tag
  pub behind : (i : ℕ) (e : ObsEpoch) → slice_get epochs i ≡ Some e → count ≤ i → tag <ℤ e.tag

-- an epoch that is near enough
abbrev pub IsNearAt : Station → ℤ → Near → Type 0
IsNearAt station tag near = (e : ObsEpoch) × IsInTime station tag near.place e near.apart

-- the last of so many, where it is
abbrev pub IsLastOf : Station → ℤ → ℕ → Option Near → Type 0
IsLastOf station tag count None =
    (i : ℕ) (e : ObsEpoch) (apart : ℕ) → i + 1 ≡ count → IsInTime station tag i e apart → ⊥
IsLastOf station tag count (Some near) = IsNearAt station tag near × (near.place + 1 ≡ count)

-- that at a place, where it is
abbrev pub IsAtPlace : Station → ℤ → ℕ → Option Near → Type 0
IsAtPlace station tag place None =
    (e : ObsEpoch) (apart : ℕ) → IsInTime station tag place e apart → ⊥
IsAtPlace station tag place (Some near) = IsNearAt station tag near × (near.place ≡ place)

-- of an earlier and a later one the nearer, and the later where they are as near
pub record IsNearerOf (early late near : Near) : Type 0 where
  pub first : early.apart < late.apart → near ≡ early
  pub second : late.apart ≤ early.apart → near ≡ late

-- ... where both are there
abbrev pub IsNearer : Option Near → Option Near → Option Near → Type 0
IsNearer None late near = near ≡ late
IsNearer (Some early) None near = near ≡ Some early
IsNearer (Some early) (Some late) None = ⊥
IsNearer (Some early) (Some late) (Some near) = IsNearerOf early late near
