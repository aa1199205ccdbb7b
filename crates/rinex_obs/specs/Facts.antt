-- What holds of the epochs of every observation file: how they are numbered, and which satellites
-- they name. Those of a station rise.
use Rattle.std.specs.Prelude.{ℕ, ◌≡◌, ◌≢◌, ◌+◌, ◌≤◌, ◌<◌, ◌<ℤ◌, Bool, true, false, List, [], ◌∷◌, Some}
use Rattle.std.specs.Prelude.{length, slice_get}
use Rattle.std.specs.List.{AllByRecursion}
use Rattle.rinex_obs.specs.Types.{IsRead}
use Rattle.rinex_obs.specs.Epochs.{Observed}
use Rattle.rinex_obs.specs.declared.obs.ObsEpoch.{ObsEpoch}
use Rattle.rinex_obs.specs.declared.obs.SatObs.{SatObs}

-- ---- the numbers of epochs

-- the first has this number, and each behind it the next
abbrev pub AreNumberedFrom : ℕ → List Observed → Type 0
AreNumberedFrom next [] = Unit {0}
AreNumberedFrom next (epoch ∷ more) = (epoch.index ≡ next) × AreNumberedFrom (next + 1) more

-- at most 200,000 epochs are numbered 1, 2, 3 and so on
pub record AreNumbered (epochs : List Observed) : Type 0 where
  pub in_order : AreNumberedFrom 1 epochs
  pub at_most : length epochs ≤ 200000

-- each number is at least this one and at most 200,000, and those behind it are greater
abbrev pub AreRisingFrom : ℕ → List Observed → Type 0
AreRisingFrom least [] = Unit {0}
AreRisingFrom least (epoch ∷ more) =
    (least ≤ epoch.index) × (epoch.index ≤ 200000) × AreRisingFrom (epoch.index + 1) more

-- ---- the times of epochs

-- an epoch further back in the file has a greater tag
pub record AreRising (epochs : List ObsEpoch) : Type 0 where
  pub later : (i j : ℕ) (e f : ObsEpoch) → slice_get epochs i ≡ Some e
      → slice_get epochs j ≡ Some f → i < j → e.tag <ℤ f.tag

-- ---- the satellites of an epoch

-- a satellite from G01 to G99, or where both systems are read also one from E01 to E99
pub record IsSatOf (both : Bool) (seen : SatObs) : Type 0 where
  pub system : IsRead both seen.sat.system
  pub from : 1 ≤ seen.sat.number
  pub to : seen.sat.number ≤ 99

abbrev pub AreSatsOf : Bool → List SatObs → Type 0
AreSatsOf both sats = AllByRecursion (IsSatOf both) sats

abbrev pub AreGpsSats : List SatObs → Type 0
AreGpsSats sats = AreSatsOf false sats

-- of one of the two systems
abbrev pub AreNamedSats : List SatObs → Type 0
AreNamedSats sats = AreSatsOf true sats

-- none stands twice
abbrev pub AreDistinct : List SatObs → Type 0
AreDistinct [] = Unit {0}
AreDistinct (seen ∷ sats) = AllByRecursion (λ other. other.sat ≢ seen.sat) sats × AreDistinct sats

-- the satellites of each epoch meet the fact
abbrev pub InEach : (List SatObs → Type 0) → List Observed → Type 0
InEach Meet epochs = AllByRecursion (λ epoch. Meet epoch.sats) epochs
