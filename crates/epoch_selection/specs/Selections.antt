-- A choice of epochs by their numbers.
use Rattle.std.specs.Prelude.{◌≡◌, ℕ, ◌+◌, Bool, ◌&&◌, nat_le, List, ◌∷◌, Some, drop, slice_get}
use Rattle.std.specs.List.{filter}
use Rattle.rinex_obs.specs.declared.obs.ObsEpoch.{ObsEpoch}
use Rattle.epoch_selection.specs.declared.selection.Selection.{Selection}

-- a file has at most so many epochs, numbered from 1
abbrev pub first_epoch : ℕ
first_epoch = 1

abbrev pub last_epoch : ℕ
last_epoch = 200000

abbrev pub all_epochs : Selection
all_epochs = record { from = first_epoch; to = last_epoch }

-- the epoch's number is from the one to the other
abbrev pub is_selected : Selection → ObsEpoch → Bool
is_selected s epoch = nat_le s.from epoch.index && nat_le epoch.index s.to

abbrev pub selected : Selection → List ObsEpoch → List ObsEpoch
selected s epochs = filter (is_selected s) epochs

-- the first selected one is at place i
pub record IsFirstSelected (s : Selection) (epochs : List ObsEpoch) (i : ℕ) : Type 0 where
  pub epoch : ObsEpoch
  pub at : slice_get epochs i ≡ Some epoch
  pub are : selected s epochs ≡ epoch ∷ selected s (drop (i + 1) epochs)
