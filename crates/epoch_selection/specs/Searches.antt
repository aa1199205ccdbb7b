-- Epochs with the box in which each is searched.
use Rattle.std.specs.Prelude.{◌≡◌, List, ◌∷◌, map}
use Rattle.rinex_obs.specs.declared.obs.ObsEpoch.{ObsEpoch}
use Rattle.grid_model.specs.Boxes.{GridBox, grid_box}
use Rattle.epoch_selection.specs.Selections.{selected}
use Rattle.epoch_selection.specs.declared.searches.Searches.{Searches}

-- an epoch and its search box
pub record Search : Type 0 where
  pub epoch : ObsEpoch
  pub root : GridBox

abbrev pub search_in : GridBox → ObsEpoch → Search
search_in root epoch = record { epoch = epoch; root = root }

-- all of them in one box
abbrev pub searches_in : GridBox → List ObsEpoch → List Search
searches_in root epochs = map (search_in root) epochs

-- ---- those that are left

abbrev pub epochs_left : Searches → List ObsEpoch
epochs_left s = selected s.selection s.left.now

abbrev pub searches_left : Searches → List Search
searches_left s = searches_in (grid_box s.root) (epochs_left s)

-- the first of them is taken
pub record IsTaken (old : Searches) (epoch : ObsEpoch) (new : Searches) : Type 0 where
  pub first : epochs_left old ≡ epoch ∷ epochs_left new
  pub same_root : new.root ≡ old.root
