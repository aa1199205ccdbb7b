-- The searches of a moving receiver: its epochs, each with the root that the one before leaves, up
-- to the first in which it is lost, or where its track restarts to the last. They go by the blocks
-- of a log.
use Rattle.std.specs.Prelude.{◌≡◌, ◌⊎◌, ℕ, ℤ, Bool, List, [], ◌∷◌, Option, None, Some}
use Rattle.epoch_selection.specs.Searches.{Search, search_in, epochs_left}
use Rattle.moving_tube.specs.Endings.{IsInsideOf, before_value}
use Rattle.moving_tube.specs.Roots.{Before, handed_on, kept_of, root_for}
use Rattle.rinex_obs.specs.declared.obs.ObsEpoch.{ObsEpoch}
use Rattle.grid_model.specs.Boxes.{GridBox, grid_box}
use Rattle.sat_model.specs.Contractors.{LiesIn}
use Rattle.sat_model.specs.Logs.{Block}
use Rattle.grid_model.specs.SearchBoxes.{IsSearchBox}
use Rattle.tube_searches.specs.declared.tube.Tube.{Tube}

-- ---- what a tube stands for

pub record TubeValue : Type 0 where
  pub epochs : List ObsEpoch
  pub search : GridBox
  pub speed : ℕ
  pub restart : Bool
  pub before : Option Before

abbrev pub tube_value : Tube → TubeValue
tube_value t = record {
  epochs = epochs_left t.searches;
  search = grid_box t.searches.root;
  speed = t.speed;
  restart = t.restart;
  before = before_value t.before;
}

-- the same behind an epoch of this time that kept this
abbrev pub with_kept : TubeValue → ℤ → Option GridBox → TubeValue
with_kept t tag kept = record t { before = handed_on t.restart tag kept }

-- ---- the searches

-- of an epoch in its root, and the later ones; none where it has no root
abbrev pub from_root : Option GridBox → ObsEpoch → (GridBox → List Search) → List Search
from_root None epoch later = []
from_root (Some root) epoch later = search_in root epoch ∷ later root

abbrev pub searches_from : ℕ → (restart : Bool) → GridBox → Option Before → List ObsEpoch
    → List Block → List Search
searches_from speed restart search before [] blocks = []
searches_from speed restart search before (epoch ∷ more) [] =
    from_root (root_for speed search before epoch.tag) epoch (λ root. [])
searches_from speed restart search before (epoch ∷ more) (block ∷ blocks) =
    from_root (root_for speed search before epoch.tag) epoch (λ root.
    searches_from speed restart search (handed_on restart epoch.tag (kept_of root block)) more
    blocks)

abbrev pub tube_searches : TubeValue → List Block → List Search
tube_searches t blocks = searches_from t.speed t.restart t.search t.before t.epochs blocks

-- ---- the next one

-- what the epoch before kept, or an earlier log leaves, lies in the search box
abbrev pub IsInside : TubeValue → Type 0
IsInside t = IsInsideOf t.search t.before

-- no epoch is left, or the next one has no root
abbrev pub IsOver : TubeValue → Type 0
IsOver t = (t.epochs ≡ [])
    ⊎ ((epoch : ObsEpoch) × (more : List ObsEpoch) × (t.epochs ≡ epoch ∷ more)
    × (root_for t.speed t.search t.before epoch.tag ≡ None))

-- the first epoch is taken, with its root, where what the epoch before kept lies in the search box
pub record IsTaken (old : TubeValue) (epoch : ObsEpoch) (root : GridBox)
    (new : TubeValue) : Type 0 where
  pub first : old.epochs ≡ epoch ∷ new.epochs
  pub is_root : IsInside old → root_for old.speed old.search old.before epoch.tag ≡ Some root
  pub lies : LiesIn root old.search
  pub box : IsSearchBox root
  pub same_search : new.search ≡ old.search
  pub same_speed : new.speed ≡ old.speed
  pub same_restart : new.restart ≡ old.restart
  pub same_before : new.before ≡ old.before
