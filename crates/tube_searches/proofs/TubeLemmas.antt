-- The searches of a tube, one after another.
use Rattle.std.proofs.Common.{◌≡◌, ℕ, Bool, List, [], ◌∷◌, Option, None, Some, inl, inr, refl, ap, ◌∙◌}
use Rattle.epoch_selection.specs.Searches.{Search, search_in}
use Rattle.moving_tube.specs.Roots.{Before, handed_on, kept_of, root_for}
use Rattle.rinex_obs.specs.declared.obs.ObsEpoch.{ObsEpoch}
use Rattle.grid_model.specs.Boxes.{GridBox}
use Rattle.sat_model.specs.Logs.{Block}
use Rattle.tube_searches.specs.Tubes.{TubeValue, with_kept, searches_from, tube_searches, IsInside, IsOver, IsTaken}

module _ (speed : ℕ) (restart : Bool) (search : GridBox) where
  -- without a root there is no search
  none_from : (before : Option Before) (epoch : ObsEpoch) (more : List ObsEpoch) (blocks : List Block)
      → root_for speed search before epoch.tag ≡ None
      → searches_from speed restart search before (epoch ∷ more) blocks ≡ []
  none_from before epoch more [] none = rw none refl
  none_from before epoch more (block ∷ blocks) none = rw none refl

  over_from : (before : Option Before) (epochs : List ObsEpoch) (blocks : List Block) → epochs ≡ []
      → searches_from speed restart search before epochs blocks ≡ []
  over_from before epochs blocks e = rw e refl

  first_from : (before : Option Before) (epoch : ObsEpoch) (more : List ObsEpoch) (root : GridBox) (block : Block) (blocks : List Block)
      → root_for speed search before epoch.tag ≡ Some root
      → searches_from speed restart search before (epoch ∷ more) (block ∷ blocks)
      ≡ search_in root epoch ∷ searches_from speed restart search (handed_on restart epoch.tag (kept_of root block)) more blocks
  first_from before epoch more root block blocks is = rw is refl

  last_from : (before : Option Before) (epoch : ObsEpoch) (more : List ObsEpoch) (root : GridBox)
      → root_for speed search before epoch.tag ≡ Some root
      → searches_from speed restart search before (epoch ∷ more) [] ≡ search_in root epoch ∷ []
  last_from before epoch more root is = rw is refl

pub over_searches : (t : TubeValue) (blocks : List Block) → IsOver t → tube_searches t blocks ≡ []
over_searches t blocks (inl none) = over_from t.speed t.restart t.search t.before t.epochs blocks none
over_searches t blocks (inr (epoch, more, are, none)) =
    ap (λ (epochs : List ObsEpoch). searches_from t.speed t.restart t.search t.before epochs blocks) are ∙ none_from t.speed t.restart t.search t.before epoch more blocks none

pub taken_searches : (old : TubeValue) (epoch : ObsEpoch) (root : GridBox) (new : TubeValue) (block : Block) (blocks : List Block)
    → IsInside old → IsTaken old epoch root new
    → tube_searches old (block ∷ blocks) ≡ search_in root epoch ∷ tube_searches (with_kept new epoch.tag (kept_of root block)) blocks
taken_searches old epoch root new block blocks inside taken =
    ap (λ (epochs : List ObsEpoch). searches_from old.speed old.restart old.search old.before epochs (block ∷ blocks)) taken.first
    ∙ first_from old.speed old.restart old.search old.before epoch new.epochs root block blocks (taken.is_root inside)
    ∙ ap (λ (later : List Search). search_in root epoch ∷ later)
    (rw (taken.same_speed, taken.same_restart, taken.same_search) refl)

pub taken_last : (old : TubeValue) (epoch : ObsEpoch) (root : GridBox) (new : TubeValue)
    → IsInside old → IsTaken old epoch root new → tube_searches old [] ≡ search_in root epoch ∷ []
taken_last old epoch root new inside taken =
    ap (λ (epochs : List ObsEpoch). searches_from old.speed old.restart old.search old.before epochs []) taken.first
    ∙ last_from old.speed old.restart old.search old.before epoch new.epochs root (taken.is_root inside)
