-- A walk over the epochs of a file, by the searches that it makes for given blocks.
use Rattle.std.specs.Prelude.{◌≡◌, ℤ, List, [], ◌∷◌, Option, None, Some}
use Rattle.rinex_obs.specs.declared.obs.ObsEpoch.{ObsEpoch}
use Rattle.grid_model.specs.Boxes.{GridBox}
use Rattle.sat_model.specs.Logs.{Block}
use Rattle.epoch_selection.specs.Searches.{Search, search_in}

-- no search is made, whatever the blocks
abbrev pub MakesNone : (List Block → List Search) → Type 0
MakesNone searches = (blocks : List Block) → searches blocks ≡ []

-- The first search is that of this epoch in this root. Behind its block come those that go on from
-- what it keeps by it, for a block of few satellites from all of the root; without a block there may
-- be more.
pub record IsFirst (searches : List Block → List Search)
    (keeps : GridBox → Block → Option GridBox)
    (behind : ℤ → Option GridBox → List Block → List Search) (epoch : ObsEpoch)
    (root : GridBox) : Type 0 where
  pub goes_on : (block : Block) (blocks : List Block) → searches (block ∷ blocks)
      ≡ search_in root epoch ∷ behind epoch.tag (keeps root block) blocks
  pub few : (block : Block) (blocks : List Block) → block.body ≡ None
      → behind epoch.tag (keeps root block) blocks ≡ behind epoch.tag (Some root) blocks
  pub ends : (more : List Search) × (searches [] ≡ search_in root epoch ∷ more)
