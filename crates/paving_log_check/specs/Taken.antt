-- The next search as the loop over blocks takes it. No public clause cites it.
use Rattle.std.specs.Prelude.{ℕ, ℤ, List, Option}
use Rattle.epoch_selection.specs.Searches.{Search}
use Rattle.epoch_selection.specs.Walks.{IsFirst}
use Rattle.grid_model.specs.Boxes.{GridBox}
use Rattle.rinex_obs.specs.declared.obs.ObsEpoch.{ObsEpoch}
use Rattle.sat_model.specs.Logs.{Block}
use Rattle.sat_model.specs.declared.rules.Rules.{Rules}
use Rattle.paving_log_check.specs.Admissible.{IsOf}

-- the next one is taken, and the block is that of its epoch
pub record IsTakenBy (rules : Rules) (before : Option ℕ) (searches : List Block → List Search)
    (keeps : GridBox → Block → Option GridBox)
    (behind : ℤ → Option GridBox → List Block → List Search) (seen : ObsEpoch) (root : GridBox)
    (block : Block) : Type 0 where
  pub first : IsFirst searches keeps behind seen root
  pub is_of : IsOf rules before seen block
