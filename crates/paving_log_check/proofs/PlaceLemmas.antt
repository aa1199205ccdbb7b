-- The blocks that are left, and the search that is due.
use Rattle.std.proofs.Common.{◌≡◌, ℕ, ◌+◌, ◌<◌, ◌≤◌, arith, List, [], ◌∷◌, length, get_or, drop, map, refl, sym, ap, ◌∙◌, Bool, true, false, Option, None, Some}
use Rattle.std.specs.Prelude.{ℤ, IsTrue, ◌↔◌, MatchOption, is_some, not}
use Rattle.std.proofs.Math.ListN.{get_or-map}
use Rattle.std.proofs.lemmas.List.{length-map}
use Rattle.epoch_selection.specs.Searches.{Search}
use Rattle.epoch_selection.specs.Walks.{MakesNone, IsFirst}
use Rattle.grid_model.specs.Boxes.{GridBox}
use Rattle.rinex_obs.specs.declared.obs.ObsEpoch.{ObsEpoch}
use Rattle.sat_model.specs.Logs.{Block}
use Rattle.sat_model.specs.declared.rules.Rules.{Rules}
use Rattle.paving_log.specs.Values.{block_of}
use Rattle.paving_log.specs.declared.log.LogEpoch.{LogEpoch}
use Rattle.paving_log_check.specs.Admissible.{IsDue}
use Rattle.paving_log_check.specs.Taken.{IsTakenBy}
use Rattle.grid_model.proofs.ListLemmas.{next_item, no_item}

-- the blocks from a place on
pub block_left : (blocks : List LogEpoch) (k : ℕ) (epoch : LogEpoch) → k < length blocks
    → epoch ≡ get_or blocks k epoch
    → drop k (map block_of blocks) ≡ block_of epoch ∷ drop (k + 1) (map block_of blocks)
block_left blocks k epoch within is = next_item (map block_of blocks) k (block_of epoch) (omega (arith, length-map blocks block_of))
    (ap block_of is ∙ sym (get_or-map block_of blocks k epoch))

pub blocks_ended : (blocks : List LogEpoch) (k : ℕ) → length blocks ≤ k
    → drop k (map block_of blocks) ≡ []
blocks_ended blocks k ended = no_item (map block_of blocks) k (omega (arith, length-map blocks block_of))

-- ---- the next search

module _ (rules : Rules) (before : Option ℕ) (searches : List Block → List Search) where
  -- a block is left: it is due where its search was taken
  pub due_block : {X : Type 0} (seen : X → ObsEpoch) (root : X → GridBox) (keeps : GridBox → Block → Option GridBox) (behind : ℤ → Option GridBox → List Block → List Search) (block : Block) (left more : List Block) (found : Option X)
      → left ≡ block ∷ more
      → MatchOption found ((others : List Block) → IsDue rules before (searches (block ∷ others)) (block ∷ others) → ⊥)
      (λ x. IsTakenBy rules before searches keeps behind (seen x) (root x) block)
      → IsTrue (is_some found) ↔ IsDue rules before (searches left) left
  due_block seen root keeps behind block left more None is m = (λ h. absurd cc, λ due. absurd (m more (rw is at due)))
  due_block seen root keeps behind block left more (Some x) is m =
      (λ h. rw (is, m.first.goes_on block more) m.is_of, λ due. refl)

  -- no block is left: that is due where no search is
  pub due_none : {X Ready : Type 0} (seen : X → ObsEpoch) (root : X → GridBox) (keeps : GridBox → Block → Option GridBox) (behind : ℤ → Option GridBox → List Block → List Search) (left : List Block) (found : Option X) (none : Bool)
      → is_some found ≡ not none → left ≡ [] → Ready
      → MatchOption found (Ready → MakesNone searches) (λ x. Ready → IsFirst searches keeps behind (seen x) (root x))
      → IsTrue none ↔ IsDue rules before (searches left) left
  due_none seen root keeps behind left None true same is ready m = (λ h. rw (is, m ready []) tt, λ due. refl)
  due_none seen root keeps behind left None false same is ready m = absurd cc
  due_none seen root keeps behind left (Some x) true same is ready m = absurd cc
  due_none seen root keeps behind left (Some x) false same is ready m =
      (λ h. absurd cc, λ due. absurd (rw (is, (m ready).ends.1) at due))
