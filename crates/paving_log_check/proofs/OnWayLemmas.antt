-- The blocks of a log, checked one by one against the searches of a walk.
use Rattle.std.proofs.Common.{◌≡◌, ℕ, ◌+◌, ◌≤◌, List, [], ◌∷◌, ap, ◌∙◌, Option, None, Some}
use Rattle.std.specs.Prelude.{ℤ}
use Rattle.epoch_selection.specs.Searches.{Search, search_in}
use Rattle.epoch_selection.specs.Walks.{IsFirst}
use Rattle.gnss_model.specs.declared.delays.Delays.{Delays}
use Rattle.grid_model.specs.Boxes.{GridBox}
use Rattle.grid_model.specs.SearchBoxes.{IsSearchBox}
use Rattle.paving_log.specs.CoverBoxes.{BodyFolds}
use Rattle.rinex_obs.specs.declared.obs.ObsEpoch.{ObsEpoch}
use Rattle.sat_model.specs.BoxTests.{test_in}
use Rattle.sat_model.specs.Cover.{kept_in}
use Rattle.sat_model.specs.Logs.{Body, Block, LogValue, first_rows, lines_in, IsNumbered}
use Rattle.sat_model.specs.Stages.{first_stage}
use Rattle.sat_model.specs.declared.rows.Row.{Row}
use Rattle.sat_model.specs.declared.rules.Rules.{Rules}
use Rattle.sat_rows.specs.Meanings.{Meaning, IsSound}
use Rattle.subpaving.proofs.FoldingLemmas.{steps_fold}
use Rattle.paving_log_check.specs.Admissible.{AreSameRules, IsOf, IsDue}
use Rattle.paving_log_check.specs.Checked.{EpochAccepted, IsAccepted}
use Rattle.paving_log_check.specs.Epochs.{BodyPassesAt}
use Rattle.paving_log_check.specs.Renewed.{HoldsGiven}
use Rattle.paving_log_check.proofs.CheckLemmas.{IsUnderway, underway_first, underway_more, all_accepted}
use Rattle.paving_log_check.proofs.FitLemmas.{AreInBoxes}

-- ---- a block that passes

module _ (delays : Delays) (rules : Rules) (root : GridBox) (renewed : List (List Row)) (block : Block) where
  pub body_folds : (theirs : Option Body) → BodyPassesAt delays rules root renewed block theirs
      → BodyFolds theirs
  body_folds None h = tt
  body_folds (Some body) h =
      steps_fold (HoldsGiven delays renewed) (first_rows block body) rules body.done 0 (first_stage (test_in rules block) body.root) body.events h.1.events

  -- its body has the root of the search
  pub body_root : (theirs : Option Body) → BodyPassesAt delays rules root renewed block theirs
      → (body : Body) → theirs ≡ Some body → body.root ≡ root
  body_root None h body is = absurd cc
  body_root (Some other) h body is = let same : other ≡ body = cc in rw same at h.0

-- ---- block by block

module _ (m : Meaning) (rules : Rules) (searches : List Block → List Search) (log : LogValue) where
  -- the blocks behind those so far are checked against what the walk still searches
  pub record IsOnWay (before : Option ℕ) (next boxes : ℕ) (left : List Block → List Search) (blocks : List Block) : Type 0 where
    pub underway : IsUnderway m rules (searches log.blocks) log before next boxes (left blocks) blocks
    pub in_boxes : AreInBoxes (left blocks) → AreInBoxes (searches log.blocks)

  pub way_first : IsNumbered log → IsOnWay None 3 0 searches log.blocks
  way_first numbered = record {
    underway = underway_first m rules (searches log.blocks) log numbered;
    in_boxes = λ boxes. boxes;
  }

  module _ {before : Option ℕ} {next boxes : ℕ} {left : List Block → List Search} {blocks : List Block} (w : IsOnWay before next boxes left blocks)
      (keeps : GridBox → Block → Option GridBox) (behind : ℤ → Option GridBox → List Block → List Search) (seen : ObsEpoch) (root : GridBox) (block : Block) (more : List Block)
      (taken : IsFirst left keeps behind seen root) (first : blocks ≡ block ∷ more) where
    -- the search of the block stands in front of those that go on from what it keeps
    pub next_search : left blocks ≡ search_in root seen ∷ behind seen.tag (keeps root block) more
    next_search = ap left first ∙ taken.goes_on block more

    pub way_more : (later : List Block → List Search) (kept : ℕ) → IsSearchBox root
        → later more ≡ behind seen.tag (keeps root block) more → IsOf rules before seen block
        → EpochAccepted m rules (search_in root seen) block → kept ≡ kept_in block.body
        → kept ≤ lines_in block
        → IsOnWay (Some block.index) (next + lines_in block) (boxes + kept) later more
    way_more later kept sized goes is_of accepted count few =
        let here : left blocks ≡ search_in root seen ∷ later more = rw goes next_search in
        record {
          underway = underway_more m (search_in root seen) (later more) block more kept w.underway here first is_of accepted count few;
          in_boxes = λ boxes. w.in_boxes (rw here (sized, boxes));
        }

-- no search is left
boxes_ended : (rules : Rules) (before : Option ℕ) (rest : List Search) → IsDue rules before rest []
    → AreInBoxes rest
boxes_ended rules before [] due = tt
boxes_ended rules before (search ∷ rest) due = absurd due

pub way_ended : (m : Meaning) (rules : Rules) (searches : List Block → List Search) (log : LogValue) {before : Option ℕ} {next boxes : ℕ} {left : List Block → List Search} {blocks : List Block}
    → IsSound m
    → IsOnWay m rules searches log before next boxes left blocks → AreSameRules rules log.rules
    → blocks ≡ [] → IsDue rules before (left []) []
    → IsAccepted m (searches log.blocks) rules log boxes
way_ended m rules searches log {before = before} {left = left} {blocks = blocks} sound w same ended due =
    let here : IsDue rules before (left blocks) [] = rw ended due in
    all_accepted m log sound (w.in_boxes (boxes_ended rules before (left blocks) here)) w.underway same ended here
