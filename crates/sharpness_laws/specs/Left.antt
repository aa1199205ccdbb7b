-- What a run leaves: no box that it splits, or closes at the edge, is clear, and where no pairs of
-- rows are asked no eighth at its faces.
use Rattle.std.specs.Prelude.{◌≡◌, ℕ, ◌≤◌, pos, ◌<ℤ◌, Bool, List, [], ◌∷◌, length, Option, None}
use Rattle.std.specs.Prelude.{Some, false}
use Rattle.std.specs.List.{AllByRecursion}
use Rattle.bound_directions.specs.declared.directions.Directions.{Directions}
use Rattle.box_contraction.specs.Cuts.{eighth_of, eighths}
use Rattle.epoch_rows.specs.Renewed.{hand_of, maker_of}
use Rattle.epoch_selection.specs.Searches.{Search}
use Rattle.grid_model.specs.Boxes.{GridBox, side_at}
use Rattle.sat_model.specs.Fold.{ShownStep, axis_of, slab_of_cut}
use Rattle.grid_model.specs.Lengths.{longest_length}
use Rattle.sat_model.specs.Logs.{Body, Block}
use Rattle.sat_model.specs.declared.rules.Rules.{Rules}
use Rattle.sat_model.specs.declared.steps.Step.{Step}
use Rattle.sat_model.specs.declared.steps.Step.TheVariants.{Cut, Split, Outside, Inside, Edge}
use Rattle.sat_rows.specs.Meanings.{Meaning}
use Rattle.sharpness_laws.specs.Clear.{IsClearlyEmpty, IsClearlyInner}
use Rattle.log_writer.specs.Pavings.{HasRun, HasBegun}
use Rattle.paving.specs.Renewing.{Maker}
use Rattle.paving.specs.Turns.{ShownEvent, shown_steps}

module _ (m : Meaning) (rules : Rules) (search : Search) where
  -- no slab of an eighth at one of the six faces, where that is at least one grid point thick, is
  -- clearly empty
  abbrev pub NoEighthIsClear : GridBox → Type 0
  NoEighthIsClear part = (face : ℕ) → face ≤ 5 → 1 ≤ eighth_of (side_at (axis_of face) part)
      → IsClearlyEmpty m rules.outliers search (slab_of_cut face (eighths face part) part) → ⊥

  pub record IsUnclear (part : GridBox) : Type 0 where
    pub not_empty : IsClearlyEmpty m rules.outliers search part → ⊥
    pub not_inner : IsClearlyInner m rules.outliers search part → ⊥
    pub no_eighth : rules.pairs ≡ false → NoEighthIsClear part

  -- after so many splits in all
  module _ (done : ℕ) where
    -- longer than the width only where all splits were made
    abbrev pub IsSplitUp : GridBox → Type 0
    IsSplitUp part = rules.width <ℤ pos (longest_length part) → done ≡ rules.bisections

    -- No box that is split or left at the edge is clear, and one at the edge is short, or the
    -- splits are used up.
    abbrev pub LeavesNothingClear : Step → GridBox → Type 0
    LeavesNothingClear (Cut id face bound) part = Unit {0}
    LeavesNothingClear (Split id axis) part = IsUnclear part
    LeavesNothingClear (Outside id) part = Unit {0}
    LeavesNothingClear (Inside id clock lo hi) part = Unit {0}
    LeavesNothingClear (Edge id lo hi) part = IsUnclear part × IsSplitUp part

    abbrev pub NothingClearLeft : List ShownStep → Type 0
    NothingClearLeft steps =
        AllByRecursion (λ shown. LeavesNothingClear shown.step shown.part) steps

    -- of steps with renewals among them
    abbrev pub NothingClearIn : List ShownEvent → Type 0
    NothingClearIn events = NothingClearLeft (shown_steps events)

-- ---- a log, where rows are renewed or aren't

-- who renews the rows of a block of the search
abbrev pub maker_in : Meaning → Bool → Search → Block → Maker
maker_in m renews search block = maker_of m renews (Some (hand_of search block))

module _ (m : Meaning) (renews : Bool) (directions : Option Directions) (rules : Rules) where
  -- a paved block has a run over its root, which leaves nothing clear there
  abbrev pub BodyLeavesNothingClear : Search → Block → Option Body → Type 0
  BodyLeavesNothingClear search block None = Unit {0}
  BodyLeavesNothingClear search block (Some body) = (body.root ≡ search.root)
      × (paved : HasRun directions (maker_in m renews search block) rules block body)
      × NothingClearIn m rules search body.done paved.shown

  -- A block in hand has the first events of one, which leave nothing clear either. The splits are
  -- those made when its last box was taken up.
  abbrev pub HandLeavesNothingClear : Search → Block → Option Body → Type 0
  HandLeavesNothingClear search block None = Unit {0}
  HandLeavesNothingClear search block (Some body) = (body.root ≡ search.root)
      × (first : HasBegun (maker_in m renews search block) rules block body)
      × NothingClearIn m rules search first.begun.paving.splits first.shown

  -- finished blocks of the first of these searches, one after another, and the one in hand of the
  -- next search, where there is one: so does each
  abbrev pub BlocksLeaveNothingClear : List Search → List Block → Option Block → Type 0
  BlocksLeaveNothingClear searches [] None = Unit {0}
  BlocksLeaveNothingClear [] [] (Some hand) = ⊥
  BlocksLeaveNothingClear (search ∷ searches) [] (Some hand) =
      HandLeavesNothingClear search hand hand.body
  BlocksLeaveNothingClear [] (block ∷ blocks) hand = ⊥
  BlocksLeaveNothingClear (search ∷ searches) (block ∷ blocks) hand =
      BodyLeavesNothingClear search block block.body
      × BlocksLeaveNothingClear searches blocks hand

  -- of a whole log, which has one of each search
  abbrev pub LogLeavesNothingClear : List Search → List Block → Type 0
  LogLeavesNothingClear searches blocks = (length blocks ≡ length searches)
      × BlocksLeaveNothingClear searches blocks None
