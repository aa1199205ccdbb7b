-- Boxes that wait in a paving: which of them comes next, what closes it, and what its steps open.
use Rattle.std.specs.Prelude.{◌≡◌, ℕ, ◌+◌, ◌*◌, ◌<◌, ◌≤◌, ◌⊎◌, pos, ◌<ℤ◌, ◌≤ℤ◌, List, [], ◌∷◌, ◌++◌}
use Rattle.std.specs.Prelude.{All}
use Rattle.sat_model.specs.declared.rules.Rules.{Rules}
use Rattle.sat_model.specs.declared.steps.Step.{Step}
use Rattle.sat_model.specs.declared.steps.Step.TheVariants.{Cut, Split, Outside, Inside, Edge}
use Rattle.grid_model.specs.Boxes.{GridBox, side_at, with_side, low_half, high_half}
use Rattle.sat_model.specs.BoxTests.{BoxTest, IsEmpty, NoneIsInner, IsLeastInner, IsHull}
use Rattle.sat_model.specs.Fold.{ShownStep}
use Rattle.grid_model.specs.Lengths.{longest_length, IsLongestAxis, bit_length}

-- ---- the boxes that wait

-- a box that waits, as it was opened
pub record WaitingBox : Type 0 where
  pub id : ℕ
  pub part : GridBox

-- the bit length of its longest side
abbrev pub bits_of : WaitingBox → ℕ
bits_of box = bit_length (longest_length box.part)

-- the boxes that wait, in order of opening, how many splits were made, and what boxes are tested by
-- from there on
pub record Paving : Type 0 where
  pub waiting : List WaitingBox
  pub splits : ℕ
  pub test : BoxTest

-- the root waits alone
abbrev pub first_waiting : GridBox → List WaitingBox
first_waiting root = (record { id = 0; part = root }) ∷ []

abbrev pub first_paving : BoxTest → GridBox → Paving
first_paving test root = record { waiting = first_waiting root; splits = 0; test = test }

-- next is the oldest of the greatest bit length, and rest are the others
pub record IsNext (waiting : List WaitingBox) (next : WaitingBox)
    (rest : List WaitingBox) : Type 0 where
  pub before : List WaitingBox
  pub behind : List WaitingBox
  pub all_waiting : waiting ≡ before ++ (next ∷ behind)
  pub others : rest ≡ before ++ behind
  pub before_shorter : All (λ box. bits_of box < bits_of next) before
  pub behind_no_longer : All (λ box. bits_of box ≤ bits_of next) behind

-- ---- the steps of one box

-- the box is neither shown empty nor shown inner
pub record IsUndecided (test : BoxTest) (part : GridBox) : Type 0 where
  pub not_empty : IsEmpty test part → ⊥
  pub not_inner : NoneIsInner test part

-- the box may be split: it is longer than the width, and splits are left
abbrev pub MaySplit : Rules → ℕ → GridBox → Type 0
MaySplit rules splits part = (rules.width <ℤ pos (longest_length part))
    × (splits < rules.bisections)

abbrev pub MayNotSplit : Rules → ℕ → GridBox → Type 0
MayNotSplit rules splits part =
    (pos (longest_length part) ≤ℤ rules.width) ⊎ (rules.bisections ≤ splits)

-- the step that splits or closes a box, after so many splits
abbrev pub Closes : BoxTest → Rules → ℕ → ℕ → GridBox → Step → Type 0
Closes test rules splits id part (Outside n) = (n ≡ id) × IsEmpty test part
Closes test rules splits id part (Inside n clock lo hi) =
    (n ≡ id) × IsLeastInner test part clock × IsHull test part lo hi
Closes test rules splits id part (Split n axis) =
    (n ≡ id) × IsUndecided test part × MaySplit rules splits part × IsLongestAxis part axis
Closes test rules splits id part (Edge n lo hi) =
    (n ≡ id) × IsUndecided test part × MayNotSplit rules splits part × IsHull test part lo hi
Closes test rules splits id part (Cut n face bound) = ⊥

-- ---- from box to box

-- a split opens two halves under the next two numbers
abbrev pub halves_from : ℕ → ℕ → GridBox → List WaitingBox
halves_from id axis part =
    (record { id = id; part = with_side axis part (low_half (side_at axis part)) })
    ∷ (record { id = id + 1; part = with_side axis part (high_half (side_at axis part)) })
    ∷ []

-- what a step opens: after s splits the numbers up to 2 * s are given
abbrev pub opened_by : ℕ → Step → GridBox → List WaitingBox
opened_by splits (Split n axis) part = halves_from (2 * splits + 1) axis part
opened_by splits (Outside n) part = []
opened_by splits (Inside n clock lo hi) part = []
opened_by splits (Edge n lo hi) part = []
opened_by splits (Cut n face bound) part = []

abbrev pub splits_after : ℕ → Step → ℕ
splits_after splits (Split n axis) = splits + 1
splits_after splits (Outside n) = splits
splits_after splits (Inside n clock lo hi) = splits
splits_after splits (Edge n lo hi) = splits
splits_after splits (Cut n face bound) = splits

-- the paving behind a step, which keeps the test
abbrev pub beyond : Paving → ShownStep → Paving
beyond paving shown = record {
  waiting = paving.waiting ++ opened_by paving.splits shown.step shown.part;
  splits = splits_after paving.splits shown.step;
  test = paving.test;
}

abbrev pub beyond_all : Paving → List ShownStep → Paving
beyond_all paving [] = paving
beyond_all paving (shown ∷ more) = beyond_all (beyond paving shown) more

-- the steps of all boxes, in order
abbrev pub joined : List (List ShownStep) → List ShownStep
joined [] = []
joined (own ∷ boxes) = own ++ joined boxes
