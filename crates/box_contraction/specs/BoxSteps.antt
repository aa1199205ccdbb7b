-- The steps of one box of a paving: it is cut at its faces, and then split or closed.
use Rattle.std.specs.Prelude.{◌≡◌, ℕ, ◌⊎◌, ℤ, List, [], ◌∷◌, ◌++◌, Option, Bool, true, false}
use Rattle.sat_model.specs.declared.rules.Rules.{Rules}
use Rattle.sat_model.specs.declared.steps.Step.{Step}
use Rattle.grid_model.specs.Boxes.{Side, GridBox}
use Rattle.sat_model.specs.BoxTests.{BoxTest, IsHull}
use Rattle.sat_model.specs.Fold.{ShownStep}
use Rattle.sat_model.specs.Waiting.{WaitingBox, IsUndecided, Closes}
use Rattle.sat_model.specs.Proposals.{IsProposal}
use Rattle.sat_model.specs.RowTrees.{row_tree}
use Rattle.sat_model.specs.Trees.{TreeValue}
use Rattle.box_contraction.specs.Cuts.{AreProposalCuts, AreEighthCuts, AreSomeCuts}

-- the cuts are those by some proposal of the tree
pub record AreCutsByTree (grain slack : ℤ) (t : TreeValue) (clock : Side) (test : BoxTest)
    (id : ℕ) (part : GridBox) (cuts : List ShownStep) (left : GridBox) : Type 0 where
  pub answer : Option GridBox
  pub proposal : IsProposal grain slack t clock part answer
  pub are : AreProposalCuts test id answer part cuts left

-- for intervals between multiples of the grain, with faces that are tight but for the slack
module _ (grain slack : ℤ) (test : BoxTest) where
  -- the tree of the rows is asked once, for the box and its clock hull; the box is cut to what it
  -- proposes, and then by eighths
  pub record IsCutDown (id : ℕ) (part : GridBox) (cuts : List ShownStep) (left : GridBox)
      : Type 0 where
    pub clock : Side
    pub hull : IsHull test part clock.lo clock.hi
    pub by_tree : List ShownStep
    pub middle : GridBox
    pub tree_cuts : AreCutsByTree grain slack (row_tree grain test.rows test.q) clock test id part
        by_tree middle
    pub by_eighths : List ShownStep
    pub eighth_cuts : AreEighthCuts test id middle by_eighths left
    pub all_cuts : cuts ≡ by_tree ++ by_eighths

  -- where pairs of rows are asked no tree is, and it is left open which slabs are cut off
  abbrev pub IsCutBy : Bool → ℕ → GridBox → List ShownStep → GridBox → Type 0
  IsCutBy false id part cuts left = IsCutDown id part cuts left
  IsCutBy true id part cuts left = AreSomeCuts test id part cuts left

  abbrev pub IsCut : ℕ → GridBox → List ShownStep → GridBox → Type 0
  IsCut = IsCutBy test.pairs

  -- a box that is shown empty or inner isn't cut
  abbrev pub AreCutsOf : WaitingBox → List ShownStep → GridBox → Type 0
  AreCutsOf box cuts left =
      (IsUndecided test box.part × IsCut box.id box.part cuts left)
      ⊎ ((IsUndecided test box.part → ⊥) × (cuts ≡ []) × (left ≡ box.part))

  -- the steps of a box that is taken up after so many splits: its cuts, and the step that splits or
  -- closes what they leave
  pub record AreBoxSteps (rules : Rules) (splits : ℕ) (box : WaitingBox) (steps : List ShownStep)
      : Type 0 where
    pub cuts : List ShownStep
    pub left : GridBox
    pub are_cuts : AreCutsOf box cuts left
    pub last : Step
    pub closes : Closes test rules splits box.id left last
    pub all_steps : steps ≡ cuts ++ (record { step = last; part = left }) ∷ []
