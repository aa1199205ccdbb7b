-- What an accepted log claims of the files: in each paved epoch its in and edge boxes keep whatever
-- fits, each in box fits at its clock, and its bounds hold whatever fits.
use Rattle.std.specs.Prelude.{◌≡◌, ℕ, ℤ, true, List, [], ◌∷◌, Option, None, Some}
use Rattle.epoch_selection.specs.Searches.{Search}
use Rattle.grid_model.specs.Boxes.{GridBox, box_holds}
use Rattle.sat_model.specs.Bounds.{BoundValue}
use Rattle.sat_model.specs.Cover.{Partitions, SomeKeeps}
use Rattle.sat_model.specs.Events.{steps_in}
use Rattle.sat_model.specs.Fold.{ShownStep, pieces}
use Rattle.sat_model.specs.HalfSpaces.{IsInHalfSpace}
use Rattle.sat_model.specs.Logs.{Body, Block, LogValue}
use Rattle.grid_model.specs.declared.boxes.Pos.{Pos}
use Rattle.sat_model.specs.declared.steps.Step.{Step}
use Rattle.sat_model.specs.declared.steps.Step.TheVariants.{Cut, Split, Outside, Inside, Edge}
use Rattle.sat_rows.specs.Fitting.{FitsEpoch}
use Rattle.sat_rows.specs.Meanings.{Meaning}

-- at each grid point of an in box this fits at its clock
abbrev pub FitsInside : (Pos → ℤ → Type 0) → Step → GridBox → Type 0
FitsInside FitsAt (Cut id face bound) part = Unit {0}
FitsInside FitsAt (Split id axis) part = Unit {0}
FitsInside FitsAt (Outside id) part = Unit {0}
FitsInside FitsAt (Inside id clock lo hi) part =
    (p : Pos) → box_holds part p ≡ true → FitsAt p clock
FitsInside FitsAt (Edge id lo hi) part = Unit {0}

abbrev pub AllFitInside : (Pos → ℤ → Type 0) → List ShownStep → Type 0
AllFitInside FitsAt [] = Unit {0}
AllFitInside FitsAt (piece ∷ more) =
    FitsInside FitsAt piece.step piece.part × AllFitInside FitsAt more

-- the pieces partition the root, an in or edge box keeps each of its points and each clock offset
-- that fits there, and each in box fits at its clock
pub record FitCover (FitsAt : Pos → ℤ → Type 0) (root : GridBox)
    (parts : List ShownStep) : Type 0 where
  pub partition : Partitions root parts
  pub covers : (p : Pos) (b : ℤ) → box_holds root p ≡ true → FitsAt p b → SomeKeeps p b parts
  pub fits_inside : AllFitInside FitsAt parts

-- each point of the root where something fits lies in each of the half-spaces
abbrev pub AreFitBounds : (Pos → ℤ → Type 0) → GridBox → List BoundValue → Type 0
AreFitBounds FitsAt root [] = Unit {0}
AreFitBounds FitsAt root (bound ∷ more) =
    ((p : Pos) (b : ℤ) → box_holds root p ≡ true → FitsAt p b → IsInHalfSpace bound.half p)
    × AreFitBounds FitsAt root more

-- the pieces cover what fits, and the bounds hold it
pub record FitBounded (FitsAt : Pos → ℤ → Type 0) (root : GridBox) (body : Body) : Type 0 where
  pub epoch : FitCover FitsAt root (pieces root (steps_in body.events))
  pub bounded : AreFitBounds FitsAt root body.bounds

abbrev pub FitBodyCover : (Pos → ℤ → Type 0) → GridBox → Option Body → Type 0
FitBodyCover FitsAt root None = Unit {0}
FitBodyCover FitsAt root (Some body) = FitBounded FitsAt root body

-- Each search has a block, and each of those that is paved covers what fits all but at most q
-- usable satellites, and bounds it, by what a source says of satellites.
abbrev pub BlocksFitCover : Meaning → ℕ → List Search → List Block → Type 0
BlocksFitCover m q [] [] = Unit {0}
BlocksFitCover m q [] (block ∷ more) = ⊥
BlocksFitCover m q (search ∷ rest) [] = ⊥
BlocksFitCover m q (search ∷ rest) (block ∷ more) =
    FitBodyCover (FitsEpoch m q search.root search.epoch) search.root block.body
    × BlocksFitCover m q rest more

-- in every paved epoch of the log
abbrev pub FileCover : Meaning → ℕ → List Search → LogValue → Type 0
FileCover m q searches log = BlocksFitCover m q searches log.blocks
