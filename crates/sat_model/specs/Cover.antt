-- What a log claims of its epochs: its pieces partition the root, its in and edge boxes cover what
-- fits, and its bounds hold it.
use Rattle.std.specs.Prelude.{◌≡◌, ℕ, zero, suc, ◌+◌, ◌⊎◌, ℤ, ◌≤ℤ◌, Bool, true, cond, List, [], ◌∷◌}
use Rattle.std.specs.Prelude.{length, Option, None, Some, count_by, slice_get}
use Rattle.grid_model.specs.declared.boxes.Pos.{Pos}
use Rattle.sat_model.specs.declared.rows.Row.{Row}
use Rattle.sat_model.specs.declared.steps.Step.{Step}
use Rattle.sat_model.specs.declared.steps.Step.TheVariants.{Cut, Split, Outside, Inside, Edge}
use Rattle.grid_model.specs.Boxes.{GridBox, box_holds}
use Rattle.sat_model.specs.Bounds.{BoundValue}
use Rattle.sat_model.specs.Events.{Event, Made, Renewed, RowsOver, steps_in, renewals_in}
use Rattle.sat_model.specs.Fitting.{IsPossible, IsSure, AllBut}
use Rattle.sat_model.specs.Fold.{Subpaving, first_boxes, boxes_after, ShownStep, taken_by, pieces}
use Rattle.sat_model.specs.HalfSpaces.{IsInHalfSpace}
use Rattle.sat_model.specs.Logs.{Body, Block, LogValue, first_rows}
use Rattle.sat_model.specs.StepKinds.{is_kept_step}

-- each grid point of the root lies in one slab or closed box, and no other point in any
abbrev pub Partitions : GridBox → List ShownStep → Type 0
Partitions root parts =
    (p : Pos) → count_by (λ piece. box_holds piece.part p) parts ≡ cond (box_holds root p) 1 0

-- an in or edge box has b in its clock span
abbrev pub KeepsClock : Step → ℤ → Type 0
KeepsClock (Cut id face bound) b = ⊥
KeepsClock (Split id axis) b = ⊥
KeepsClock (Outside id) b = ⊥
KeepsClock (Inside id clock lo hi) b = (lo ≤ℤ b) × (b ≤ℤ hi)
KeepsClock (Edge id lo hi) b = (lo ≤ℤ b) × (b ≤ℤ hi)

abbrev pub Keeps : Pos → ℤ → ShownStep → Type 0
Keeps p b piece = (box_holds piece.part p ≡ true) × KeepsClock piece.step b

abbrev pub SomeKeeps : Pos → ℤ → List ShownStep → Type 0
SomeKeeps p b [] = ⊥
SomeKeeps p b (piece ∷ more) = Keeps p b piece ⊎ SomeKeeps p b more

-- ---- what fits, by all rows of an epoch: the first ones and those of each renewal

-- satellite i, from 0, is possible by each of these rows of it whose box holds the point
abbrev pub IsPossibleByAll : List RowsOver → Pos → ℤ → ℕ → Type 0
IsPossibleByAll [] p b i = Unit {0}
IsPossibleByAll (some ∷ more) p b i =
    ((row : Row) → box_holds some.part p ≡ true → slice_get some.rows i ≡ Some row
    → IsPossible p b row)
    × IsPossibleByAll more p b i

-- so many numbers from this one on
abbrev pub numbers_from : ℕ → ℕ → List ℕ
numbers_from i zero = []
numbers_from i (suc n) = i ∷ numbers_from (suc i) n

-- wherever all satellites but at most q are possible, an in or edge box keeps the point and the
-- offset
abbrev pub Covers : ℕ → RowsOver → List RowsOver → List ShownStep → Type 0
Covers q first renewals parts = (p : Pos) (b : ℤ) → box_holds first.part p ≡ true →
    AllBut q (IsPossibleByAll (first ∷ renewals) p b) (numbers_from 0 (length first.rows))
    → SomeKeeps p b parts

-- ---- what surely fits

-- at each point of an in box all rows but at most q are sure at its clock
abbrev pub IsSureInside : List Row → ℕ → Step → GridBox → Type 0
IsSureInside rows q (Cut id face bound) part = Unit {0}
IsSureInside rows q (Split id axis) part = Unit {0}
IsSureInside rows q (Outside id) part = Unit {0}
IsSureInside rows q (Inside id clock lo hi) part =
    (p : Pos) → box_holds part p ≡ true → AllBut q (IsSure p clock) rows
IsSureInside rows q (Edge id lo hi) part = Unit {0}

abbrev pub AreSureInside : List Row → ℕ → List ShownStep → Type 0
AreSureInside rows q [] = Unit {0}
AreSureInside rows q (piece ∷ more) =
    IsSureInside rows q piece.step piece.part × AreSureInside rows q more

-- from these boxes on, by the rows that are in use at each step
abbrev pub AreSureFrom : ℕ → List Row → Subpaving → List Event → Type 0
AreSureFrom q rows boxes [] = Unit {0}
AreSureFrom q rows boxes (Made step ∷ events) =
    AreSureInside rows q (taken_by boxes step)
    × AreSureFrom q rows (boxes_after boxes step) events
AreSureFrom q rows boxes (Renewed new ∷ events) = AreSureFrom q new.rows boxes events

-- ---- what is claimed

-- of an epoch with these first rows, over the root
pub record EpochCover (q : ℕ) (first : RowsOver) (events : List Event) : Type 0 where
  pub partition : Partitions first.part (pieces first.part (steps_in events))
  pub covers : Covers q first (renewals_in events) (pieces first.part (steps_in events))
  pub sure : AreSureFrom q first.rows (first_boxes first.part) events

-- what fits wherever all satellites but at most q are possible lies in each of these half-spaces
abbrev pub AreBounding : ℕ → RowsOver → List RowsOver → List BoundValue → Type 0
AreBounding q first renewals [] = Unit {0}
AreBounding q first renewals (bound ∷ more) = ((p : Pos) (b : ℤ) → box_holds first.part p ≡ true →
    AllBut q (IsPossibleByAll (first ∷ renewals) p b) (numbers_from 0 (length first.rows))
    → IsInHalfSpace bound.half p) × AreBounding q first renewals more

-- of an epoch with this body and these first rows
pub record BodyCover (q : ℕ) (first : RowsOver) (body : Body) : Type 0 where
  pub epoch : EpochCover q first body.events
  pub bounded : AreBounding q first (renewals_in body.events) body.bounds

abbrev pub BlockCover : ℕ → Block → Option Body → Type 0
BlockCover q block None = Unit {0}
BlockCover q block (Some body) = BodyCover q (first_rows block body) body

abbrev pub BlocksCover : ℕ → List Block → Type 0
BlocksCover q [] = Unit {0}
BlocksCover q (block ∷ more) = BlockCover q block block.body × BlocksCover q more

-- in every paved epoch of the log, with its rows taken as given
abbrev pub RowCover : LogValue → Type 0
RowCover log = BlocksCover log.rules.outliers log.blocks

-- ---- how many in and edge boxes there are

abbrev pub is_kept : ShownStep → Bool
is_kept piece = is_kept_step piece.step

abbrev pub kept_in : Option Body → ℕ
kept_in None = 0
kept_in (Some body) = count_by is_kept (pieces body.root (steps_in body.events))

abbrev pub kept_boxes_in : List Block → ℕ
kept_boxes_in [] = 0
kept_boxes_in (block ∷ more) = kept_in block.body + kept_boxes_in more

abbrev pub kept_boxes : LogValue → ℕ
kept_boxes log = kept_boxes_in log.blocks
