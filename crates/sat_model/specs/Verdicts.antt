-- The tests that a log passes with its rows taken as given, and the first that fails.
use Rattle.std.specs.Prelude.{◌≡◌, ◌≢◌, ℕ, zero, suc, ◌+◌, ◌<◌, ◌≤◌, ◌⊎◌, ℤ, ◌-ℤ◌, ◌<ℤ◌, Bool, true}
use Rattle.std.specs.Prelude.{false, List, [], ◌∷◌, length, map, Option, None, Some, slice_get}
use Rattle.sat_model.specs.declared.rules.Rules.{Rules}
use Rattle.sat_model.specs.declared.rows.SatEntry.{SatEntry}
use Rattle.sat_model.specs.declared.steps.Step.{Step}
use Rattle.sat_model.specs.declared.steps.Step.TheVariants.{Cut, Split, Outside, Inside, Edge}
use Rattle.grid_model.specs.Boxes.{GridBox, side_at}
use Rattle.sat_model.specs.BoxTests.{BoxTest, test_in, IsEmpty, IsInner, HoldsHull}
use Rattle.sat_model.specs.Events.{Event, Made, Renewed, RowsOver, lines_of_all}
use Rattle.sat_model.specs.Fold.{live_box, IsLive, NoneLive, IsProperCut, slab_of_cut}
use Rattle.sat_model.specs.Stages.{Stage, first_stage, after}
use Rattle.sat_model.specs.Logs.{Body, Block, LogValue, is_few, sat_of, rows_of, first_rows}
use Rattle.sat_model.specs.Renewals.{LineFact, AnyLine, RenewalPasses, LineTests, no_tests}
use Rattle.sat_model.specs.Renewals.{RenewalFails}
use Rattle.sat_model.specs.ShownBounds.{AreBoundsShown, IsFirstUnshown}

-- ---- the lines of steps

-- the side is longer than the width
abbrev pub IsLong : Rules → ℕ → GridBox → Type 0
IsLong rules axis part = rules.width <ℤ ((side_at axis part).hi -ℤ (side_at axis part).lo)

-- the cut takes off a slab that is shown empty
abbrev pub CutsEmptySlab : BoxTest → ℕ → ℤ → GridBox → Type 0
CutsEmptySlab test face bound part =
    IsProperCut face bound part × IsEmpty test (slab_of_cut face bound part)

-- no test of the step fails, at this stage
abbrev pub StepPasses : Rules → Stage → Step → Type 0
StepPasses rules stage (Cut id face bound) =
    (part : GridBox) × IsLive stage.boxes id part × CutsEmptySlab stage.test face bound part
StepPasses rules stage (Split id axis) = (part : GridBox) × IsLive stage.boxes id part
    × IsLong rules axis part × (stage.boxes.splits < rules.bisections)
StepPasses rules stage (Outside id) =
    (part : GridBox) × IsLive stage.boxes id part × IsEmpty stage.test part
StepPasses rules stage (Inside id clock lo hi) =
    (part : GridBox) × IsLive stage.boxes id part × IsInner stage.test part clock
    × HoldsHull stage.test part lo hi
StepPasses rules stage (Edge id lo hi) =
    (part : GridBox) × IsLive stage.boxes id part × HoldsHull stage.test part lo hi

-- a live box fails the fact, under a test of this number
abbrev pub LiveFails : Stage → ℕ → (GridBox → Type 0) → ℕ → ℕ → Type 0
LiveFails stage id Meets test number =
    (part : GridBox) × IsLive stage.boxes id part × (Meets part → ⊥) × (number ≡ test)

abbrev pub NotLive : Stage → ℕ → ℕ → Type 0
NotLive stage id number = (live_box stage.boxes id ≡ None) × (number ≡ 56)

-- the least number of a test of the step that fails
abbrev pub StepFails : Rules → Stage → Step → ℕ → Type 0
StepFails rules stage (Cut id face bound) number =
    NotLive stage id number
    ⊎ LiveFails stage id (CutsEmptySlab stage.test face bound) 57 number
StepFails rules stage (Split id axis) number =
    NotLive stage id number
    ⊎ (LiveFails stage id (IsLong rules axis) 61 number
    ⊎ ((part : GridBox) × IsLive stage.boxes id part × IsLong rules axis part
    × (rules.bisections ≤ stage.boxes.splits) × (number ≡ 62)))
StepFails rules stage (Outside id) number =
    NotLive stage id number ⊎ LiveFails stage id (λ part. IsEmpty stage.test part) 58 number
StepFails rules stage (Inside id clock lo hi) number =
    NotLive stage id number
    ⊎ (LiveFails stage id (λ part. IsInner stage.test part clock) 59 number
    ⊎ ((part : GridBox) × IsLive stage.boxes id part × IsInner stage.test part clock
    × (HoldsHull stage.test part lo hi → ⊥) × (number ≡ 60)))
StepFails rules stage (Edge id lo hi) number =
    NotLive stage id number
    ⊎ LiveFails stage id (λ part. HoldsHull stage.test part lo hi) 60 number

-- ---- the line of the splits, behind all steps

abbrev pub DonePasses : ℕ → Stage → Type 0
DonePasses done stage = NoneLive stage.boxes × (stage.boxes.splits ≡ done)

-- the least number of a test of it that fails
abbrev pub DoneFails : ℕ → Stage → ℕ → Type 0
DoneFails done stage number =
    (((id : ℕ) × (live_box stage.boxes id ≢ None)) × (number ≡ 63))
    ⊎ (NoneLive stage.boxes × (stage.boxes.splits ≢ done) × (number ≡ 64))

-- ---- what stands behind the root, by the first rows and the rules

-- the steps and renewals from this stage on, behind j renewals, and the line of the splits behind
-- them fail no test
module _ (Meets : LineFact) (first : RowsOver) (rules : Rules) (done : ℕ) where
  abbrev pub EventsPass : ℕ → Stage → List Event → Type 0
  EventsPass j stage [] = DonePasses done stage
  EventsPass j stage (Made step ∷ events) =
      StepPasses rules stage step × EventsPass j (after stage (Made step)) events
  EventsPass j stage (Renewed new ∷ events) =
      RenewalPasses Meets first j stage.boxes new
      × EventsPass (suc j) (after stage (Renewed new)) events

-- the first of these lines that fails is k lines on, and the fault is told with the least number of
-- a test that fails there
module _ {Fault : Type 0} (tests : LineTests Fault) (first : RowsOver) (rules : Rules)
    (done : ℕ) where
  abbrev pub EventsFail : ℕ → Stage → List Event → ℕ → Fault → Type 0
  EventsFail j stage [] k fault =
      (k ≡ 0) × DoneFails done stage (tests.number fault) × tests.plain fault
  EventsFail j stage (Made step ∷ events) zero fault =
      StepFails rules stage step (tests.number fault) × tests.plain fault
  EventsFail j stage (Made step ∷ events) (suc k) fault =
      StepPasses rules stage step × EventsFail j (after stage (Made step)) events k fault
  EventsFail j stage (Renewed new ∷ events) k fault =
      RenewalFails tests first j stage.boxes new k fault
      ⊎ ((m : ℕ) × (k ≡ 1 + length new.rows + m)
      × RenewalPasses tests.passes first j stage.boxes new
      × EventsFail (suc j) (after stage (Renewed new)) events m fault)

-- ---- the first line of a block

-- the index is greater than that of the block before, where there is one
abbrev pub IsLater : Option ℕ → ℕ → Type 0
IsLater None index = Unit {0}
IsLater (Some before) index = before < index

-- a block of few satellites has fewer than four more than may be inconsistent
abbrev pub SuitsNumber : Bool → ℕ → ℕ → Type 0
SuitsNumber true q n = n < q + 4
SuitsNumber false q n = q + 4 ≤ n

-- its number of satellites is that of its rows, unless it is a block of few
abbrev pub CountsRows : Bool → ℕ → List SatEntry → Type 0
CountsRows true n sats = Unit {0}
CountsRows false n sats = length (rows_of sats) ≡ n

pub record HeadPasses (rules : Rules) (before : Option ℕ) (block : Block) : Type 0 where
  pub later : IsLater before block.index
  pub suits : SuitsNumber (is_few block) rules.outliers block.n
  pub counts : CountsRows (is_few block) block.n block.sats

abbrev pub HeadFails : Rules → Option ℕ → Block → ℕ → Type 0
HeadFails rules before block number =
    ((IsLater before block.index × SuitsNumber (is_few block) rules.outliers block.n → ⊥)
    × (number ≡ 51))
    ⊎ (IsLater before block.index × SuitsNumber (is_few block) rules.outliers block.n
    × (CountsRows (is_few block) block.n block.sats → ⊥) × (number ≡ 52))

-- ---- the satellite lines

-- satellite line k names the satellite of one before it
pub record IsRepeat (sats : List SatEntry) (k : ℕ) : Type 0 where
  pub earlier : ℕ
  pub is_earlier : earlier < k
  pub is_line : k < length sats
  pub same : slice_get (map sat_of sats) earlier ≡ slice_get (map sat_of sats) k

abbrev pub NoneRepeats : List SatEntry → Type 0
NoneRepeats sats = (k : ℕ) → IsRepeat sats k → ⊥

pub record IsFirstRepeat (sats : List SatEntry) (k : ℕ) : Type 0 where
  pub repeats : IsRepeat sats k
  pub first : (j : ℕ) → j < k → IsRepeat sats j → ⊥

-- ---- the blocks

-- No line of the body fails a test, by the block's rows, where so much is asked of the lines of
-- renewals.
pub record BodyPassesBy (Meets : LineFact) (rules : Rules) (block : Block) (body : Body)
    : Type 0 where
  pub events : EventsPass Meets (first_rows block body) rules body.done
      0 (first_stage (test_in rules block) body.root) body.events
  pub bounds : AreBoundsShown rules.outliers (first_rows block body) body.events body.bounds

-- all lines up to that of the splits pass, and a bound behind them, whose line is k lines behind the
-- root, is the first that isn't shown
pub record BoundFailsBy {Fault : Type 0} (tests : LineTests Fault) (rules : Rules) (block : Block)
    (body : Body) (k : ℕ) (fault : Fault) : Type 0 where
  pub events : EventsPass tests.passes (first_rows block body) rules body.done
      0 (first_stage (test_in rules block) body.root) body.events
  pub m : ℕ
  pub unshown : IsFirstUnshown rules.outliers (first_rows block body) body.events body.bounds m
  pub line : k ≡ lines_of_all body.events + 1 + m
  pub number : tests.number fault ≡ 66
  pub plain : tests.plain fault

-- the first line of it that fails is k lines behind the root
abbrev pub BodyFailsBy : {Fault : Type 0} → LineTests Fault → Rules → Block → Body → ℕ → Fault
    → Type 0
BodyFailsBy tests rules block body k fault =
    EventsFail tests (first_rows block body) rules body.done
    0 (first_stage (test_in rules block) body.root) body.events k fault
    ⊎ BoundFailsBy tests rules block body k fault

abbrev pub BodyPasses : Rules → Block → Option Body → Type 0
BodyPasses rules block None = Unit {0}
BodyPasses rules block (Some body) = BodyPassesBy AnyLine rules block body

-- no line of the block fails a test, behind a block of the index before
pub record BlockPasses (rules : Rules) (before : Option ℕ) (block : Block) : Type 0 where
  pub head : HeadPasses rules before block
  pub sats : NoneRepeats block.sats
  pub body : BodyPasses rules block block.body

-- the first line of the block that fails, and the least number of a test that fails there
abbrev pub BlockFails : Rules → Option ℕ → Block → ℕ → ℕ → Type 0
BlockFails rules before block line number =
    (HeadFails rules before block number × (line ≡ block.line))
    ⊎ ((HeadPasses rules before block × ((k : ℕ) × IsFirstRepeat block.sats k
    × (line ≡ block.line + 1 + k)) × (number ≡ 52))
    ⊎ (HeadPasses rules before block × NoneRepeats block.sats
    × ((body : Body) × (k : ℕ) × (block.body ≡ Some body)
    × BodyFailsBy no_tests rules block body k number
    × (line ≡ block.line + 2 + length block.sats + k))))

abbrev pub BlocksPass : Rules → Option ℕ → List Block → Type 0
BlocksPass rules before [] = Unit {0}
BlocksPass rules before (block ∷ more) =
    BlockPasses rules before block × BlocksPass rules (Some block.index) more

abbrev pub BlocksFail : Rules → Option ℕ → List Block → ℕ → ℕ → Type 0
BlocksFail rules before [] line number = ⊥
BlocksFail rules before (block ∷ more) line number =
    BlockFails rules before block line number
    ⊎ (BlockPasses rules before block × BlocksFail rules (Some block.index) more line number)

-- ---- the log

-- no test fails
abbrev pub Judged : LogValue → Type 0
Judged log = BlocksPass log.rules None log.blocks

-- the first line with a failing test, and the least number of one on it
abbrev pub FirstFault : LogValue → ℕ → ℕ → Type 0
FirstFault log line number = BlocksFail log.rules None log.blocks line number
