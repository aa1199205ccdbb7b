-- A log whose lines pass has no first fault, and a first fault is the only one.
use Rattle.std.proofs.Common.{◌≡◌, ℕ, zero, suc, arith, List, [], ◌∷◌, subst, inl, inr, refl, Option, None, Some}
use Rattle.sat_model.specs.declared.rows.Row.{Row}
use Rattle.sat_model.specs.declared.rules.Rules.{Rules}
use Rattle.sat_model.specs.declared.steps.Step.{Step}
use Rattle.sat_model.specs.declared.steps.Step.TheVariants.{Cut, Split, Outside, Inside, Edge}
use Rattle.grid_model.specs.Boxes.{GridBox}
use Rattle.sat_model.specs.BoxTests.{test_in, IsEmpty, IsInner, HoldsHull}
use Rattle.sat_model.specs.Events.{Event, Made, Renewed, RowsOver, steps_in}
use Rattle.sat_model.specs.Fold.{Subpaving, live_box, IsLive, pieces}
use Rattle.sat_model.specs.Bounds.{BoundValue}
use Rattle.sat_model.specs.Logs.{Body, Block, LogValue, first_rows}
use Rattle.sat_model.specs.KeptHulls.{kept_hull}
use Rattle.sat_model.specs.MovedFaces.{hull_under}
use Rattle.sat_model.specs.Renewals.{LinePasses, LinesPass, RenewalPasses, LineTests, no_tests, LineFails, LinesFail, RenewalFails}
use Rattle.sat_model.specs.ShownBounds.{AreShownOver, IsFirstUnshownOver}
use Rattle.sat_model.specs.Stages.{Stage, first_stage, after}
use Rattle.sat_model.specs.Verdicts.{IsLong, CutsEmptySlab, StepPasses, LiveFails, NotLive, StepFails, DonePasses, DoneFails, EventsPass, EventsFail, BodyPassesBy, BodyPasses, BodyFailsBy, HeadPasses, HeadFails, BlockPasses, BlockFails, BlocksPass, BlocksFail, Judged, FirstFault}

-- ---- a step

pub not_gone : (stage : Stage) (id number : ℕ) (part : GridBox) → IsLive stage.boxes id part
    → NotLive stage id number → ⊥
not_gone stage id number part is (gone, n) = absurd cc

pub same_box : (o : Option GridBox) (a c : GridBox) → o ≡ Some a → o ≡ Some c → a ≡ c
same_box o a c e f = cc

-- the live box that fails is the one that passes
pub not_failing : (stage : Stage) (id test number : ℕ) (Meets : GridBox → Type 0) (part : GridBox)
    → IsLive stage.boxes id part → Meets part
    → LiveFails stage id Meets test number → ⊥
not_failing stage id test number Meets part is meets (other, live, fails, n) = fails (subst Meets (same_box (live_box stage.boxes id) part other is live) meets)

pub step_not_both : (rules : Rules) (stage : Stage) (step : Step) (number : ℕ)
    → StepPasses rules stage step → StepFails rules stage step number → ⊥
step_not_both rules stage (Cut id face bound) number (part, is, cuts) f = elim f [
  | inl gone ↦ not_gone stage id number part is gone
  | inr fails ↦ not_failing stage id 57 number (CutsEmptySlab stage.test face bound) part is cuts fails
]
step_not_both rules stage (Split id axis) number (part, is, long, left) f = elim f [
  | inl gone ↦ not_gone stage id number part is gone
  | inr g ↦ elim g [
    | inl fails ↦ not_failing stage id 61 number (IsLong rules axis) part is long fails
    | inr (other, live, longer, full, n) ↦ absurd (omega arith)
  ]
]
step_not_both rules stage (Outside id) number (part, is, empty) f = elim f [
  | inl gone ↦ not_gone stage id number part is gone
  | inr fails ↦ not_failing stage id 58 number (λ c. IsEmpty stage.test c) part is empty fails
]
step_not_both rules stage (Inside id clock lo hi) number (part, is, inner, hull) f = elim f [
  | inl gone ↦ not_gone stage id number part is gone
  | inr g ↦ elim g [
    | inl fails ↦ not_failing stage id 59 number (λ c. IsInner stage.test c clock) part is inner fails
    | inr (other, live, shown, narrow, n) ↦
        not_failing stage id 60 60 (λ c. HoldsHull stage.test c lo hi) part is hull (other, live, narrow, refl)
  ]
]
step_not_both rules stage (Edge id lo hi) number (part, is, hull) f = elim f [
  | inl gone ↦ not_gone stage id number part is gone
  | inr fails ↦ not_failing stage id 60 number (λ c. HoldsHull stage.test c lo hi) part is hull fails
]

-- ---- renewals and steps

-- a line doesn't pass and fail the further tests of it
abbrev pub AreExclusive : {Fault : Type 0} → LineTests Fault → Type 0
AreExclusive {Fault} tests = (j i : ℕ) (row : Row) (fault : Fault) → tests.passes j i row → tests.fails j i row fault → ⊥

pub nothing_exclusive : AreExclusive no_tests
nothing_exclusive j i row fault h f = f

done_not_both : (done : ℕ) (stage : Stage) (number : ℕ) → DonePasses done stage
    → DoneFails done stage number → ⊥
done_not_both done stage number h f = elim f [
  | inl live ↦ live.0.1 (h.0 live.0.0)
  | inr count ↦ count.1 h.1
]

module _ {Fault : Type 0} (tests : LineTests Fault) (exclusive : AreExclusive tests) (first : RowsOver) where
  pub line_not_both : (j i : ℕ) (row : Row) (fault : Fault) → LinePasses tests.passes first j i row
      → LineFails tests first j i row fault → ⊥
  line_not_both j i row fault h f = elim f [
    | inl other ↦ other.0 h.0
    | inr later ↦ exclusive j i row fault h.1 later.1
  ]

  lines_not_both : (j i : ℕ) (rows : List Row) (k : ℕ) (fault : Fault)
      → LinesPass tests.passes first j i rows → LinesFail tests first j i rows k fault → ⊥
  lines_not_both j i [] k fault h f = f
  lines_not_both j i (row ∷ rows) zero fault h f = line_not_both j i row fault h.0 f
  lines_not_both j i (row ∷ rows) (suc k) fault h f = lines_not_both j (suc i) rows k fault h.1 f.1

  pub renewal_not_both : (j : ℕ) (boxes : Subpaving) (new : RowsOver) (k : ℕ) (fault : Fault)
      → RenewalPasses tests.passes first j boxes new → RenewalFails tests first j boxes new k fault
      → ⊥
  renewal_not_both j boxes new zero fault h f = f.0 h.holds
  renewal_not_both j boxes new (suc k) fault h f = lines_not_both j 0 new.rows k fault h.lines f.1

  pub events_not_both : (rules : Rules) (done j : ℕ) (stage : Stage) (events : List Event) (k : ℕ) (fault : Fault)
      → EventsPass tests.passes first rules done j stage events
      → EventsFail tests first rules done j stage events k fault → ⊥
  events_not_both rules done j stage [] k fault h f = done_not_both done stage (tests.number fault) h f.1
  events_not_both rules done j stage (Made step ∷ events) zero fault h f = step_not_both rules stage step (tests.number fault) h.0 f.0
  events_not_both rules done j stage (Made step ∷ events) (suc k) fault h f =
      events_not_both rules done j (after stage (Made step)) events k fault h.1 f.1
  events_not_both rules done j stage (Renewed new ∷ events) k fault h f = elim f [
    | inl fails ↦ renewal_not_both j stage.boxes new k fault h.0 fails
    | inr (m, e, passes, later) ↦ events_not_both rules done (suc j) (after stage (Renewed new)) events m fault h.1 later
  ]

-- ---- a block, and the log

pub head_not_both : (rules : Rules) (before : Option ℕ) (block : Block) (number : ℕ)
    → HeadPasses rules before block → HeadFails rules before block number → ⊥
head_not_both rules before block number h f = elim f [
  | inl fails ↦ fails.0 (h.later, h.suits)
  | inr fails ↦ fails.2 h.counts
]

-- a list of bounds that are all shown has none that isn't
unshown_not_both : (q : ℕ) (first : RowsOver) (events : List Event) (hull : Option GridBox) (bounds : List BoundValue) (k : ℕ)
    → AreShownOver q first events hull bounds → IsFirstUnshownOver q first events hull bounds k → ⊥
unshown_not_both q first events hull [] k h f = f
unshown_not_both q first events hull (bound ∷ more) k h f = elim f [
  | inl here ↦ here.0 h.0
  | inr (shown, (m, e, later)) ↦ unshown_not_both q first events (hull_under bound.half hull) more m h.1 later
]

pub body_not_both : {Fault : Type 0} (tests : LineTests Fault) → AreExclusive tests
    → (rules : Rules) (block : Block) (body : Body) (k : ℕ) (fault : Fault)
    → BodyPassesBy tests.passes rules block body → BodyFailsBy tests rules block body k fault → ⊥
body_not_both tests exclusive rules block body k fault h (inl fails) =
    events_not_both tests exclusive (first_rows block body) rules body.done
    0 (first_stage (test_in rules block) body.root) body.events k fault h.events fails
body_not_both tests exclusive rules block body k fault h (inr fails) =
    unshown_not_both rules.outliers (first_rows block body) body.events
    (kept_hull (pieces body.root (steps_in body.events))) body.bounds fails.m h.bounds fails.unshown

pub block_not_both : (rules : Rules) (before : Option ℕ) (block : Block) (line number : ℕ)
    → BlockPasses rules before block → BlockFails rules before block line number → ⊥
block_not_both rules before block line number h f = elim f [
  | inl fails ↦ head_not_both rules before block number h.head fails.0
  | inr g ↦ elim g [
    | inl (head, (k, first, is_line), n) ↦ h.sats k first.repeats
    | inr (head, none, (body, k, paved, fails, is_line)) ↦
        body_not_both no_tests nothing_exclusive rules block body k number
        (subst (λ (o : Option Body). BodyPasses rules block o) paved h.body) fails
  ]
]

blocks_not_both : (rules : Rules) (before : Option ℕ) (blocks : List Block) (line number : ℕ)
    → BlocksPass rules before blocks → BlocksFail rules before blocks line number → ⊥
blocks_not_both rules before [] line number h f = f
blocks_not_both rules before (block ∷ more) line number h f = elim f [
  | inl fails ↦ block_not_both rules before block line number h.0 fails
  | inr later ↦ blocks_not_both rules (Some block.index) more line number h.1 later.1
]

-- a log whose lines pass has no first fault
pub not_both : (log : LogValue) (line number : ℕ) → FirstFault log line number → Judged log → ⊥
not_both log line number f h = blocks_not_both log.rules None log.blocks line number h f
