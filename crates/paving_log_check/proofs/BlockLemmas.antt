-- The lines of a block, and a log judged block by block.
use Rattle.std.proofs.Common.{◌≡◌, ℕ, zero, suc, ◌+◌, ◌<◌, ◌≤◌, arith, List, [], ◌∷◌, length, drop, ap, Option, Some, inl, inr}
use Rattle.grid_model.specs.Boxes.{GridBox}
use Rattle.sat_model.specs.declared.rules.Rules.{Rules}
use Rattle.sat_model.specs.Bounds.{BoundValue, lines_of_bounds}
use Rattle.sat_model.specs.BoxTests.{test_in}
use Rattle.sat_model.specs.Cover.{kept_in, kept_boxes_in, kept_boxes}
use Rattle.sat_model.specs.Events.{Event, Made, Renewed, RowsOver, steps_in, lines_of_all}
use Rattle.sat_model.specs.KeptHulls.{kept_hull}
use Rattle.sat_model.specs.MovedFaces.{hull_under}
use Rattle.sat_model.specs.ShownBounds.{IsFirstUnshownOver}
use Rattle.sat_model.specs.Stages.{Stage, first_stage, after}
use Rattle.sat_model.specs.Logs.{Body, Block, LogValue, first_rows, lines_in, IsNumberedFrom}
use Rattle.sat_model.specs.Renewals.{LineTests, LinesFail, RenewalFails}
use Rattle.sat_model.specs.declared.rows.Row.{Row}
use Rattle.sat_model.specs.Fold.{Subpaving, pieces}
use Rattle.sat_model.specs.Verdicts.{EventsFail, BodyFailsBy, BlockPasses, BlockFails, BlocksPass, BlocksFail, Judged, FirstFault}
use Rattle.paving_log.proofs.OwnLemmas.{IsBlockAt}

-- ---- a failing line is one of the block's

module _ {F : Type 0} (tests : LineTests F) (first : RowsOver) where
  lines_within : (j i : ℕ) (rows : List Row) (k : ℕ) (fault : F)
      → LinesFail tests first j i rows k fault → k < length rows
  lines_within j i [] k fault f = absurd f
  lines_within j i (row ∷ rows) zero fault f = omega arith
  lines_within j i (row ∷ rows) (suc k) fault f = omega (arith, lines_within j (suc i) rows k fault f.1)

  pub renewal_within : (j : ℕ) (boxes : Subpaving) (new : RowsOver) (k : ℕ) (fault : F)
      → RenewalFails tests first j boxes new k fault → k ≤ length new.rows
  renewal_within j boxes new zero fault f = omega arith
  renewal_within j boxes new (suc k) fault f = omega (arith, lines_within j 0 new.rows k fault f.1)

  events_within : (rules : Rules) (done j : ℕ) (stage : Stage) (events : List Event) (k : ℕ) (fault : F)
      → EventsFail tests first rules done j stage events k fault → k ≤ lines_of_all events
  events_within rules done j stage [] k fault f = omega (arith, f.0)
  events_within rules done j stage (Made step ∷ events) zero fault f = omega arith
  events_within rules done j stage (Made step ∷ events) (suc k) fault f = omega (arith, events_within rules done j (after stage (Made step)) events k fault f.1)
  events_within rules done j stage (Renewed new ∷ events) k fault (inl f) = omega (arith, renewal_within j stage.boxes new k fault f)
  events_within rules done j stage (Renewed new ∷ events) k fault (inr (l, is, passes, f)) =
      omega (arith, is, events_within rules done (suc j) (after stage (Renewed new)) events l fault f)

unshown_within : (q : ℕ) (first : RowsOver) (events : List Event) (hull : Option GridBox) (bounds : List BoundValue) (k : ℕ)
    → IsFirstUnshownOver q first events hull bounds k → k < lines_of_bounds bounds
unshown_within q first events hull [] k f = absurd f
unshown_within q first events hull (bound ∷ more) k (inl f) = omega (arith, f.1)
unshown_within q first events hull (bound ∷ more) k (inr (shown, (m, is, later))) =
    omega (arith, is, unshown_within q first events (hull_under bound.half hull) more m later)

pub body_within : {F : Type 0} (tests : LineTests F) (rules : Rules) (block : Block) (body : Body) (k : ℕ) (fault : F)
    → BodyFailsBy tests rules block body k fault → k ≤ lines_of_all body.events + lines_of_bounds body.bounds
body_within tests rules block body k fault (inl f) =
    omega (arith, events_within tests (first_rows block body) rules body.done 0 (first_stage (test_in rules block) body.root) body.events k fault f)
body_within tests rules block body k fault (inr f) =
    omega (
      arith,
      f.line,
      unshown_within rules.outliers (first_rows block body) body.events
          (kept_hull (pieces body.root (steps_in body.events))) body.bounds f.m f.unshown,
    )

-- ---- the log, from a block on

-- the blocks from number i on decide, behind a block of the index before
pub record IsUnderway (log : LogValue) (before : Option ℕ) (i boxes : ℕ) : Type 0 where
  pub pass : BlocksPass log.rules before (drop i log.blocks) → Judged log
  pub fail : (line number : ℕ) → BlocksFail log.rules before (drop i log.blocks) line number
      → FirstFault log line number
  pub kept : boxes + kept_boxes_in (drop i log.blocks) ≡ kept_boxes log
  pub next : ℕ
  pub numbered : IsNumberedFrom next (drop i log.blocks)
  pub few_boxes : boxes ≤ next

pub last_number : (next : ℕ) (blocks : List Block) → IsNumberedFrom next blocks → next ≤ 4000000001
last_number next [] h = h
last_number next (block ∷ more) h = omega (arith, last_number (next + lines_in block) more h.1)

numbered_here : {log : LogValue} {before : Option ℕ} {i boxes : ℕ} {block : Block} (u : IsUnderway log before i boxes)
    → IsBlockAt log i block
    → (block.line ≡ u.next) × IsNumberedFrom (u.next + lines_in block) (drop (i + 1) log.blocks)
numbered_here u here = rw here.at at u.numbered

pub underway_more : {log : LogValue} {before : Option ℕ} {i boxes : ℕ} {block : Block} (kept : ℕ)
    → IsUnderway log before i boxes → IsBlockAt log i block
    → BlockPasses log.rules before block → kept ≡ kept_in block.body → kept ≤ lines_in block
    → IsUnderway log (Some block.index) (i + 1) (boxes + kept)
underway_more {block = block} kept u here passes is_kept few = record {
  pass = λ h. u.pass (rw here.at (passes, h));
  fail = λ line number h. u.fail line number (rw here.at (inr (passes, h)));
  kept = omega (arith, u.kept, ap kept_boxes_in here.at);
  next = u.next + lines_in block;
  numbered = (numbered_here u here).1;
  few_boxes = omega (arith, u.few_boxes);
}

pub underway_fails : {log : LogValue} {before : Option ℕ} {i boxes : ℕ} {block : Block} (line number : ℕ)
    → IsUnderway log before i boxes → IsBlockAt log i block
    → BlockFails log.rules before block line number → FirstFault log line number
underway_fails line number u here fails = u.fail line number (rw here.at (inl fails))

-- the numbers of the block's lines
pub block_fits : {log : LogValue} {before : Option ℕ} {i boxes : ℕ} {block : Block}
    → IsUnderway log before i boxes → IsBlockAt log i block
    → block.line + lines_in block ≤ 4000000001
block_fits {log = log} {i = i} {block = block} u here =
    let (first, rest) = numbered_here u here in
    omega (arith, last_number (u.next + lines_in block) (drop (i + 1) log.blocks) rest)

pub boxes_fit : {log : LogValue} {before : Option ℕ} {i boxes : ℕ} {block : Block} (kept : ℕ)
    → IsUnderway log before i boxes → IsBlockAt log i block
    → kept ≤ lines_in block → boxes + kept ≤ 4000000001
boxes_fit {log = log} {i = i} {block = block} kept u here few =
    let (first, rest) = numbered_here u here in
    omega (arith, u.few_boxes, last_number (u.next + lines_in block) (drop (i + 1) log.blocks) rest)

pub underway_ends : {log : LogValue} {before : Option ℕ} {i boxes : ℕ}
    → IsUnderway log before i boxes → drop i log.blocks ≡ [] → Judged log
underway_ends u ended = u.pass (rw ended tt)
