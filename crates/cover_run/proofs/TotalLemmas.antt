-- The numbers of totals, summed block by block.
use Rattle.std.proofs.Common.{◌≡◌, ℕ, suc, ◌+◌, ◌*◌, ◌≤◌, arith, Bool, false, List, [], ◌∷◌, ap, cond}
use Rattle.std.proofs.Common.{count_by, drop, Option, None, Some, refl}
use Rattle.std.proofs.lemmas.List.Sums.{sum_by-cons, sum_by-append}
use Rattle.epoch_report.specs.Reports.{counts_of}
use Rattle.paving_log.proofs.OwnLemmas.{IsBlockAt}
use Rattle.sat_model.specs.BoxTests.{test_in}
use Rattle.sat_model.specs.Events.{Event, Made, Renewed, RowsOver, steps_in}
use Rattle.sat_model.specs.Fold.{ShownStep, boxes_after, pieces, pieces_from, slab_of_cut, taken_by}
use Rattle.sat_model.specs.Renewals.{AnyLine}
use Rattle.sat_model.specs.Stages.{Stage, after, first_stage}
use Rattle.sat_model.specs.Logs.{Body, Block, LogValue, IsNumbered, IsNumberedFrom, lines_in}
use Rattle.sat_model.specs.Logs.{first_rows}
use Rattle.sat_model.specs.StepKinds.{is_inside, is_edge, is_outside}
use Rattle.sat_model.specs.Verdicts.{BlocksPass, BodyPasses, BodyPassesBy, EventsPass, Judged}
use Rattle.sat_model.specs.Verdicts.{StepPasses}
use Rattle.sat_model.specs.declared.rules.Rules.{Rules}
use Rattle.sat_model.specs.declared.steps.Step.{Step}
use Rattle.sat_model.specs.declared.steps.Step.TheVariants.{Cut, Split, Outside, Inside, Edge}
use Rattle.cover_run.specs.Making.{count_of, is_of, summed}
use Rattle.cover_run.specs.declared.totals.Kind.{Kind}
use Rattle.cover_run.specs.declared.totals.Kind.TheVariants as kind
use Rattle.paving_log_check.proofs.BlockLemmas.{last_number}

-- ---- steps that pass are those of the report's lines

module _ (p : Step → Bool) (splits : (id axis : ℕ) → p (Split id axis) ≡ false) where
  abbrev shows : ShownStep → Bool
  shows piece = p piece.step

  one : (piece : ShownStep) → count_by shows (piece ∷ []) ≡ cond (p piece.step) 1 0
  one piece = omega (arith, sum_by-cons (λ (x : ShownStep). cond (shows x) 1 0) piece [])

  counted_taken : (rules : Rules) (stage : Stage) (step : Step)
      → StepPasses rules stage step → count_by shows (taken_by stage.boxes step) ≡ cond (p step) 1 0
  counted_taken rules stage (Cut id face bound) (part, is, cuts) =
      rw is (one (record { step = Cut id face bound; part = slab_of_cut face bound part }))
  counted_taken rules stage (Split id axis) h = rw (splits id axis) refl
  counted_taken rules stage (Outside id) (part, is, empty) =
      rw is (one (record { step = Outside id; part = part }))
  counted_taken rules stage (Inside id clock lo hi) (part, is, inner, hull) =
      rw is (one (record { step = Inside id clock lo hi; part = part }))
  counted_taken rules stage (Edge id lo hi) (part, is, hull) =
      rw is (one (record { step = Edge id lo hi; part = part }))

  -- a renewal takes no box
  counted : (first : RowsOver) (rules : Rules) (done j : ℕ) (stage : Stage) (events : List Event)
      → EventsPass AnyLine first rules done j stage events
      → count_by shows (pieces_from stage.boxes (steps_in events)) ≡ count_by p (steps_in events)
  counted first rules done j stage [] h = refl
  counted first rules done j stage (Renewed new ∷ events) h =
      counted first rules done (suc j) (after stage (Renewed new)) events h.1
  counted first rules done j stage (Made step ∷ events) h =
      omega (
        arith,
        sum_by-append (λ (x : ShownStep). cond (shows x) 1 0) (taken_by stage.boxes step)
            (pieces_from (boxes_after stage.boxes step) (steps_in events)),
        sum_by-cons (λ (s : Step). cond (p s) 1 0) step (steps_in events),
        counted_taken rules stage step h.0,
        counted first rules done j (after stage (Made step)) events h.1,
      )

counted_all : (p : Step → Bool) (splits : (id axis : ℕ) → p (Split id axis) ≡ false)
    (rules : Rules) (block : Block) (body : Body) → BodyPassesBy AnyLine rules block body
    → count_by (λ (x : ShownStep). p x.step) (pieces body.root (steps_in body.events))
    ≡ count_by p (steps_in body.events)
counted_all p splits rules block body passes =
    counted p splits (first_rows block body) rules body.done 0
    (first_stage (test_in rules block) body.root) body.events passes.events

pub count_is : (k : Kind) (rules : Rules) (block : Block) (body : Body)
    → BodyPassesBy AnyLine rules block body
    → count_of k (counts_of body.root (steps_in body.events))
    ≡ count_by (is_of k) (steps_in body.events)
count_is kind.Inside rules block body passes =
    counted_all is_inside (λ id axis. refl) rules block body passes
count_is kind.Edge rules block body passes =
    counted_all is_edge (λ id axis. refl) rules block body passes
count_is kind.Outside rules block body passes =
    counted_all is_outside (λ id axis. refl) rules block body passes
count_is kind.Splits rules block body passes = refl

-- ---- a sum, block by block

-- the blocks before number i have this sum
pub record IsSummed (number : Block → ℕ) (log : LogValue) (i total : ℕ) : Type 0 where
  pub whole : total + summed number (drop i log.blocks) ≡ summed number log.blocks
  pub next : ℕ
  pub numbered : IsNumberedFrom next (drop i log.blocks)
  pub few : total ≤ 4294967295 * next
  pub before : Option ℕ
  pub pass : BlocksPass log.rules before (drop i log.blocks)

module _ {number : Block → ℕ} {log : LogValue} where
  pub summed_first : IsNumbered log → Judged log → IsSummed number log 0 0
  summed_first numbered judged = record {
    whole = omega arith;
    next = 3;
    numbered = numbered;
    few = omega arith;
    before = None;
    pass = judged;
  }

  pub body_here : {i total : ℕ} {block : Block} → IsSummed number log i total
      → IsBlockAt log i block → BodyPasses log.rules block block.body
  body_here s here = (rw here.at at s.pass).0.body

  pub summed_more : {i total : ℕ} {block : Block} (one : ℕ) → IsSummed number log i total
      → IsBlockAt log i block → one ≡ number block → one ≤ 4294967295 * lines_in block
      → IsSummed number log (i + 1) (total + one)
  summed_more {block = block} one s here is few = record {
    whole = omega (arith, s.whole, ap (summed number) here.at, is);
    next = s.next + lines_in block;
    numbered = (rw here.at at s.numbered).1;
    few = omega (arith, s.few, few);
    before = Some block.index;
    pass = (rw here.at at s.pass).1;
  }

  pub summed_fits : {i total : ℕ} {block : Block} (one : ℕ) → IsSummed number log i total
      → IsBlockAt log i block → one ≤ 4294967295 * lines_in block
      → total + one ≤ 17179869184294967295
  summed_fits {i = i} {block = block} one s here few =
      omega (
        arith,
        s.few,
        few,
        last_number (s.next + lines_in block) (drop (i + 1) log.blocks) (rw here.at at s.numbered).1,
      )

  pub summed_all : {i total : ℕ} → IsSummed number log i total → drop i log.blocks ≡ []
      → total ≡ summed number log.blocks
  summed_all s none = omega (arith, s.whole, ap (summed number) none)
