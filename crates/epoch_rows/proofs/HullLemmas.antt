-- The hull that a paving tells is that of the boxes that cover its block, and a part of its root.
use Rattle.std.proofs.Common.{◌≡◌, Bool, true, false, List, [], ◌∷◌, ◌++◌, refl, sym, ap, subst, ◌∙◌, Option, None, Some}
use Rattle.std.specs.Prelude.{ℤ, is_none}
use Rattle.bound_directions.specs.declared.directions.Directions.{Directions}
use Rattle.subpaving.proofs.FoldingLemmas.{steps_fold}
use Rattle.subpaving.specs.Folding.{StepsFold}
use Rattle.log_writer.specs.LastRenewals.{last_events}
use Rattle.log_writer.specs.Kept.{hull_kept}
use Rattle.log_writer.specs.Pavings.{BodyExtends, HasRun}
use Rattle.moving_tube.specs.Hulls.{hull_with, hull_behind, hull_of, HullLies}
use Rattle.moving_tube.specs.Roots.{kept_with, kept_of}
use Rattle.moving_tube.specs.Tracks.{HasRoot}
use Rattle.moving_tube.proofs.KeptLemmas.{kept_lies}
use Rattle.paving.proofs.TurnLemmas.{Suits, turns_pass}
use Rattle.paving.specs.Renewing.{Maker}
use Rattle.paving_log.specs.CoverBoxes.{BodyFolds, kept_parts, cover_of}
use Rattle.grid_model.specs.Boxes.{GridBox}
use Rattle.sat_model.specs.Contractors.{LiesIn}
use Rattle.sat_model.specs.BoxTests.{test_in}
use Rattle.sat_model.specs.Cover.{is_kept}
use Rattle.sat_model.specs.Events.{Event, Made, Renewed, RowsOver, steps_in}
use Rattle.sat_model.specs.Fold.{ShownStep, first_boxes, pieces}
use Rattle.sat_model.specs.declared.steps.Step.{Step}
use Rattle.paving.specs.Turns.{events_of}
use Rattle.sat_model.specs.KeptHulls as paved
use Rattle.sat_model.specs.Logs.{Body, Block, is_few, rows_of, first_rows}
use Rattle.sat_model.specs.Renewals.{AnyLine}
use Rattle.sat_model.specs.Stages.{first_stage}
use Rattle.sat_model.specs.declared.rules.Rules.{Rules}
use Rattle.tube_searches.specs.Tubes.{tube_value, with_kept, tube_searches}
use Rattle.tube_searches.specs.declared.tube.Tube.{Tube}
use Rattle.epoch_rows.specs.EpochsLeft.{kept_told}
use Rattle.epoch_rows.specs.Ready.{GoesByHull}

-- ---- what is told

same_with : (hull : Option GridBox) (part : GridBox)
    → paved.hull_with hull part ≡ hull_with hull part
same_with None part = refl
same_with (Some hull) part = refl

same_behind : (hull : Option GridBox) (parts : List ShownStep)
    → paved.hull_behind hull parts ≡ hull_behind hull (kept_parts parts)
same_behind hull [] = refl
same_behind hull (piece ∷ more) =
    by_kind (is_kept piece) (λ (h : Option GridBox). same_behind h more) refl
  where
    by_kind : (kept : Bool)
        → ((h : Option GridBox) → paved.hull_behind h more ≡ hull_behind h (kept_parts more))
        → is_kept piece ≡ kept
        → paved.hull_behind (paved.hull_after hull piece) more
        ≡ hull_behind hull (kept_parts (piece ∷ more))
    by_kind true later e =
        rw e (ap (λ (h : Option GridBox). paved.hull_behind h more) (same_with hull piece.part)
        ∙ later (hull_with hull piece.part))
    by_kind false later e = rw e (later hull)

pub hull_told : (body : Option Body) → hull_kept body ≡ hull_of (cover_of body)
hull_told None = refl
hull_told (Some body) = same_behind None (pieces body.root (steps_in body.events))

told_with : (root : GridBox) (body : Option Body)
    → kept_with root body ≡ kept_told (is_none body) root (hull_kept body)
told_with root None = refl
told_with root (Some body) = sym (hull_told (Some body))

-- what is told of a block is what it keeps
pub told_kept : (root : GridBox) (block : Block)
    → kept_of root block ≡ kept_told (is_few block) root (hull_kept block.body)
told_kept root block = told_with root block.body

-- so a walk that goes on from the one does from the other
pub tube_told : GoesByHull kept_of (λ (t : Tube) (tag : ℤ) (kept : Option GridBox). tube_searches (with_kept (tube_value t) tag kept))
tube_told t tag root block blocks =
    ap (λ (kept : Option GridBox). tube_searches (with_kept (tube_value t) tag kept) blocks) (told_kept root block)

-- ---- where it lies

-- rows that are renewed behind the last step are no step
steps_before : (events : List Event) (last : Option RowsOver)
    → steps_in (events ++ last_events last) ≡ steps_in events
steps_before [] None = refl
steps_before [] (Some new) = refl
steps_before (Made step ∷ events) last = ap (λ (steps : List Step). step ∷ steps) (steps_before events last)
steps_before (Renewed new ∷ events) last = steps_before events last

module _ (directions : Option Directions) (maker : Maker) (rules : Rules) (block : Block) (suits : Suits maker (rows_of block.sats)) where
  run_folds : (body : Body) → HasRun directions maker rules block body → BodyFolds (Some body)
  run_folds body r =
      let folds = steps_fold AnyLine (first_rows block body) rules r.run.last.splits 0 (first_stage (test_in rules block) body.root) (events_of r.shown)
      (turns_pass maker (test_in rules block) rules body.root r.shown suits r.run) in
      subst (λ (steps : List Step). StepsFold (first_boxes body.root) steps)
      (sym (ap steps_in r.events ∙ steps_before (events_of r.shown) r.last)) folds

  extends_folds : (given body : Option Body) → BodyExtends (HasRun directions maker rules) block given body
      → BodyFolds body
  extends_folds None None is = tt
  extends_folds None (Some body) is = absurd is
  extends_folds (Some given) None is = absurd is
  extends_folds (Some given) (Some body) is = run_folds body is.1

  same_root : (root : GridBox) (given body : Option Body) → HasRoot root given
      → BodyExtends (HasRun directions maker rules) block given body
      → (b : Body) → body ≡ Some b → b.root ≡ root
  same_root root None None has is b some = absurd cc
  same_root root None (Some body) has is b some = absurd is
  same_root root (Some given) None has is b some = absurd is
  same_root root (Some given) (Some body) has is b some =
      let same : body ≡ b = cc in
      subst (λ (l : Body). l.root ≡ root) same (is.0 ∙ has)

  pub told_lies : (root : GridBox) (given : Option Body) → LiesIn root root → HasRoot root given
      → BodyExtends (HasRun directions maker rules) block given block.body
      → HullLies (kept_told (is_few block) root (hull_kept block.body)) root
  told_lies root given own has is =
      subst (λ (o : Option GridBox). HullLies o root) (told_kept root block)
      (kept_lies root root own block (extends_folds given block.body is) (same_root root given block.body has is))
