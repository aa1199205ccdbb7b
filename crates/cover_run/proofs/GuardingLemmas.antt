-- What `guard` tells of an accepted log.
use Rattle.std.proofs.Common.{◌≡◌, ℕ, suc, ◌+◌, ◌<◌, ◌≤◌, ◌^◌, Bool, true, false, List, [], ◌∷◌, length, Option, None, Some, refl, ap, subst, arith, Vec, Global}
use Rattle.std.specs.Prelude.{ℤ, ◌+ℤ◌, ◌*ℤ◌, ◌≤ℤ◌, is_none}
use Rattle.std.specs.List.{AllByRecursion}
use Rattle.std.proofs.lemmas.Int.{ints}
use Rattle.epoch_selection.specs.Searches.{Search}
use Rattle.epoch_selection.specs.declared.selection.Selection.{Selection}
use Rattle.grid_model.specs.Boxes.{GridBox, box_holds}
use Rattle.grid_model.specs.declared.boxes.Pos.{Pos}
use Rattle.gnss_model.specs.declared.delays.Delays.{Delays}
use Rattle.input_files.specs.declared.inputs.Inputs.{Inputs}
use Rattle.input_files.specs.Zones.{zones_value}
use Rattle.paving_log.specs.Values.{log_value}
use Rattle.paving_log.specs.CoverBoxes.{BodyFolds, cover_of, kept_parts}
use Rattle.paving_log_check.specs.Admissible.{AdmitsFrom}
use Rattle.paving_log_check.specs.Answers.{IfNo, IfYes}
use Rattle.paving_log_check.specs.Checked.{IsAccepted}
use Rattle.paving_log_check.specs.Epochs.{BodyPassesAt}
use Rattle.paving_log_check.specs.FileCover.{AreFitBounds, BlocksFitCover, FitBodyCover, FitCover}
use Rattle.paving_log_check.specs.OwnLines.{OwnLines}
use Rattle.paving_log_check.specs.declared.verdict.Fault.{Fault}
use Rattle.paving_log_check.specs.declared.verdict.Verdict.{Verdict}
use Rattle.paving_log_check.specs.declared.verdict.Verdict.TheVariants as verdict
use Rattle.sat_model.specs.Bounds.{BoundValue}
use Rattle.sat_model.specs.Cover.{SomeKeeps}
use Rattle.sat_model.specs.Fold.{ShownStep, pieces}
use Rattle.sat_model.specs.Events.{steps_in}
use Rattle.sat_model.specs.Logs.{Body, Block, IsNumberedFrom, LogValue, lines_in}
use Rattle.sat_model.specs.declared.rows.Row.{Row}
use Rattle.sat_model.specs.declared.rules.Rules.{Rules}
use Rattle.sat_rows.specs.Fitting.{FitsEpoch}
use Rattle.sat_rows.specs.Meanings.{Meaning}
use Rattle.paving_log_check.proofs.OnWayLemmas.{body_folds}
use Rattle.zone_guard.proofs.KeptLemmas.{holding, in_group, in_prism, in_zone, none_holds, none_in_group, none_in_zone, reached}
use Rattle.zone_guard.specs.Bounds.{bound_planes, bounds_of}
use Rattle.zone_guard.specs.EpochsFound.{AreEpochsFound, AreFindings, IsFoundIn}
use Rattle.zone_guard.specs.Findings.{IsFinding, corner_box}
use Rattle.zone_guard.specs.GroupAnswers.{pieces_of}
use Rattle.zone_guard.specs.Planes.{IsInPrism, PlaneValue}
use Rattle.zone_guard.specs.Watched.{BoxValue, FormValue, GroupValue, PrismValue, ReachValue, WatchValue}
use Rattle.zone_guard.specs.WatchValues.{watch_values}
use Rattle.zone_guard.specs.declared.found.EpochFindings.{EpochFindings}
use Rattle.zone_guard.specs.declared.found.Finding.{Finding}
use Rattle.zone_guard.specs.declared.found.Finding.TheVariants.{Zone, Reach}
use Rattle.zone_guard.specs.declared.watch.Watch.{Watch}
use Rattle.zone_guard.specs.declared.zone.ZoneAnswer.TheVariants.{Outside, Inside, Open}
use Rattle.cover_run.specs.Guarding.{AcceptsAs, SaysFound, SaysGuarded, searches_as}
use Rattle.cover_run.specs.Solving.{meaning_of}
use Rattle.cover_run.specs.declared.guarded.Guarded.{Guarded}
use Rattle.cover_run.specs.ZoneClaims.{AreEpochsTrue, AreTrueOf, IsEpochTrue, IsTrueAt}
use Rattle.cover_run.specs.ZoneTexts.{HasAll, HasAllOf}
use Rattle.cover_run.proofs.ZoneTotalLemmas.{totals_true}

-- ---- the steps of an accepted log fold

admitted_fold : (delays : Delays) (rules : Rules) (before : Option ℕ) (owns : List OwnLines) (searches : List Search) (blocks : List Block)
    → length owns ≡ length searches
    → AdmitsFrom delays rules before owns searches blocks
    → AllByRecursion (λ (block : Block). BodyFolds block.body) blocks
admitted_fold delays rules before [] [] [] each admits = tt
admitted_fold delays rules before [] [] (block ∷ more) each admits = absurd admits
admitted_fold delays rules before [] (s ∷ rest) blocks each admits = absurd (omega (arith, each))
admitted_fold delays rules before (own ∷ owns) [] blocks each admits = absurd (omega (arith, each))
admitted_fold delays rules before (own ∷ owns) (s ∷ rest) [] each admits = tt
admitted_fold delays rules before (own ∷ owns) (s ∷ rest) (block ∷ more) each admits = (
  body_folds delays rules s.root own.renewed block block.body admits.1.body,
  admitted_fold delays rules (Some block.index) owns rest more (omega (arith, each)) admits.2,
)

pub accepted_fold : (m : Meaning) (searches : List Search) (rules : Rules) (log : LogValue) (boxes : ℕ)
    → IsAccepted m searches rules log boxes
    → AllByRecursion (λ (block : Block). BodyFolds block.body) log.blocks
accepted_fold m searches rules log boxes accepted =
    admitted_fold m.delays rules None accepted.owns searches log.blocks accepted.admissible.each accepted.admissible.admits.blocks

-- ---- how many answers there are

as_many_found : (bounds : List PlaneValue) (boxes : List GridBox) (ws : List Watch) (found : List Finding)
    → AreFindings bounds boxes (watch_values ws) found → length found ≡ length ws
as_many_found bounds boxes [] [] are = refl
as_many_found bounds boxes [] (f ∷ found) are = absurd are
as_many_found bounds boxes (w ∷ ws) [] are = absurd are
as_many_found bounds boxes (w ∷ ws) (f ∷ found) are = ap suc (as_many_found bounds boxes ws found are.1)

has_all : (ws : List Watch) (block : Block) (found : Option (Vec Finding Global))
    → IsFoundIn (watch_values ws) block found → HasAllOf (length ws) found
has_all ws block None is = tt
has_all ws block (Some found) is = as_many_found (bounds_of block.body) (cover_of block.body) ws found.items is.1

pub all_have_all : (ws : List Watch) (blocks : List Block) (epochs : List EpochFindings)
    → AreEpochsFound (watch_values ws) blocks epochs → AllByRecursion (HasAll (length ws)) epochs
all_have_all ws [] [] are = tt
all_have_all ws [] (e ∷ epochs) are = absurd are
all_have_all ws (block ∷ more) [] are = absurd are
all_have_all ws (block ∷ more) (e ∷ epochs) are = (has_all ws block e.found are.0.1, all_have_all ws more epochs are.1)

as_many : (ws : List WatchValue) (blocks : List Block) (epochs : List EpochFindings)
    → AreEpochsFound ws blocks epochs → length epochs ≡ length blocks
as_many ws [] [] are = refl
as_many ws [] (e ∷ epochs) are = absurd are
as_many ws (block ∷ more) [] are = absurd are
as_many ws (block ∷ more) (e ∷ epochs) are = ap suc (as_many ws more epochs are.1)

numbered_few : (next : ℕ) (blocks : List Block) → IsNumberedFrom next blocks
    → next + length blocks ≤ 4000000001
numbered_few next [] is = omega (arith, is)
numbered_few next (block ∷ more) is = omega (arith, numbered_few (next + lines_in block) more is.1)

pub few_epochs : (ws : List WatchValue) (blocks : List Block) (epochs : List EpochFindings)
    → IsNumberedFrom 3 blocks → AreEpochsFound ws blocks epochs → length epochs < 2 ^ 32
few_epochs ws blocks epochs numbered are = omega (arith, as_many ws blocks epochs are, numbered_few 3 blocks numbered)

-- ---- the answers are true of what fits

module _ (bounds : List PlaneValue) (parts : List ShownStep) (p : Pos) (b : ℤ) (within : IsInPrism bounds p) where
  true_at : (form : FormValue) (f : Finding) → IsFinding bounds form (kept_parts parts) f
      → SomeKeeps p b parts → IsTrueAt form f p
  true_at (BoxValue lo hi) (Zone Outside) is keeps = λ holds. none_in_zone bounds p within (corner_box lo hi) (kept_parts parts) is holds (holding parts p b keeps)
  true_at (BoxValue lo hi) (Zone Inside) is keeps = in_zone bounds p within (corner_box lo hi) (kept_parts parts) is.1 (holding parts p b keeps)
  true_at (BoxValue lo hi) (Zone Open) is keeps = tt
  true_at (BoxValue lo hi) (Reach found) is keeps = is
  true_at (PrismValue sides) (Zone Outside) is keeps = λ lies. none_holds bounds p within sides (kept_parts parts) is lies (holding parts p b keeps)
  true_at (PrismValue sides) (Zone Inside) is keeps = in_prism bounds p within sides (kept_parts parts) is.1 (holding parts p b keeps)
  true_at (PrismValue sides) (Zone Open) is keeps = tt
  true_at (PrismValue sides) (Reach found) is keeps = is
  true_at (GroupValue m k sides) (Zone Outside) is keeps = λ lies. none_in_group bounds p within (pieces_of m k sides) (kept_parts parts) is lies (holding parts p b keeps)
  true_at (GroupValue m k sides) (Zone Inside) is keeps = in_group bounds p within (pieces_of m k sides) (kept_parts parts) is.1 (holding parts p b keeps)
  true_at (GroupValue m k sides) (Zone Open) is keeps = tt
  true_at (GroupValue m k sides) (Reach found) is keeps = is
  true_at (ReachValue a) (Zone found) is keeps = is
  true_at (ReachValue a) (Reach found) is keeps = reached a found (kept_parts parts) p is (holding parts p b keeps)

grouped : (a b d m : ℤ) → (a +ℤ b +ℤ d) ≤ℤ m → (a +ℤ (b +ℤ d)) ≤ℤ m
grouped a b d m h = omega (arith, ints, h)

module _ (FitsAt : Pos → ℤ → Type 0) (root : GridBox) where
  -- what fits lies within each bound
  within_bounds : (bounds : List BoundValue) (p : Pos) (b : ℤ) → box_holds root p ≡ true → FitsAt p b
      → AreFitBounds FitsAt root bounds → IsInPrism (bound_planes bounds) p
  within_bounds [] p b inside fits all = tt
  within_bounds (x ∷ bounds) p b inside fits all = (
    grouped (x.half.x *ℤ p.x) (x.half.y *ℤ p.y) (x.half.z *ℤ p.z) x.half.most (all.0 p b inside fits),
    within_bounds bounds p b inside fits all.1,
  )

  true_of : (bounds : List BoundValue) (parts : List ShownStep) → AreFitBounds FitsAt root bounds
      → FitCover FitsAt root parts
      → (ws : List WatchValue) (found : List Finding)
      → AreFindings (bound_planes bounds) (kept_parts parts) ws found
      → AreTrueOf FitsAt root ws found
  true_of bounds parts bounded cover [] [] are = tt
  true_of bounds parts bounded cover [] (f ∷ found) are = absurd are
  true_of bounds parts bounded cover (w ∷ ws) [] are = absurd are
  true_of bounds parts bounded cover (w ∷ ws) (f ∷ found) are = (
    λ p b inside fits. true_at (bound_planes bounds) parts p b (within_bounds bounds p b inside fits bounded) w.form f are.0 (cover.covers p b inside fits),
    true_of bounds parts bounded cover ws found are.1,
  )

  epoch_true : (delays : Delays) (rules : Rules) (renewed : List (List Row)) (block : Block) (body : Option Body)
      → BodyPassesAt delays rules root renewed block body → FitBodyCover FitsAt root body
      → (ws : List WatchValue) (found : List Finding) → is_none body ≡ false
      → AreFindings (bounds_of body) (cover_of body) ws found → AreTrueOf FitsAt root ws found
  epoch_true delays rules renewed block None passes cover ws found paved are = absurd cc
  epoch_true delays rules renewed block (Some body) passes cover ws found paved are =
      true_of body.bounds (pieces root (steps_in body.events)) cover.bounded cover.epoch ws found
      (subst (λ (box : GridBox). AreFindings (bound_planes body.bounds) (kept_parts (pieces box (steps_in body.events))) ws found) passes.0 are)

  block_true : (delays : Delays) (rules : Rules) (renewed : List (List Row)) (block : Block)
      → BodyPassesAt delays rules root renewed block block.body
      → FitBodyCover FitsAt root block.body
      → (ws : List WatchValue) (found : Option (Vec Finding Global)) → IsFoundIn ws block found
      → IsEpochTrue FitsAt root ws found
  block_true delays rules renewed block passes cover ws None is = tt
  block_true delays rules renewed block passes cover ws (Some found) is = epoch_true delays rules renewed block block.body passes cover ws found.items is.0 is.1

module _ (m : Meaning) (rules : Rules) (ws : List WatchValue) where
  epochs_true : (before : Option ℕ) (owns : List OwnLines) (searches : List Search) (blocks : List Block) (epochs : List EpochFindings)
      → length owns ≡ length searches
      → AdmitsFrom m.delays rules before owns searches blocks
      → BlocksFitCover m rules.outliers searches blocks → AreEpochsFound ws blocks epochs
      → AreEpochsTrue m rules.outliers ws searches epochs
  epochs_true before owns [] [] [] each admits cover are = tt
  epochs_true before owns [] [] (e ∷ epochs) each admits cover are = absurd are
  epochs_true before owns [] (block ∷ more) epochs each admits cover are = absurd cover
  epochs_true before owns (s ∷ rest) [] epochs each admits cover are = absurd cover
  epochs_true before owns (s ∷ rest) (block ∷ more) [] each admits cover are = absurd are
  epochs_true before [] (s ∷ rest) (block ∷ more) (e ∷ epochs) each admits cover are = absurd (omega (arith, each))
  epochs_true before (own ∷ owns) (s ∷ rest) (block ∷ more) (e ∷ epochs) each admits cover are = (
    block_true (FitsEpoch m rules.outliers s.root s.epoch) s.root m.delays rules own.renewed block admits.1.body cover.0 ws e.found are.0.1,
    epochs_true (Some block.index) owns rest more epochs (omega (arith, each)) admits.2 cover.1 are.1,
  )

  pub accepted_true : (searches : List Search) (log : LogValue) (boxes : ℕ) (epochs : List EpochFindings)
      → IsAccepted m searches rules log boxes
      → AreEpochsFound ws log.blocks epochs → AreEpochsTrue m rules.outliers ws searches epochs
  accepted_true searches log boxes epochs accepted are =
      epochs_true None accepted.owns searches log.blocks epochs accepted.admissible.each accepted.admissible.admits.blocks accepted.cover are

-- ---- by either verdict

pub accepted_as : (tracked : Bool) (chosen : Selection) (i : Inputs) (log : LogValue) (boxes : ℕ) (accepted : AcceptsAs tracked chosen i log boxes)
    → IsAccepted (meaning_of i) (searches_as tracked chosen i log boxes accepted) i.settings.rules log boxes
accepted_as false chosen i log boxes accepted = accepted.accepted
accepted_as true chosen i log boxes accepted = accepted.accepted

module _ (tracked : Bool) (chosen : Selection) (g : Guarded) (boxes : ℕ) (accepted : AcceptsAs tracked chosen g.checked.inputs (log_value g.checked.log) boxes) where
  pub guarded_fold : AllByRecursion (λ (block : Block). BodyFolds block.body) (log_value g.checked.log).blocks
  guarded_fold =
      let i = g.checked.inputs in
      let log = log_value g.checked.log in
      accepted_fold (meaning_of i) (searches_as tracked chosen i log boxes accepted) i.settings.rules log boxes (accepted_as tracked chosen i log boxes accepted)

  pub found_says : (text : List ℕ) → SaysFound g text → SaysGuarded tracked chosen g text
  found_says text (epochs, found, told) =
      let i = g.checked.inputs in
      let log = log_value g.checked.log in
      let searches = searches_as tracked chosen i log boxes accepted in
      let holds = accepted_true (meaning_of i) i.settings.rules (zones_value g.zones).watches searches log boxes epochs
      (accepted_as tracked chosen i log boxes accepted) found in
      record {
        boxes = boxes;
        accepted = accepted;
        epochs = epochs;
        found = found;
        holds = holds;
        totals_hold = totals_true (meaning_of i) i.settings.rules.outliers (zones_value g.zones).watches searches epochs holds;
        told = told;
      }

-- ---- a verdict that is known

pub yes_of : (v : Verdict) (boxes : ℕ) (P : ℕ → Type 0) → v ≡ verdict.Yes boxes → IfYes v P
    → P boxes
yes_of v boxes P is holds = subst (λ (w : Verdict). IfYes w P) is holds

pub no_of : (v : Verdict) (fault : Fault) (P : Fault → Type 0) → v ≡ verdict.No fault → IfNo v P
    → P fault
no_of v fault P is holds = subst (λ (w : Verdict). IfNo w P) is holds
