-- The boxes that steps keep lie in the root, where the steps can be taken.
use Rattle.std.proofs.Common.{◌≡◌, ℕ, zero, suc, arith, List, [], ◌∷◌, ◌++◌, get_or, set, Option, None, Some}
use Rattle.std.specs.Prelude.{ℤ, ◌<ℤ◌}
use Rattle.std.specs.List.{AllByRecursion}
use Rattle.std.proofs.lemmas.Int.{ints}
use Rattle.range_contractor.proofs.BoxLemmas.{lies_through}
use Rattle.grid_model.proofs.AmountLemmas.{above_is}
use Rattle.grid_model.specs.Boxes.{Side, GridBox, side_at, low_half, high_half}
use Rattle.sat_model.specs.Contractors.{SideLiesIn, LiesIn}
use Rattle.sat_model.specs.Fold.{Subpaving, first_boxes, live_box, axis_of, is_low, side_left, halves, cut_box, boxes_after, ShownStep, shown, slab_shown, taken_by, pieces_from, pieces}
use Rattle.sat_model.specs.declared.steps.Step.{Step}
use Rattle.sat_model.specs.declared.steps.Step.TheVariants.{Cut, Split, Outside, Inside, Edge}
use Rattle.subpaving.specs.Folding.{IsDivisible, StepFolds, StepsFold}
use Rattle.paving_log.specs.CoverBoxes.{kept_parts}
use Rattle.moving_tube.specs.Hulls.{hull_of, HullLies}
use Rattle.moving_tube.proofs.HullLemmas.{hull_lies}
use Rattle.sat_model.proofs.FoldLemmas.{side_inside, with_inside}
use Rattle.range_contractor.proofs.TreeLemmas.{lies_itself as own_box}

-- ---- parts of a box

low_inside : (s : Side) → s.lo <ℤ s.hi → SideLiesIn (low_half s) s
low_inside s two = record {
  low = omega (arith, ints);
  ordered = omega (arith, ints);
  high = omega (arith, ints, above_is s.hi s.lo);
}

high_inside : (s : Side) → s.lo <ℤ s.hi → SideLiesIn (high_half s) s
high_inside s two = record {
  low = omega (arith, ints);
  ordered = omega (arith, ints, above_is s.hi s.lo);
  high = omega (arith, ints);
}

-- ---- live boxes

module _ (root : GridBox) where
  abbrev OptionLies : Option GridBox → Type 0
  OptionLies None = Unit {0}
  OptionLies (Some part) = LiesIn part root

  abbrev AllLie : List (Option GridBox) → Type 0
  AllLie live = AllByRecursion OptionLies live

  live_lies : (live : List (Option GridBox)) (id : ℕ) (part : GridBox) → AllLie live
      → get_or live id None ≡ Some part → LiesIn part root
  live_lies [] id part all e = absurd cc
  live_lies (o ∷ live) zero part all e = let here : o ≡ Some part = e in rw here at all.0
  live_lies (o ∷ live) (suc id) part all e = live_lies live id part all.1 e

  set_lies : (live : List (Option GridBox)) (id : ℕ) (o : Option GridBox) → AllLie live
      → OptionLies o → AllLie (set live id o)
  set_lies [] id o all h = tt
  set_lies (x ∷ live) zero o all h = (h, all.1)
  set_lies (x ∷ live) (suc id) o all h = (all.0, set_lies live id o all.1 h)

  both_lie : (xs ys : List (Option GridBox)) → AllLie xs → AllLie ys → AllLie (xs ++ ys)
  both_lie [] ys h k = k
  both_lie (x ∷ xs) ys h k = (h.0, both_lie xs ys h.1 k)

  halves_lie : (axis : ℕ) (part : GridBox) → LiesIn part root → IsDivisible axis part
      → AllLie (halves axis (Some part))
  halves_lie axis part lies two = (
    lies_through _ part root (with_inside axis part (low_half (side_at axis part)) (own_box part root lies) (low_inside (side_at axis part) two)) lies,
    (lies_through _ part root (with_inside axis part (high_half (side_at axis part)) (own_box part root lies) (high_inside (side_at axis part) two)) lies, tt),
  )

  after_lies : (boxes : Subpaving) (step : Step) → AllLie boxes.live → StepFolds boxes step
      → AllLie (boxes_after boxes step).live
  after_lies boxes (Cut id face bound) all (part, is, proper) =
      let lies = live_lies boxes.live id part all is in
      let own = own_box part root lies in
      set_lies boxes.live id (cut_box face bound (live_box boxes id)) all
      (rw is (lies_through _ part root (with_inside (axis_of face) part (side_left (is_low face) (side_at (axis_of face) part) bound) own
      (side_inside (is_low face) (side_at (axis_of face) part) bound (own (axis_of face)).ordered proper)) lies))
  after_lies boxes (Split id axis) all (part, is, two) =
      both_lie (set boxes.live id None) (halves axis (live_box boxes id)) (set_lies boxes.live id None all tt)
      (rw is (halves_lie axis part (live_lies boxes.live id part all is) two))
  after_lies boxes (Outside id) all h = set_lies boxes.live id None all tt
  after_lies boxes (Inside id clock lo hi) all h = set_lies boxes.live id None all tt
  after_lies boxes (Edge id lo hi) all h = set_lies boxes.live id None all tt

  -- ---- the pieces

  abbrev PartsLie : List GridBox → Type 0
  PartsLie parts = AllByRecursion (λ part. LiesIn part root) parts

  -- what a step keeps stands in front of what the others keep
  closed_lies : (step : Step) (o : Option GridBox) (more : List ShownStep) → OptionLies o
      → PartsLie (kept_parts more) → PartsLie (kept_parts (shown step o ++ more))
  closed_lies step None more h later = later
  closed_lies (Cut id face bound) (Some part) more h later = later
  closed_lies (Split id axis) (Some part) more h later = later
  closed_lies (Outside id) (Some part) more h later = later
  closed_lies (Inside id clock lo hi) (Some part) more h later = (h, later)
  closed_lies (Edge id lo hi) (Some part) more h later = (h, later)

  slab_skipped : (id face : ℕ) (bound : ℤ) (o : Option GridBox) (more : List ShownStep)
      → PartsLie (kept_parts more)
      → PartsLie (kept_parts (slab_shown (Cut id face bound) face bound o ++ more))
  slab_skipped id face bound None more later = later
  slab_skipped id face bound (Some part) more later = later

  option_lies : (live : List (Option GridBox)) (id : ℕ) → AllLie live
      → OptionLies (get_or live id None)
  option_lies [] id all = tt
  option_lies (o ∷ live) zero all = all.0
  option_lies (o ∷ live) (suc id) all = option_lies live id all.1

  taken_lies : (boxes : Subpaving) (step : Step) (more : List ShownStep) → AllLie boxes.live
      → PartsLie (kept_parts more) → PartsLie (kept_parts (taken_by boxes step ++ more))
  taken_lies boxes (Cut id face bound) more all later = slab_skipped id face bound (live_box boxes id) more later
  taken_lies boxes (Split id axis) more all later = later
  taken_lies boxes (Outside id) more all later = closed_lies (Outside id) (live_box boxes id) more (option_lies boxes.live id all) later
  taken_lies boxes (Inside id clock lo hi) more all later = closed_lies (Inside id clock lo hi) (live_box boxes id) more (option_lies boxes.live id all) later
  taken_lies boxes (Edge id lo hi) more all later = closed_lies (Edge id lo hi) (live_box boxes id) more (option_lies boxes.live id all) later

  kept_from : (boxes : Subpaving) (steps : List Step) → AllLie boxes.live → StepsFold boxes steps
      → PartsLie (kept_parts (pieces_from boxes steps))
  kept_from boxes [] all folds = tt
  kept_from boxes (step ∷ steps) all folds =
      taken_lies boxes step (pieces_from (boxes_after boxes step) steps) all (kept_from (boxes_after boxes step) steps (after_lies boxes step all folds.0) folds.1)

  -- The hull of the kept boxes lies in the root.
  pub steps_hull_lies : (steps : List Step) → LiesIn root root → StepsFold (first_boxes root) steps
      → HullLies (hull_of (kept_parts (pieces root steps))) root
  steps_hull_lies steps own folds = hull_lies None (kept_parts (pieces root steps)) root tt (kept_from (first_boxes root) steps (own, tt) folds)
