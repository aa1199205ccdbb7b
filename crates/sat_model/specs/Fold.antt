-- The steps of an epoch, folded over its live boxes: a subpaving (Jaulin, Kieffer, Didrit and
-- Walter, Applied Interval Analysis, 2001).
use Rattle.std.specs.Prelude.{◌≡◌, ℕ, ◌+◌, ◌/◌, ◌%◌, ℤ, pos, ◌+ℤ◌, ◌-ℤ◌, ◌≤ℤ◌, ◌<ℤ◌, Bool, true}
use Rattle.std.specs.Prelude.{false, nat_eq, List, [], ◌∷◌, ◌++◌, Option, None, Some}
use Rattle.std.specs.Prelude.{slice_index_or, slice_set}
use Rattle.sat_model.specs.declared.steps.Step.{Step}
use Rattle.sat_model.specs.declared.steps.Step.TheVariants.{Cut, Split, Outside, Inside, Edge}
use Rattle.grid_model.specs.Boxes.{GridBox, Side, side_at, with_side, low_half, high_half}

-- the box of each number that was given, where it is live, and how many splits were made
pub record Subpaving : Type 0 where
  pub live : List (Option GridBox)
  pub splits : ℕ

-- the root alone is live
abbrev pub first_boxes : GridBox → Subpaving
first_boxes root = record { live = Some root ∷ []; splits = 0 }

abbrev pub live_box : Subpaving → ℕ → Option GridBox
live_box boxes id = slice_index_or boxes.live id None

abbrev pub IsLive : Subpaving → ℕ → GridBox → Type 0
IsLive boxes id part = live_box boxes id ≡ Some part

-- no box is live
abbrev pub NoneLive : Subpaving → Type 0
NoneLive boxes = (id : ℕ) → live_box boxes id ≡ None

-- ---- cuts: faces 0 and 1 are the low and the high face of x, 2 and 3 of y, 4 and 5 of z

abbrev pub axis_of : ℕ → ℕ
axis_of face = face / 2

abbrev pub is_low : ℕ → Bool
is_low face = nat_eq (face % 2) 0

-- what a cut at a low face, or at a high one, leaves of a side
abbrev pub side_left : Bool → Side → ℤ → Side
side_left true s bound = record { lo = bound; hi = s.hi }
side_left false s bound = record { lo = s.lo; hi = bound }

-- what it takes off
abbrev pub side_cut : Bool → Side → ℤ → Side
side_cut true s bound = record { lo = s.lo; hi = bound -ℤ pos 1 }
side_cut false s bound = record { lo = bound +ℤ pos 1; hi = s.hi }

-- the cut takes something off, and leaves something
abbrev pub IsProperBound : Bool → Side → ℤ → Type 0
IsProperBound true s bound = (s.lo <ℤ bound) × (bound ≤ℤ s.hi)
IsProperBound false s bound = (s.lo ≤ℤ bound) × (bound <ℤ s.hi)

abbrev pub IsProperCut : ℕ → ℤ → GridBox → Type 0
IsProperCut face bound part = IsProperBound (is_low face) (side_at (axis_of face) part) bound

abbrev pub left_by_cut : ℕ → ℤ → GridBox → GridBox
left_by_cut face bound part =
    with_side (axis_of face) part (side_left (is_low face) (side_at (axis_of face) part) bound)

abbrev pub slab_of_cut : ℕ → ℤ → GridBox → GridBox
slab_of_cut face bound part =
    with_side (axis_of face) part (side_cut (is_low face) (side_at (axis_of face) part) bound)

-- ---- the fold

abbrev pub halves : ℕ → Option GridBox → List (Option GridBox)
halves axis None = []
halves axis (Some part) = Some (with_side axis part (low_half (side_at axis part)))
    ∷ Some (with_side axis part (high_half (side_at axis part))) ∷ []

abbrev pub cut_box : ℕ → ℤ → Option GridBox → Option GridBox
cut_box face bound None = None
cut_box face bound (Some part) = Some (left_by_cut face bound part)

-- the boxes behind a step
abbrev pub boxes_after : Subpaving → Step → Subpaving
boxes_after boxes (Cut id face bound) = record {
  live = slice_set boxes.live id (cut_box face bound (live_box boxes id));
  splits = boxes.splits;
}
boxes_after boxes (Split id axis) = record {
  live = slice_set boxes.live id None ++ halves axis (live_box boxes id);
  splits = boxes.splits + 1;
}
boxes_after boxes (Outside id) =
    record { live = slice_set boxes.live id None; splits = boxes.splits }
boxes_after boxes (Inside id clock lo hi) =
    record { live = slice_set boxes.live id None; splits = boxes.splits }
boxes_after boxes (Edge id lo hi) =
    record { live = slice_set boxes.live id None; splits = boxes.splits }

-- a step with the box or the slab that it speaks of
pub record ShownStep : Type 0 where
  pub step : Step
  pub part : GridBox

abbrev pub shown : Step → Option GridBox → List ShownStep
shown step None = []
shown step (Some part) = (record { step = step; part = part }) ∷ []

abbrev pub slab_shown : Step → ℕ → ℤ → Option GridBox → List ShownStep
slab_shown step face bound None = []
slab_shown step face bound (Some part) =
    (record { step = step; part = slab_of_cut face bound part }) ∷ []

-- the slab that a step cuts off, or the box that it closes
abbrev pub taken_by : Subpaving → Step → List ShownStep
taken_by boxes (Cut id face bound) = slab_shown (Cut id face bound) face bound (live_box boxes id)
taken_by boxes (Split id axis) = []
taken_by boxes (Outside id) = shown (Outside id) (live_box boxes id)
taken_by boxes (Inside id clock lo hi) = shown (Inside id clock lo hi) (live_box boxes id)
taken_by boxes (Edge id lo hi) = shown (Edge id lo hi) (live_box boxes id)

-- all slabs and closed boxes, in order
abbrev pub pieces_from : Subpaving → List Step → List ShownStep
pieces_from boxes [] = []
pieces_from boxes (step ∷ steps) = taken_by boxes step ++ pieces_from (boxes_after boxes step) steps

abbrev pub pieces : GridBox → List Step → List ShownStep
pieces root steps = pieces_from (first_boxes root) steps
