-- The boxes of a run lie in the grid, and the numbers of its cuts fit in lines.
use Rattle.std.proofs.Common.{ℕ, zero, suc, ◌<◌, ◌≤◌, List, [], ◌∷◌, ◌++◌, Bool, true, false, arith, inl, inr, subst, sym}
use Rattle.std.specs.Prelude.{ℤ, ◌≤ℤ◌}
use Rattle.std.specs.List.{AllByRecursion}
use Rattle.std.proofs.lemmas.Int.{ints}
use Rattle.grid_model.specs.declared.boxes.Box3.{Box3}
use Rattle.sat_model.specs.declared.steps.Step.{Step}
use Rattle.sat_model.specs.declared.steps.Step.TheVariants.{Cut, Split, Outside, Inside, Edge}
use Rattle.grid_model.specs.Boxes.{GridBox, Side, side_at, with_side, low_half, high_half, grid_box}
use Rattle.sat_model.specs.BoxTests.{BoxTest}
use Rattle.sat_model.specs.Fold.{ShownStep, axis_of, is_low, IsProperBound, IsProperCut, side_left, left_by_cut}
use Rattle.grid_model.specs.Lengths.{side_length}
use Rattle.sat_model.specs.Waiting.{WaitingBox}
use Rattle.grid_model.specs.Sizes.{IsBoxSize}
use Rattle.grid_model.proofs.AmountLemmas.{above_is}
use Rattle.box_contraction.specs.BoxSteps.{AreCutsOf}
use Rattle.box_contraction.specs.Cuts.{AreFaces, IsSomeCut, AreFacesDone}
use Rattle.box_contraction.proofs.BoxLemmas.{cuts_some}
use Rattle.paving.proofs.PavedLemmas.{AreCutsInTurn}
use Rattle.step_lines.specs.Lines.{StepFits}
use Rattle.log_lines.specs.Rows.{CornersFit, corners_of}

-- ---- lists whose members all meet a fact

pub all_append : {X : Type 0} (P : X → Type 0) (xs ys : List X) → AllByRecursion P xs
    → AllByRecursion P ys → AllByRecursion P (xs ++ ys)
all_append P [] ys f g = g
all_append P (x ∷ xs) ys f g = (f.0, all_append P xs ys f.1 g)

pub all_front : {X : Type 0} (P : X → Type 0) (xs ys : List X) → AllByRecursion P (xs ++ ys)
    → AllByRecursion P xs
all_front P [] ys f = tt
all_front P (x ∷ xs) ys f = (f.0, all_front P xs ys f.1)

pub all_back : {X : Type 0} (P : X → Type 0) (xs ys : List X) → AllByRecursion P (xs ++ ys)
    → AllByRecursion P ys
all_back P [] ys f = f
all_back P (x ∷ xs) ys f = all_back P xs ys f.1

-- ---- boxes of the grid

-- as the code has it
abbrev pub box3_of : (part : GridBox) → CornersFit (corners_of part) → Box3
box3_of part fit = record {
  lo = record { x = part.x.lo; y = part.y.lo; z = part.z.lo };
  hi = record { x = part.x.hi; y = part.y.hi; z = part.z.hi };
  x_ordered = fit.x_ordered;
  y_ordered = fit.y_ordered;
  z_ordered = fit.z_ordered;
  lo_within = fit.lo_within;
  hi_within = fit.hi_within;
}

pub box3_fits : (b : Box3) → CornersFit (corners_of (grid_box b))
box3_fits b = record { x_ordered = b.x_ordered; y_ordered = b.y_ordered; z_ordered = b.z_ordered; lo_within = b.lo_within; hi_within = b.hi_within }

pub record SideFits (s : Side) : Type 0 where
  pub ordered : s.lo ≤ℤ s.hi
  pub lo_within : IsBoxSize s.lo
  pub hi_within : IsBoxSize s.hi

pub side_fits : (axis : ℕ) (part : GridBox) → CornersFit (corners_of part)
    → SideFits (side_at axis part)
side_fits zero part fit = record { ordered = fit.x_ordered; lo_within = fit.lo_within.0; hi_within = fit.hi_within.0 }
side_fits (suc zero) part fit = record { ordered = fit.y_ordered; lo_within = fit.lo_within.1; hi_within = fit.hi_within.1 }
side_fits (suc (suc n)) part fit = record { ordered = fit.z_ordered; lo_within = fit.lo_within.2; hi_within = fit.hi_within.2 }

pub with_fits : (axis : ℕ) (part : GridBox) (s : Side) → CornersFit (corners_of part) → SideFits s
    → CornersFit (corners_of (with_side axis part s))
with_fits zero part s fit side = record {
  x_ordered = side.ordered;
  y_ordered = fit.y_ordered;
  z_ordered = fit.z_ordered;
  lo_within = (side.lo_within, fit.lo_within.1, fit.lo_within.2);
  hi_within = (side.hi_within, fit.hi_within.1, fit.hi_within.2);
}
with_fits (suc zero) part s fit side = record {
  x_ordered = fit.x_ordered;
  y_ordered = side.ordered;
  z_ordered = fit.z_ordered;
  lo_within = (fit.lo_within.0, side.lo_within, fit.lo_within.2);
  hi_within = (fit.hi_within.0, side.hi_within, fit.hi_within.2);
}
with_fits (suc (suc n)) part s fit side = record {
  x_ordered = fit.x_ordered;
  y_ordered = fit.y_ordered;
  z_ordered = side.ordered;
  lo_within = (fit.lo_within.0, fit.lo_within.1, side.lo_within);
  hi_within = (fit.hi_within.0, fit.hi_within.1, side.hi_within);
}

-- ---- halves

pub low_fits : (s : Side) → SideFits s → SideFits (low_half s)
low_fits s fit = record {
  ordered = omega (arith, ints);
  lo_within = fit.lo_within;
  hi_within = record {
    low = omega (arith, ints, fit.lo_within.low);
    high = omega (arith, ints, above_is s.hi s.lo, fit.ordered, fit.hi_within.high);
  };
}

pub high_fits : (s : Side) → SideFits s → 0 < side_length s → SideFits (high_half s)
high_fits s fit some = record {
  ordered = omega (arith, ints, above_is s.hi s.lo, fit.ordered, some);
  lo_within = record {
    low = omega (arith, ints, fit.lo_within.low);
    high = omega (arith, ints, above_is s.hi s.lo, fit.ordered, fit.hi_within.high, some);
  };
  hi_within = fit.hi_within;
}

-- ---- cuts

bound_within : (lo hi bound : ℤ) → IsBoxSize lo → IsBoxSize hi → lo ≤ℤ bound → bound ≤ℤ hi
    → IsBoxSize bound
bound_within lo hi bound f g h k = record { low = omega (arith, ints, f.low, h); high = omega (arith, ints, g.high, k) }

left_fits : (low : Bool) (s : Side) (bound : ℤ) → SideFits s → IsProperBound low s bound
    → IsBoxSize bound × SideFits (side_left low s bound)
left_fits true s bound fit (h, k) =
    let within = bound_within s.lo s.hi bound fit.lo_within fit.hi_within (omega (arith, ints, h)) k in
    (within, record { ordered = k; lo_within = within; hi_within = fit.hi_within })
left_fits false s bound fit (h, k) =
    let within = bound_within s.lo s.hi bound fit.lo_within fit.hi_within h (omega (arith, ints, k)) in
    (within, record { ordered = h; lo_within = fit.lo_within; hi_within = within })

cut_fits : (face : ℕ) (bound : ℤ) (part : GridBox) → CornersFit (corners_of part)
    → IsProperCut face bound part
    → IsBoxSize bound × CornersFit (corners_of (left_by_cut face bound part))
cut_fits face bound part fit proper =
    let side = left_fits (is_low face) (side_at (axis_of face) part) bound (side_fits (axis_of face) part fit) proper in
    (side.0, with_fits (axis_of face) part (side_left (is_low face) (side_at (axis_of face) part) bound) fit side.1)

-- ---- the faces of cuts

abbrev IsFace : ℕ → Type 0
IsFace face = face ≤ 5

abbrev HasFace : Step → Type 0
HasFace (Cut id face bound) = IsFace face
HasFace (Split id axis) = Unit {0}
HasFace (Outside id) = Unit {0}
HasFace (Inside id clock lo hi) = Unit {0}
HasFace (Edge id lo hi) = Unit {0}

abbrev HaveFaces : List ShownStep → Type 0
HaveFaces cuts = AllByRecursion (λ (s : ShownStep). HasFace s.step) cuts

both_have : (xs ys : List ShownStep) → HaveFaces xs → HaveFaces ys → HaveFaces (xs ++ ys)
both_have xs ys f g = all_append (λ (s : ShownStep). HasFace s.step) xs ys f g

face_has : (test : BoxTest) (id face : ℕ) (part : GridBox) (steps : List ShownStep) (left : GridBox)
    → IsFace face → IsSomeCut test id face part steps left → HaveFaces steps
face_has test id face part steps left named is = elim is [
  | inl (bound, may, one, cut) ↦ subst HaveFaces (sym one) (named, tt)
  | inr (none, same) ↦ subst HaveFaces (sym none) tt
]

faces_have : (test : BoxTest) (id : ℕ) (faces : List ℕ) (part : GridBox) (steps : List ShownStep) (left : GridBox)
    → AreFaces faces → AreFacesDone (IsSomeCut test id) faces part steps left → HaveFaces steps
faces_have test id [] part steps left named (none, same) = subst HaveFaces (sym none) tt
faces_have test id (face ∷ faces) part steps left named (own, middle, more, is, rest, join) =
    subst HaveFaces (sym join) (both_have own more (face_has test id face part own middle named.0 is) (faces_have test id faces middle more left named.1 rest))

-- each cut of a box names one of the six faces
pub cuts_have : (grain slack : ℤ) (test : BoxTest) (box : WaitingBox) (cuts : List ShownStep) (left : GridBox)
    → AreCutsOf grain slack test box cuts left → HaveFaces cuts
cuts_have grain slack test box cuts left are =
    let (faces, (named, some)) = cuts_some grain slack test box cuts left are in
    faces_have test box.id faces box.part cuts left named some

-- ---- the cuts of a box

abbrev pub IsSpelled : ShownStep → Type 0
IsSpelled shown = StepFits shown.step

-- they fit, and leave a box of the grid
pub record CutsFit (cuts : List ShownStep) (left : GridBox) : Type 0 where
  pub fit : AllByRecursion IsSpelled cuts
  pub in_grid : CornersFit (corners_of left)

pub cuts_fit : (test : BoxTest) (id : ℕ) (cuts : List ShownStep) (part left : GridBox) → id ≤ 400000
    → CornersFit (corners_of part) → HaveFaces cuts
    → AreCutsInTurn test id part cuts left → CutsFit cuts left
cuts_fit test id [] part left le fit named same = record { fit = tt; in_grid = subst (λ (g : GridBox). CornersFit (corners_of g)) (sym same) fit }
cuts_fit test id (shown ∷ cuts) part left le fit named (face, bound, may, is, later) =
    let (within, fits) = cut_fits face bound part fit may.0 in
    let more = cuts_fit test id cuts (left_by_cut face bound part) left le fits named.1 later in
    let named_face : face ≤ 5 = subst (λ (s : ShownStep). HasFace s.step) is named.0 in
    record { fit = (subst IsSpelled (sym is) ((omega arith, le), (omega arith, named_face), within), more.fit); in_grid = more.in_grid }
