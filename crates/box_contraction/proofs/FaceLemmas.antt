-- Cuts at the faces of a box: there is one way to go on at each face, and what is left lies inside.
use Rattle.std.proofs.Common.{◌≡◌, ℕ, ◌<◌, ◌≤◌, arith, List, [], ◌∷◌, ◌++◌, length, ◌⊎◌, inl, inr, refl, sym, ap, subst, ◌∙◌, append_assoc, Option, None, Some, Bool, true, false}
use Rattle.std.specs.Prelude.{ℤ}
use Rattle.std.proofs.lemmas.Int.{ints, by_lt_z}
use Rattle.std.proofs.lemmas.List.{length-append}
use Rattle.grid_model.specs.Boxes.{Side, GridBox, side_at}
use Rattle.sat_model.specs.BoxTests.{BoxTest}
use Rattle.sat_model.specs.Contractors.{LiesIn}
use Rattle.sat_model.specs.Fold.{ShownStep, axis_of, is_low, IsProperBound, left_by_cut, slab_of_cut}
use Rattle.range_contractor.proofs.BoxLemmas.{lies_through}
use Rattle.row_pairs.proofs.TestLemmas.{empty_or_not}
use Rattle.box_contraction.specs.Cuts.{Bounds, proposed, all_faces, AreFaces, MayCut, cut_shown, IsCutTo, IsSomeCut, AreFacesDone, AreFacesCut, AreProposalCuts}
use Rattle.sat_model.proofs.FoldLemmas.{side_inside, with_inside}
use Rattle.range_contractor.proofs.TreeLemmas.{lies_itself as own_box}

-- ---- whether a face may be cut

proper_or_not : (low : Bool) (s : Side) (bound : ℤ)
    → IsProperBound low s bound ⊎ (IsProperBound low s bound → ⊥)
proper_or_not true s bound = by_lt_z s.lo bound
    (λ h. by_lt_z s.hi bound (λ k. inr (λ p. let x = p.1 in omega (arith, ints))) (λ k. inl (h, k)))
    (λ h. inr (λ p. let x = p.0 in omega (arith, ints)))
proper_or_not false s bound = by_lt_z bound s.hi
    (λ h. by_lt_z bound s.lo (λ k. inr (λ p. let x = p.0 in omega (arith, ints))) (λ k. inl (k, h)))
    (λ h. inr (λ p. let x = p.1 in omega (arith, ints)))

may_or_not : (test : BoxTest) (face : ℕ) (bound : ℤ) (part : GridBox) → test.q < length test.rows
    → MayCut test face bound part ⊎ (MayCut test face bound part → ⊥)
may_or_not test face bound part few = elim (proper_or_not (is_low face) (side_at (axis_of face) part) bound) [
  | inr not ↦ inr (λ may. not may.0)
  | inl proper ↦ elim (empty_or_not test (slab_of_cut face bound part) few) [
    | inl empty ↦ inl (proper, empty)
    | inr not ↦ inr (λ may. not may.1)
  ]
]

-- ---- the cut of a face

to_some : (test : BoxTest) (id : ℕ) (bounds : Bounds) (face : ℕ) (part : GridBox) (steps : List ShownStep) (left : GridBox)
    → IsCutTo test id bounds face part steps left → IsSomeCut test id face part steps left
to_some test id bounds face part steps left is = elim is [
  | inl (may, one, cut) ↦ inl (bounds face part, may, one, cut)
  | inr (not, none, same) ↦ inr (none, same)
]

pub to_exists : (test : BoxTest) (id : ℕ) (bounds : Bounds) (face : ℕ) (part : GridBox)
    → test.q < length test.rows
    → (steps : List ShownStep) × ((left : GridBox) × IsCutTo test id bounds face part steps left)
to_exists test id bounds face part few = elim (may_or_not test face (bounds face part) part few) [
  | inl may ↦ (cut_shown id face (bounds face part) part ∷ [], (left_by_cut face (bounds face part) part, inl (may, refl, refl)))
  | inr not ↦ ([], (part, inr (not, refl, refl)))
]

-- ---- each box has its cuts

pub faces_exist : (Done : ℕ → GridBox → List ShownStep → GridBox → Type 0) (faces : List ℕ) (part : GridBox)
    → ((face : ℕ) (b : GridBox) → (steps : List ShownStep) × ((left : GridBox) × Done face b steps left))
    → (steps : List ShownStep) × ((left : GridBox) × AreFacesDone Done faces part steps left)
faces_exist Done [] part each = ([], (part, (refl, refl)))
faces_exist Done (face ∷ faces) part each =
    let (own, (middle, is)) = each face part in
    let (more, (left, rest)) = faces_exist Done faces middle each in
    (own ++ more, (left, (own, middle, more, is, rest, refl)))

pub proposal_cuts_exist : (test : BoxTest) (id : ℕ) (answer : Option GridBox) (part : GridBox)
    → test.q < length test.rows
    → (steps : List ShownStep) × ((left : GridBox) × AreProposalCuts test id answer part steps left)
proposal_cuts_exist test id None part few = ([], (part, (refl, refl)))
proposal_cuts_exist test id (Some a) part few = faces_exist (IsCutTo test id (proposed a)) all_faces part (λ face b. to_exists test id (proposed a) face b few)

-- ---- faces by their numbers

pub both_faces : (xs ys : List ℕ) → AreFaces xs → AreFaces ys → AreFaces (xs ++ ys)
both_faces [] ys f g = g
both_faces (x ∷ xs) ys f g = (f.0, both_faces xs ys f.1 g)

pub all_are : AreFaces all_faces
all_are = (omega arith, (omega arith, (omega arith, (omega arith, (omega arith, (omega arith, tt))))))

-- ---- the same faces, by another relation

faces_as : (A B : ℕ → GridBox → List ShownStep → GridBox → Type 0) (faces : List ℕ) (part : GridBox) (steps : List ShownStep) (left : GridBox)
    → ((face : ℕ) (b : GridBox) (own : List ShownStep) (rest : GridBox) → A face b own rest → B face b own rest)
    → AreFacesDone A faces part steps left → AreFacesDone B faces part steps left
faces_as A B [] part steps left f are = are
faces_as A B (face ∷ faces) part steps left f (own, middle, more, is, rest, join) = (own, middle, more, f face part own middle is, faces_as A B faces middle more left f rest, join)

-- faces, and others after them
pub faces_both : (Done : ℕ → GridBox → List ShownStep → GridBox → Type 0) (xs ys : List ℕ) (part middle left : GridBox) (first second : List ShownStep)
    → AreFacesDone Done xs part first middle → AreFacesDone Done ys middle second left
    → AreFacesDone Done (xs ++ ys) part (first ++ second) left
faces_both Done [] ys part middle left first second (none, same) rest =
    subst (λ (s : List ShownStep). AreFacesDone Done ys part (s ++ second) left) (sym none) (subst (λ (b : GridBox). AreFacesDone Done ys b second left) same rest)
faces_both Done (x ∷ xs) ys part middle left first second (own, next, more, is, others, join) rest =
    (own, next, more ++ second, is, faces_both Done xs ys next middle left more second others rest, ap (λ s. s ++ second) join ∙ append_assoc own more second)

-- ---- how many

pub faces_few : (test : BoxTest) (id : ℕ) (faces : List ℕ) (part : GridBox) (steps : List ShownStep) (left : GridBox)
    → AreFacesDone (IsSomeCut test id) faces part steps left → length steps ≤ length faces
faces_few test id [] part steps left (none, same) = omega (arith, ap length none)
faces_few test id (face ∷ faces) part steps left (own, middle, more, is, rest, join) =
    omega (arith, ap length join, length-append own more, one_at_most, faces_few test id faces middle more left rest)
  where
    one_at_most : length own ≤ 1
    one_at_most = elim is [
      | inl (bound, may, one, cut) ↦ omega (arith, ap length one)
      | inr (none, same) ↦ omega (arith, ap length none)
    ]

-- ---- what is left lies in the box as it was

face_inside : (test : BoxTest) (id face : ℕ) (part : GridBox) (steps : List ShownStep) (left : GridBox)
    → LiesIn part part → IsSomeCut test id face part steps left → LiesIn left part
face_inside test id face part steps left lies is = elim is [
  | inr (none, same) ↦ rw same lies
  | inl (bound, may, one, cut) ↦ rw cut (with_inside (axis_of face) part _ lies (side_inside (is_low face) (side_at (axis_of face) part) bound (lies (axis_of face)).ordered may.0))
]

pub faces_inside : (test : BoxTest) (id : ℕ) (faces : List ℕ) (part : GridBox) (steps : List ShownStep) (left : GridBox)
    → LiesIn part part → AreFacesDone (IsSomeCut test id) faces part steps left → LiesIn left part
faces_inside test id [] part steps left lies (none, same) = rw same lies
faces_inside test id (face ∷ faces) part steps left lies (own, middle, more, is, rest, join) =
    let here = face_inside test id face part own middle lies is in
    lies_through left middle part (faces_inside test id faces middle more left (own_box middle part here) rest) here

-- ---- cuts to some bounds, and a proposal's

pub cuts_some : (test : BoxTest) (id : ℕ) (bounds : Bounds) (faces : List ℕ) (part : GridBox) (steps : List ShownStep) (left : GridBox)
    → AreFacesCut test id bounds faces part steps left
    → AreFacesDone (IsSomeCut test id) faces part steps left
cuts_some test id bounds faces part steps left are = faces_as (IsCutTo test id bounds) (IsSomeCut test id) faces part steps left (to_some test id bounds) are

pub proposal_some : (test : BoxTest) (id : ℕ) (answer : Option GridBox) (part : GridBox) (steps : List ShownStep) (left : GridBox)
    → AreProposalCuts test id answer part steps left
    → (faces : List ℕ) × ((length faces ≤ 6) × (AreFaces faces × AreFacesDone (IsSomeCut test id) faces part steps left))
proposal_some test id None part steps left are = ([], (omega arith, (tt, are)))
proposal_some test id (Some a) part steps left are = (all_faces, (omega arith, (all_are, cuts_some test id (proposed a) all_faces part steps left are)))
