-- All steps of one box: there are such, with at most 1,014 cuts.
use Rattle.std.proofs.Common.{◌≡◌, ℕ, ◌+◌, ◌-◌, ◌<◌, ◌≤◌, append_assoc, arith, List, [], ◌∷◌, ◌++◌, length, inl, inr, refl, sym, ap, subst, ◌∙◌, Bool, true, false}
use Rattle.std.specs.Prelude.{ℤ, pos, ◌*ℤ◌, ◌≤ℤ◌}
use Rattle.std.proofs.lemmas.List.{length-append}
use Rattle.grid_model.specs.declared.boxes.Box3.{Box3}
use Rattle.grid_model.specs.declared.spans.Span.{Span}
use Rattle.sat_model.specs.declared.rules.Rules.{Rules}
use Rattle.sat_model.specs.declared.steps.Step.{Step}
use Rattle.sat_model.specs.declared.steps.Step.TheVariants.{Cut, Split, Outside, Inside, Edge}
use Rattle.grid_model.specs.Boxes.{Side, GridBox, grid_box}
use Rattle.sat_model.specs.BoxTests.{BoxTest, IsEmpty, IsHull}
use Rattle.sat_model.specs.ClockSpans.{clock_spans}
use Rattle.sat_model.specs.Contractors.{LiesIn}
use Rattle.sat_model.specs.Fold.{ShownStep}
use Rattle.sat_model.specs.Waiting.{WaitingBox, IsUndecided, Closes}
use Rattle.sat_model.specs.RowTrees.{row_tree}
use Rattle.sat_model.specs.Trees.{TreeValue}
use Rattle.sat_model.proofs.RelaxedExists.{relaxed_hull}
use Rattle.relaxed_meet.specs.BoxStates.{IsBoxState}
use Rattle.relaxed_meet.specs.declared.shown.BoxState.{BoxState}
use Rattle.relaxed_meet.specs.declared.shown.BoxState.TheVariants.{Empty, Inner, Undecided}
use Rattle.relaxed_meet.proofs.TestLemmas.{empty_by_spans}
use Rattle.range_contractor.proofs.BoxLemmas.{box_lies}
use Rattle.range_contractor.proofs.FaceLemmas.{proposal}
use Rattle.range_contractor.proofs.LeafLemmas.{box_sizes}
use Rattle.range_contractor.proofs.RowLemmas.{count_rows}
use Rattle.range_contractor.proofs.RowTreeExists.{rows_grain}
use Rattle.range_contractor.proofs.TreeExists.{IsGridPart, inside_part, tied_exists}
use Rattle.box_contraction.specs.Adding.{AddsCuts}
use Rattle.box_contraction.specs.Cuts.{all_faces, eighths, AreFaces, IsSomeCut, NoneMayCut, AreEighthCuts, AreFacesDone}
use Rattle.box_contraction.specs.BoxSteps.{AreCutsByTree, IsCutDown, IsCutBy, IsCut, AreCutsOf, AreBoxSteps}
use Rattle.box_contraction.proofs.EndingExists.{ending_exists}
use Rattle.box_contraction.proofs.FaceLemmas.{both_faces, proposal_cuts_exist, proposal_some, faces_few, faces_inside, faces_both, cuts_some as faces_some}
use Rattle.box_contraction.proofs.RoundLemmas.{rounds_exist, rounds_few, round_cuts_faces, round_cuts_leave}

pub grid_part : (part : Box3) → IsGridPart (grid_box part)
grid_part part = record { lies = box_lies part; sizes = box_sizes part }

-- ---- cuts at some faces

by_tree_some : (g slack : ℤ) (t : TreeValue) (clock : Side) (test : BoxTest) (id : ℕ) (part : GridBox) (cuts : List ShownStep) (left : GridBox)
    → AreCutsByTree g slack t clock test id part cuts left
    → (faces : List ℕ) × ((length faces ≤ 6) × (AreFaces faces × AreFacesDone (IsSomeCut test id) faces part cuts left))
by_tree_some g slack t clock test id part cuts left by = proposal_some test id by.answer part cuts left by.are

by_tree_inside : (g slack : ℤ) (t : TreeValue) (clock : Side) (test : BoxTest) (id : ℕ) (part : GridBox) (cuts : List ShownStep) (left : GridBox)
    → IsGridPart part → AreCutsByTree g slack t clock test id part cuts left → LiesIn left part
by_tree_inside g slack t clock test id part cuts left grid by =
    let (faces, (few, (named, are))) = by_tree_some g slack t clock test id part cuts left by in
    faces_inside test id faces part cuts left grid.lies are

by_tree_few : (g slack : ℤ) (t : TreeValue) (clock : Side) (test : BoxTest) (id : ℕ) (part : GridBox) (cuts : List ShownStep) (left : GridBox)
    → AreCutsByTree g slack t clock test id part cuts left → length cuts ≤ 6
by_tree_few g slack t clock test id part cuts left by =
    let (faces, (few, (named, are))) = by_tree_some g slack t clock test id part cuts left by in
    omega (arith, few, faces_few test id faces part cuts left are)

by_tree_grid : (g slack : ℤ) (t : TreeValue) (clock : Side) (test : BoxTest) (id : ℕ) (part : GridBox) (cuts : List ShownStep) (left : GridBox)
    → IsGridPart part → AreCutsByTree g slack t clock test id part cuts left → IsGridPart left
by_tree_grid g slack t clock test id part cuts left grid by = inside_part left part (by_tree_inside g slack t clock test id part cuts left grid by) grid

eighths_some : (test : BoxTest) (id : ℕ) (part : GridBox) (cuts : List ShownStep) (left : GridBox)
    → AreEighthCuts test id part cuts left
    → (faces : List ℕ) × (AreFaces faces × AreFacesDone (IsSomeCut test id) faces part cuts left)
eighths_some test id part cuts left are =
    let (faces, (named, all)) = round_cuts_faces test id part cuts left are in
    (faces, (named, faces_some test id eighths faces part cuts left all))

cut_some : (g slack : ℤ) (asked : Bool) (test : BoxTest) (id : ℕ) (part : GridBox) (cuts : List ShownStep) (left : GridBox)
    → IsCutBy g slack test asked id part cuts left
    → (faces : List ℕ) × (AreFaces faces × AreFacesDone (IsSomeCut test id) faces part cuts left)
cut_some g slack false test id part cuts left down =
    let (xs, (few, (these, first))) = by_tree_some g slack (row_tree g test.rows test.q) down.clock test id part down.by_tree down.middle down.tree_cuts in
    let (ys, (those, second)) = eighths_some test id down.middle down.by_eighths left down.eighth_cuts in (
      xs ++ ys,
      (
        both_faces xs ys these those,
        subst (λ (s : List ShownStep). AreFacesDone (IsSomeCut test id) (xs ++ ys) part s left) (sym down.all_cuts)
            (faces_both (IsSomeCut test id) xs ys part down.middle left down.by_tree down.by_eighths first second),
      ),
    )
cut_some g slack true test id part cuts left some = (some.faces, (some.named, some.are))

-- the cuts of a box are at some faces, one after another
pub cuts_some : (g slack : ℤ) (test : BoxTest) (box : WaitingBox) (cuts : List ShownStep) (left : GridBox)
    → AreCutsOf g slack test box cuts left
    → (faces : List ℕ) × (AreFaces faces × AreFacesDone (IsSomeCut test box.id) faces box.part cuts left)
cuts_some g slack test box cuts left are = elim are [
  | inl (undecided, cut) ↦ cut_some g slack test.pairs test box.id box.part cuts left cut
  | inr (decided, none, same) ↦ ([], (tt, (none, same)))
]

-- ---- the steps of a box, from its cuts and its last step

-- a state that isn't undecided
pub not_undecided : (test : BoxTest) (part : GridBox) (state : BoxState)
    → ((hull : Span) → state ≡ Undecided hull → ⊥) → IsBoxState test part state
    → IsUndecided test part → ⊥
not_undecided test part Empty not is u = u.not_empty is
not_undecided test part (Inner clock hull) not is u = u.not_inner clock is.1.shown
not_undecided test part (Undecided hull) not is u = not hull refl

-- the same test shows the same
pub state_at : (a b : BoxTest) (part : GridBox) (state : BoxState) → a ≡ b → IsBoxState a part state
    → IsBoxState b part state
state_at a b part state e is = subst (λ (t : BoxTest). IsBoxState t part state) e is

pub undecided_of : (test : BoxTest) (part : GridBox) (state : BoxState) (hull : Span)
    → state ≡ Undecided hull → IsBoxState test part state → IsUndecided test part
undecided_of test part state hull e is =
    let own : IsBoxState test part (Undecided hull) = subst (λ (s : BoxState). IsBoxState test part s) e is in
    record { not_empty = own.0; not_inner = own.1 }

pub cut_down_adds : (g slack : ℤ) (test then_test : BoxTest) (t : TreeValue) (clock : Side) (id : ℕ) (part middle left : GridBox) (first then last : List ShownStep)
    → t ≡ row_tree g test.rows test.q → then_test ≡ test → IsHull test part clock.lo clock.hi
    → AddsCuts (AreCutsByTree g slack t clock test id part) first middle then
    → AddsCuts (AreEighthCuts then_test id middle) then left last
    → AddsCuts (IsCutDown g slack test id part) first left last
cut_down_adds g slack test then_test t clock id part middle left first then last e f hull a b = record {
  cuts = a.cuts ++ b.cuts;
  are = record {
    clock = clock;
    hull = hull;
    by_tree = a.cuts;
    middle = middle;
    tree_cuts = subst (λ (u : TreeValue). AreCutsByTree g slack u clock test id part a.cuts middle) e a.are;
    by_eighths = b.cuts;
    eighth_cuts = subst (λ (u : BoxTest). AreEighthCuts u id middle b.cuts left) f b.are;
    all_cuts = refl;
  };
  added = b.added ∙ ap (λ (l : List ShownStep). l ++ b.cuts) a.added ∙ append_assoc first a.cuts b.cuts;
}

pub box_steps_are : (g slack : ℤ) (test : BoxTest) (rules : Rules) (splits : ℕ) (box : WaitingBox) (left : GridBox) (step : Step) (cuts all : List ShownStep)
    → AreCutsOf g slack test box cuts left → Closes test rules splits box.id left step
    → all ≡ cuts ++ (record { step = step; part = left }) ∷ []
    → AreBoxSteps g slack test rules splits box all
box_steps_are g slack test rules splits box left step cuts all are closes e =
    record { cuts = cuts; left = left; are_cuts = are; last = step; closes = closes; all_steps = e }

-- ---- each box of the grid has steps

cut_exists : (g : ℤ) (asked : Bool) (test : BoxTest) (id : ℕ) (part : GridBox) → pos 1 ≤ℤ g
    → g ≤ℤ pos 1048576 → test.q < length test.rows → IsGridPart part → (IsEmpty test part → ⊥)
    → (cuts : List ShownStep) × ((left : GridBox) × IsCutBy g (pos 16 *ℤ g) test asked id part cuts left)
cut_exists g false test id part one most few grid not_empty =
    elim (relaxed_hull (clock_spans part test.rows) (length test.rows - test.q) (omega arith)) [
      | inl none ↦ absurd (not_empty (empty_by_spans test part none))
      | inr (lo, hi, hull) ↦
          let tree = row_tree g test.rows test.q in
          let clock : Side = record { lo = lo; hi = hi } in
          let (answer, tied) = tied_exists tree g (pos 16 *ℤ g) clock part one most refl (omega (arith, count_rows g test.rows), rows_grain g test.rows one most) grid in
          let (by_tree, (middle, are)) = proposal_cuts_exist test id answer part few in
          let by : AreCutsByTree g (pos 16 *ℤ g) tree clock test id part by_tree middle = record { answer = answer; proposal = proposal tree g (pos 16 *ℤ g) clock part answer grid.lies tied; are = are } in
          let (by_eighths, (left, eighths)) = rounds_exist test id middle few (by_tree_grid g (pos 16 *ℤ g) tree clock test id part by_tree middle grid by) in
          (by_tree ++ by_eighths, (left, record { clock = clock; hull = hull; by_tree = by_tree; middle = middle; tree_cuts = by; by_eighths = by_eighths; eighth_cuts = eighths; all_cuts = refl }))
    ]
cut_exists g true test id part one most few grid not_empty = ([], (part, record { faces = []; named = tt; few = omega arith; are = (refl, refl) }))

pub box_steps_exist : (g : ℤ) (test : BoxTest) (rules : Rules) (splits : ℕ) (box : WaitingBox)
    → pos 1 ≤ℤ g → g ≤ℤ pos 1048576 → test.q < length test.rows → IsGridPart box.part
    → (steps : List ShownStep) × AreBoxSteps g (pos 16 *ℤ g) test rules splits box steps
box_steps_exist g test rules splits box one most few grid =
    let (step, closes) = ending_exists test rules splits box.id box.part few in by_kind step closes
  where
    cut_down : IsUndecided test box.part
        → (steps : List ShownStep) × AreBoxSteps g (pos 16 *ℤ g) test rules splits box steps
    cut_down undecided =
        let (cuts, (left, cut)) = cut_exists g test.pairs test box.id box.part one most few grid undecided.not_empty in
        let (step, closes) = ending_exists test rules splits box.id left few in
        (cuts ++ (record { step = step; part = left }) ∷ [], record { cuts = cuts; left = left; are_cuts = inl (undecided, cut); last = step; closes = closes; all_steps = refl })

    decided : (step : Step) → Closes test rules splits box.id box.part step
        → (IsUndecided test box.part → ⊥)
        → (steps : List ShownStep) × AreBoxSteps g (pos 16 *ℤ g) test rules splits box steps
    decided step closes not =
        ((record { step = step; part = box.part }) ∷ [], record { cuts = []; left = box.part; are_cuts = inr (not, refl, refl); last = step; closes = closes; all_steps = refl })

    by_kind : (step : Step) → Closes test rules splits box.id box.part step
        → (steps : List ShownStep) × AreBoxSteps g (pos 16 *ℤ g) test rules splits box steps
    by_kind (Outside n) closes = decided (Outside n) closes (λ u. u.not_empty closes.1)
    by_kind (Inside n clock lo hi) closes = decided (Inside n clock lo hi) closes (λ u. u.not_inner clock closes.1.shown)
    by_kind (Split n axis) closes = cut_down closes.1
    by_kind (Edge n lo hi) closes = cut_down closes.1
    by_kind (Cut n face bound) closes = absurd closes

-- ---- what the cuts of a box are

pub cuts_inside : (g slack : ℤ) (test : BoxTest) (box : WaitingBox) (cuts : List ShownStep) (left : GridBox)
    → IsGridPart box.part → AreCutsOf g slack test box cuts left → LiesIn left box.part
cuts_inside g slack test box cuts left grid are =
    let (faces, (named, some)) = cuts_some g slack test box cuts left are in
    faces_inside test box.id faces box.part cuts left grid.lies some

cut_few : (g slack : ℤ) (asked : Bool) (test : BoxTest) (id : ℕ) (part : GridBox) (cuts : List ShownStep) (left : GridBox)
    → IsGridPart part → IsCutBy g slack test asked id part cuts left → length cuts ≤ 1014
cut_few g slack false test id part cuts left grid down =
    let tree = row_tree g test.rows test.q in
    let middle = by_tree_grid g slack tree down.clock test id part down.by_tree down.middle grid down.tree_cuts in
    omega (
      arith,
      ap length down.all_cuts,
      length-append down.by_tree down.by_eighths,
      by_tree_few g slack tree down.clock test id part down.by_tree down.middle down.tree_cuts,
      rounds_few test id down.middle down.by_eighths left middle down.eighth_cuts,
    )
cut_few g slack true test id part cuts left grid some = omega (arith, some.few, faces_few test id some.faces part cuts left some.are)

pub cuts_few : (g slack : ℤ) (test : BoxTest) (box : WaitingBox) (cuts : List ShownStep) (left : GridBox)
    → IsGridPart box.part → AreCutsOf g slack test box cuts left → length cuts ≤ 1014
cuts_few g slack test box cuts left grid are = elim are [
  | inr (decided, none, same) ↦ omega (arith, ap length none)
  | inl (undecided, cut) ↦ cut_few g slack test.pairs test box.id box.part cuts left grid cut
]

cut_leaves : (g slack : ℤ) (asked : Bool) (test : BoxTest) (id : ℕ) (part : GridBox) (cuts : List ShownStep) (left : GridBox)
    → asked ≡ false → IsCutBy g slack test asked id part cuts left → NoneMayCut test all_faces left
cut_leaves g slack false test id part cuts left not down = round_cuts_leave test id down.middle down.by_eighths left down.eighth_cuts
cut_leaves g slack true test id part cuts left not some = absurd cc

-- where no pairs are asked and a box is split or closed at the edge, no slab of an eighth is shown empty
pub none_left : (g slack : ℤ) (test : BoxTest) (box : WaitingBox) (cuts : List ShownStep) (left : GridBox)
    → test.pairs ≡ false → IsUndecided test left → AreCutsOf g slack test box cuts left → NoneMayCut test all_faces left
none_left g slack test box cuts left not undecided are = elim are [
  | inr (decided, none, same) ↦ absurd (decided (subst (λ (c : GridBox). IsUndecided test c) same undecided))
  | inl (was, cut) ↦ cut_leaves g slack test.pairs test box.id box.part cuts left not cut
]
