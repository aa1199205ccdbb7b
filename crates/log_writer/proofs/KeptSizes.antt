-- The hull of what a run keeps lies in its root, and fits in a line.
use Rattle.std.proofs.Common.{◌≡◌, zero, suc, ◌≤◌, List, [], ◌∷◌, ◌++◌, Bool, true, false, Option, None, Some, ℕ, ℤ, refl, sym, ap, subst, ◌∙◌, arith}
use Rattle.std.specs.Prelude.{cond}
use Rattle.std.specs.List.{AllByRecursion}
use Rattle.std.proofs.lemmas.Int.{ints}
use Rattle.sat_model.specs.declared.rules.Rules.{Rules}
use Rattle.sat_model.specs.declared.steps.Step.TheVariants.{Cut}
use Rattle.grid_model.specs.Boxes.{Side, GridBox, side_at, with_side, IsSideInside, IsInside}
use Rattle.grid_model.specs.Hulls.{joined_box}
use Rattle.grid_model.proofs.BoxLemmas.{lies_trans, lies_refl}
use Rattle.grid_model.proofs.HullLemmas.{first_inside, joined_least}
use Rattle.sat_model.specs.BoxTests.{BoxTest}
use Rattle.sat_model.specs.Events.{steps_in}
use Rattle.sat_model.specs.Fold.{first_boxes, pieces, axis_of, is_low, side_left, IsProperBound, IsProperCut, left_by_cut, ShownStep}
use Rattle.sat_model.specs.KeptHulls.{hull_with, hull_after, hull_behind, kept_hull}
use Rattle.sat_model.specs.StepKinds.{is_kept_step}
use Rattle.sat_model.specs.Waiting.{WaitingBox, Paving, first_paving, IsNext}
use Rattle.paving.specs.Paved.{AreStepsOf}
use Rattle.paving.specs.Renewing.{AllInside, Maker}
use Rattle.paving.specs.Turns.{Turn, ShownEvent, shown_new, joined_turns, events_of, shown_steps, used_after, behind_turn, PavesTurns, PavedTurns}
use Rattle.paving.proofs.PavedLemmas.{AreCutsInTurn, cuts_in_turn}
use Rattle.paving.proofs.TurnLemmas.{turn_inside}
use Rattle.log_lines.specs.Rows.{CornersFit, corners_of}
use Rattle.log_writer.proofs.GridSizes.{all_append}
use Rattle.log_writer.proofs.ReportLemmas.{run_taken, taken_hull}
use Rattle.log_writer.proofs.RunSizes.{steps_then, no_steps}
use Rattle.log_writer.proofs.StepSizes.{grid, in_grid, holding_fits, cuts_of, IsSizedPaving, first_sized, box_sizes}

-- ---- what cuts leave lies in the box

same_side_inside : (s : Side) → IsSideInside s s
same_side_inside s = (omega (arith, ints), omega (arith, ints))

smaller_side : (axis : ℕ) (part : GridBox) (s : Side) → IsSideInside s (side_at axis part)
    → IsInside (with_side axis part s) part
smaller_side zero part s h = (h, same_side_inside part.y, same_side_inside part.z)
smaller_side (suc zero) part s h = (same_side_inside part.x, h, same_side_inside part.z)
smaller_side (suc (suc n)) part s h = (same_side_inside part.x, same_side_inside part.y, h)

cut_side : (low : Bool) (s : Side) (bound : ℤ) → IsProperBound low s bound
    → IsSideInside (side_left low s bound) s
cut_side true s bound h = (omega (arith, ints, h.0), omega (arith, ints))
cut_side false s bound h = (omega (arith, ints), omega (arith, ints, h.1))

cut_inside : (face : ℕ) (bound : ℤ) (part : GridBox) → IsProperCut face bound part
    → IsInside (left_by_cut face bound part) part
cut_inside face bound part proper = smaller_side (axis_of face) part (side_left (is_low face) (side_at (axis_of face) part) bound)
    (cut_side (is_low face) (side_at (axis_of face) part) bound proper)

cuts_inside : (test : BoxTest) (id : ℕ) (part : GridBox) (steps : List ShownStep) (left : GridBox)
    → AreCutsInTurn test id part steps left → IsInside left part
cuts_inside test id part [] left same = subst (λ (c : GridBox). IsInside c part) (sym same) (lies_refl part)
cuts_inside test id part (shown ∷ more) left (face, bound, may, is, later) =
    lies_trans left (left_by_cut face bound part) part (cuts_inside test id (left_by_cut face bound part) more left later) (cut_inside face bound part may.0)

inside_behind : (xs ys : List WaitingBox) (whole : GridBox) → AllInside (xs ++ ys) whole
    → AllInside ys whole
inside_behind [] ys whole h = h
inside_behind (x ∷ xs) ys whole h = inside_behind xs ys whole h.1

next_inside : (root : GridBox) (waiting : List WaitingBox) (next : WaitingBox) (rest : List WaitingBox)
    → IsNext waiting next rest → AllInside waiting root → IsInside next.part root
next_inside root waiting next rest is all =
    (inside_behind is.before (next ∷ is.behind) root (subst (λ (l : List WaitingBox). AllInside l root) is.all_waiting all)).0

-- ---- each box that is kept

-- a box of a root that lies in the grid
pub record IsIn (root part : GridBox) : Type 0 where
  pub inside : IsInside part root
  pub fit : CornersFit (corners_of part)

abbrev pub IsKeptIn : GridBox → ShownStep → Type 0
IsKeptIn root s = is_kept_step s.step ≡ true → IsIn root s.part

cuts_kept : (test : BoxTest) (id : ℕ) (root part : GridBox) (steps : List ShownStep) (left : GridBox)
    → AreCutsInTurn test id part steps left → AllByRecursion (IsKeptIn root) steps
cuts_kept test id root part [] left same = tt
cuts_kept test id root part (shown ∷ more) left (face, bound, may, is, later) = (
  λ kept. absurd (no_cut face bound (sym (ap (λ (s : ShownStep). is_kept_step s.step) is) ∙ kept)),
  cuts_kept test id root (left_by_cut face bound part) more left later,
)
  where
    no_cut : (face : ℕ) (bound : ℤ) → is_kept_step (Cut id face bound) ≡ true → ⊥
    no_cut face bound e = cc

box_kept : (test : BoxTest) (rules : Rules) (splits : ℕ) (root : GridBox) (next : WaitingBox) (own : List ShownStep)
    → AreStepsOf test rules splits next own → next.id ≤ 400000
    → IsIn root next.part → AllByRecursion (IsKeptIn root) own
box_kept test rules splits root next own are le here =
    let in_turn = cuts_in_turn _ _ test next are.cuts are.left are.are_cuts in
    let left : IsIn root are.left = record {
      inside = lies_trans are.left next.part root (cuts_inside test next.id next.part are.cuts are.left in_turn) here.inside;
      fit = (cuts_of test rules splits next own are le here.fit).in_grid;
    } in
    subst (λ (s : List ShownStep). AllByRecursion (IsKeptIn root) s) (sym are.all_steps)
    (all_append (IsKeptIn root) are.cuts _ (cuts_kept test next.id root next.part are.cuts are.left in_turn) (λ kept. left, tt))

turns_kept : (maker : Maker) (rules : Rules) (root used : GridBox) (paving last : Paving) (turns : List Turn)
    → PavesTurns maker rules used paving turns last → IsSizedPaving rules paving
    → AllInside paving.waiting root
    → AllByRecursion (IsKeptIn root) (shown_steps (joined_turns turns))
turns_kept maker rules root used paving last [] paves p all = tt
turns_kept maker rules root used paving last (turn ∷ turns) (next, rest, is, are, renews, later) p all =
    let b = box_sizes rules paving next rest turn.steps is are p in
    let here : IsIn root next.part = record { inside = next_inside root paving.waiting next rest is all; fit = b.in_grid } in
    let own = box_kept paving.test rules paving.splits root next turn.steps are b.id_le here in
    let others = turns_kept maker rules root (used_after used turn.renewed) (behind_turn paving rest turn) last turns later
    (record { waiting = b.sized.waiting; splits = b.sized.splits }) (turn_inside rules root paving next rest turn is are all) in
    subst (λ (l : List ShownStep). AllByRecursion (IsKeptIn root) l)
    (sym (steps_then turn.steps (shown_new turn.renewed ++ joined_turns turns) ∙ ap (λ (l : List ShownStep). turn.steps ++ l) (no_steps turn.renewed (joined_turns turns))))
    (all_append (IsKeptIn root) turn.steps (shown_steps (joined_turns turns)) own others)

-- ---- their hull

abbrev IsHullIn : GridBox → Option GridBox → Type 0
IsHullIn root None = Unit {0}
IsHullIn root (Some hull) = IsIn root hull

joined_in : (root : GridBox) (hull : Option GridBox) (part : GridBox) → IsInside root grid
    → IsHullIn root hull → IsIn root part → IsHullIn root (hull_with hull part)
joined_in root None part all in_root here = here
joined_in root (Some hull) part all in_root here =
    let inside = joined_least hull part root in_root.inside here.inside in
    record {
      inside = inside;
      fit = holding_fits hull (joined_box hull part) in_root.fit (first_inside hull part) (lies_trans (joined_box hull part) root grid inside all);
    }

after_in : (root : GridBox) (hull : Option GridBox) (s : ShownStep) → IsInside root grid
    → IsHullIn root hull → IsKeptIn root s → IsHullIn root (hull_after hull s)
after_in root hull s all in_root here = by_kind (is_kept_step s.step) here
  where
    by_kind : (kept : Bool) → (kept ≡ true → IsIn root s.part)
        → IsHullIn root (cond kept (hull_with hull s.part) hull)
    by_kind true kept = joined_in root hull s.part all in_root (kept refl)
    by_kind false kept = in_root

behind_in : (root : GridBox) (hull : Option GridBox) (steps : List ShownStep) → IsInside root grid
    → IsHullIn root hull → AllByRecursion (IsKeptIn root) steps
    → IsHullIn root (hull_behind hull steps)
behind_in root hull [] all in_root kept = in_root
behind_in root hull (s ∷ steps) all in_root kept =
    behind_in root (hull_after hull s) steps all (after_in root hull s all in_root kept.0) kept.1

-- that of a whole run
pub run_hull : (maker : Maker) (test : BoxTest) (rules : Rules) (root : GridBox) (shown : List ShownEvent) (hull : GridBox)
    → PavedTurns maker test rules root shown → CornersFit (corners_of root)
    → kept_hull (pieces root (steps_in (events_of shown))) ≡ Some hull → IsIn root hull
run_hull maker test rules root shown hull run fit is =
    let kept : AllByRecursion (IsKeptIn root) (shown_steps shown) =
    subst (λ (l : List ShownEvent). AllByRecursion (IsKeptIn root) (shown_steps l)) (sym run.all_events)
    (turns_kept maker rules root root (first_paving test root) run.last run.turns run.paves (first_sized test rules root fit) (lies_refl root, tt)) in
    subst (λ (o : Option GridBox). IsHullIn root o) (taken_hull (first_boxes root) shown (run_taken maker test rules root shown run) None ∙ is)
    (behind_in root None (shown_steps shown) (in_grid root fit) tt kept)
