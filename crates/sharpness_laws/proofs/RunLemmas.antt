-- What a run splits or leaves at the edge isn't clear.
use Rattle.std.proofs.Common.{◌≡◌, ℕ, zero, suc, ◌+◌, ◌*◌, ◌≤◌, arith, List, [], ◌∷◌, ◌++◌, length, map, Bool, true, false, inl, inr, ap, subst, sym, ◌∙◌}
use Rattle.std.specs.List.{AllByRecursion}
use Rattle.std.specs.Prelude.{ℤ, ◌-ℤ◌, ◌≤ℤ◌, Option, None, Some}
use Rattle.std.proofs.lemmas.Int.{ints}
use Rattle.box_contraction.proofs.BoxLemmas.{cuts_inside, none_left}
use Rattle.relaxed_meet.proofs.TestLemmas.{empty_by_spans}
use Rattle.box_contraction.specs.BoxSteps.{AreCutsOf}
use Rattle.box_contraction.specs.Cuts.{eighth_of, past_eighth, eighths, all_faces, MayCut, NoneMayCut}
use Rattle.epoch_selection.specs.Searches.{Search}
use Rattle.range_contractor.proofs.AmountLemmas.{above_is_up}
use Rattle.range_contractor.proofs.BoxLemmas.{lies_through}
use Rattle.range_contractor.proofs.TreeExists.{IsGridPart, inside_part}
use Rattle.grid_model.specs.Boxes.{Side, GridBox, side_at, low_half, high_half, IsSideInside, IsInside}
use Rattle.sat_model.specs.BoxTests.{BoxTest, IsEmpty, NoneIsInner}
use Rattle.sat_model.specs.ClockSpans.{IsShownEmpty, IsShownInner}
use Rattle.sat_model.specs.Events.{RowsOver, rows_over}
use Rattle.sat_model.specs.Contractors.{SideLiesIn, LiesIn}
use Rattle.sat_model.specs.Fold.{ShownStep, axis_of, is_low, IsProperBound, IsProperCut, side_cut, left_by_cut, slab_of_cut}
use Rattle.grid_model.specs.Lengths.{spare_of}
use Rattle.grid_model.specs.SearchBoxes.{IsSearchBox}
use Rattle.gnss_model.specs.Delays.{err_spare_of}
use Rattle.sat_model.specs.Waiting.{WaitingBox, Paving, first_paving, IsNext, IsUndecided, Closes, opened_by, splits_after}
use Rattle.sat_model.specs.declared.rows.Row.{Row}
use Rattle.sat_model.specs.declared.rules.Rules.{Rules}
use Rattle.sat_model.specs.declared.steps.Step.{Step}
use Rattle.sat_model.specs.declared.steps.Step.TheVariants.{Cut, Split, Outside, Inside, Edge}
use Rattle.grid_model.proofs.SquareLemmas.{one_part}
use Rattle.sat_rows.specs.Meanings.{Meaning, IsSound}
use Rattle.sat_rows.proofs.PartLemmas.{spare_mono, err_spare_mono}
use Rattle.sharpness_laws.specs.Clear.{margin_over, IsClearlyEmpty, IsClearlyInner}
use Rattle.sharpness_laws.specs.UsableRows.{AreRowsOver}
use Rattle.sharpness_laws.specs.Left.{IsUnclear, LeavesNothingClear, NothingClearLeft, NothingClearIn}
use Rattle.paving.specs.Paved.{AreStepsOf}
use Rattle.paving.specs.Renewing.{AllInside, Maker, GivesFrom, Renews}
use Rattle.paving.specs.Runs.{BeginsBox, TurnsBegun}
use Rattle.paving.specs.Turns.{Turn, ShownEvent, OfStep, OfRows, shown_new, joined_turns, used_after, used_behind, test_after, worked_on, behind_turn, PavesTurns, PavedTurns}
use Rattle.sharpness_laws.proofs.LineLemmas.{empty_shown, inner_shown}
use Rattle.log_writer.proofs.GridSizes.{all_append, all_front, all_back}
use Rattle.paving.proofs.PavedExists.{low_inside, high_inside}
use Rattle.paving.proofs.PavedLemmas.{AreCutsInTurn, cuts_in_turn, box_opens}
use Rattle.grid_model.proofs.BoxLemmas.{lies_refl}
use Rattle.sat_model.proofs.FoldLemmas.{with_inside}
use Rattle.range_contractor.proofs.TreeLemmas.{lies_itself as own_box}

-- ---- eighths

eighth_proper : (low : Bool) (s : Side) → s.lo ≤ℤ s.hi → 1 ≤ eighth_of s
    → IsProperBound low s (past_eighth low s)
eighth_proper true s ordered some = (omega (arith, ints), omega (arith, ints, above_is_up s.hi s.lo, one_part (s.hi -ℤ s.lo)))
eighth_proper false s ordered some = (omega (arith, ints, above_is_up s.hi s.lo, one_part (s.hi -ℤ s.lo)), omega (arith, ints))

slab_side_inside : (low : Bool) (s : Side) (bound : ℤ) → IsProperBound low s bound
    → SideLiesIn (side_cut low s bound) s
slab_side_inside true s bound (h, k) = record { low = omega (arith, ints); ordered = omega (arith, ints); high = omega (arith, ints) }
slab_side_inside false s bound (h, k) = record { low = omega (arith, ints); ordered = omega (arith, ints); high = omega (arith, ints) }

slab_inside : (face : ℕ) (bound : ℤ) (part : GridBox) → LiesIn part part
    → IsProperCut face bound part → LiesIn (slab_of_cut face bound part) part
slab_inside face bound part lies proper =
    with_inside (axis_of face) part (side_cut (is_low face) (side_at (axis_of face) part) bound) lies (slab_side_inside (is_low face) (side_at (axis_of face) part) bound proper)

none_at : (test : BoxTest) (face : ℕ) (part : GridBox) → face ≤ 5 → NoneMayCut test all_faces part
    → MayCut test face (eighths face part) part → ⊥
none_at test zero part le none = none.0
none_at test (suc zero) part le none = none.1.0
none_at test (suc (suc zero)) part le none = none.1.1.0
none_at test (suc (suc (suc zero))) part le none = none.1.1.1.0
none_at test (suc (suc (suc (suc zero)))) part le none = none.1.1.1.1.0
none_at test (suc (suc (suc (suc (suc zero))))) part le none = none.1.1.1.1.1.0
none_at test (suc (suc (suc (suc (suc (suc n)))))) part le none = absurd (omega arith)

-- ---- splits: they rise, up to the number that is allowed

splits_on : (test : BoxTest) (rules : Rules) (splits id : ℕ) (part : GridBox) (step : Step)
    → Closes test rules splits id part step
    → (splits ≤ splits_after splits step) × (splits ≤ rules.bisections → splits_after splits step ≤ rules.bisections)
splits_on test rules splits id part (Cut n face bound) closes = absurd closes
splits_on test rules splits id part (Split n axis) (is, undecided, may, longest) = (omega arith, λ le. omega (arith, may.1))
splits_on test rules splits id part (Outside n) closes = (omega arith, λ le. le)
splits_on test rules splits id part (Inside n clock lo hi) closes = (omega arith, λ le. le)
splits_on test rules splits id part (Edge n lo hi) closes = (omega arith, λ le. le)

run_splits : (maker : Maker) (rules : Rules) (used : GridBox) (paving last : Paving) (turns : List Turn)
    → PavesTurns maker rules used paving turns last
    → (paving.splits ≤ last.splits) × (paving.splits ≤ rules.bisections → last.splits ≤ rules.bisections)
run_splits maker rules used paving last [] same = rw same (omega arith, λ le. le)
run_splits maker rules used paving last (turn ∷ turns) (next, rest, is_next, steps, renews, later) =
    let opens = ap (λ (p : Paving). p.splits) (box_opens paving.test rules paving.splits next turn.steps (record paving { waiting = rest }) steps) in
    let here = splits_on paving.test rules paving.splits next.id steps.left steps.last steps.closes in
    let more = run_splits maker rules (used_after used turn.renewed) (behind_turn paving rest turn) last turns later in
    (omega (arith, opens, here.0, more.0), λ le. more.1 (omega (arith, opens, here.1 le)))

-- ---- a box in a box

part_of : (a b c : GridBox) → LiesIn a c → IsInside a b → LiesIn a b
part_of a b c lies inside zero = record { low = inside.0.0; ordered = (lies 0).ordered; high = inside.0.1 }
part_of a b c lies inside (suc zero) = record { low = inside.1.0; ordered = (lies 1).ordered; high = inside.1.1 }
part_of a b c lies inside (suc (suc n)) = record { low = inside.2.0; ordered = (lies 2).ordered; high = inside.2.1 }

inside_of : (a b : GridBox) → LiesIn a b → IsInside a b
inside_of a b lies = (((lies 0).low, (lies 0).high), ((lies 1).low, (lies 1).high), ((lies 2).low, (lies 2).high))

whole_side : (a b c : Side) → SideLiesIn a b → IsSideInside b c → SideLiesIn b c
whole_side a b c lies inside = record { low = inside.0; ordered = omega (arith, ints, lies.low, lies.ordered, lies.high); high = inside.1 }

-- a box with a part that isn't empty isn't empty either
whole_of : (a b c : GridBox) → LiesIn a b → IsInside b c → LiesIn b c
whole_of a b c lies inside zero = whole_side a.x b.x c.x (lies 0) inside.0
whole_of a b c lies inside (suc zero) = whole_side a.y b.y c.y (lies 1) inside.1
whole_of a b c lies inside (suc (suc n)) = whole_side a.z b.z c.z (lies 2) inside.2

-- ---- the boxes that wait lie in the box of the rows in use

abbrev Lie : GridBox → List WaitingBox → Type 0
Lie whole waiting = AllByRecursion (λ (box : WaitingBox). LiesIn box.part whole) waiting

next_lies : (whole : GridBox) (waiting : List WaitingBox) (next : WaitingBox) (rest : List WaitingBox)
    → IsNext waiting next rest → Lie whole waiting → LiesIn next.part whole × Lie whole rest
next_lies whole waiting next rest is all =
    let P = λ (box : WaitingBox). LiesIn box.part whole in
    let split : Lie whole (is.before ++ next ∷ is.behind) = subst (Lie whole) is.all_waiting all in
    let behind = all_back P is.before (next ∷ is.behind) split in
    (behind.0, subst (Lie whole) (sym is.others) (all_append P is.before is.behind (all_front P is.before (next ∷ is.behind) split) behind.1))

opened_lie : (whole : GridBox) (test : BoxTest) (rules : Rules) (splits id : ℕ) (part : GridBox) (step : Step)
    → Closes test rules splits id part step → LiesIn part whole
    → Lie whole (opened_by splits step part)
opened_lie whole test rules splits id part (Cut n face bound) closes lies = absurd closes
opened_lie whole test rules splits id part (Split n axis) (is, undecided, may, longest) lies =
    let own = own_box part whole lies in
    let side = side_at axis part in (
      lies_through _ part whole (with_inside axis part (low_half side) own (low_inside side (own axis).ordered)) lies,
      (lies_through _ part whole (with_inside axis part (high_half side) own (high_inside side (omega (arith, ints, longest.longest, may.0, rules.wide)))) lies, tt),
    )
opened_lie whole test rules splits id part (Outside n) closes lies = tt
opened_lie whole test rules splits id part (Inside n clock lo hi) closes lies = tt
opened_lie whole test rules splits id part (Edge n lo hi) closes lies = tt

all_inside : (whole root : GridBox) (waiting : List WaitingBox) → Lie whole waiting
    → IsInside whole root → AllInside waiting root
all_inside whole root [] lie inside = tt
all_inside whole root (box ∷ waiting) lie inside =
    (inside_of box.part root (lies_through box.part whole root lie.0 (whole_of box.part whole root lie.0 inside)), all_inside whole root waiting lie.1 inside)

lie_in_hull : (whole hull : GridBox) (waiting : List WaitingBox) → Lie whole waiting
    → AllInside waiting hull → Lie hull waiting
lie_in_hull whole hull [] lie inside = tt
lie_in_hull whole hull (box ∷ waiting) lie inside = (part_of box.part hull whole lie.0 inside.0, lie_in_hull whole hull waiting lie.1 inside.1)

-- ---- the rows of a search, renewed by a maker, which gives one for each usable satellite

module _ (m : Meaning) (sound : IsSound m) (rules : Rules) (search : Search) (box : IsSearchBox search.root) (grid : IsGridPart search.root) (maker : Maker) (count : ℕ)
    (renewed : maker.active ≡ true → (part : GridBox) (rows : List Row) → length rows ≡ count → GivesFrom maker 0 part rows → AreRowsOver m search part rows) where
  -- the test is by rows over this box, which lies in the root
  record IsInUse (used : GridBox) (test : BoxTest) : Type 0 where
    pub outliers : test.q ≡ rules.outliers
    pub pairs : test.pairs ≡ rules.pairs
    pub rows : AreRowsOver m search used test.rows
    pub many : length test.rows ≡ count
    pub inside : IsInside used search.root

  in_root : (used part : GridBox) (test : BoxTest) → IsInUse used test → LiesIn part used
      → LiesIn part search.root
  in_root used part test is lies = lies_through part used search.root lies (whole_of part used search.root lies is.inside)

  enough : (used part : GridBox) (test : BoxTest) → IsInUse used test → LiesIn part used
      → 6 * spare_of used + 2 * err_spare_of used m.delays ≤ margin_over search.root m.delays
  enough used part test is lies =
      let whole = whole_of part used search.root lies is.inside in
      omega (arith, spare_mono used search.root whole, err_spare_mono m.delays used search.root whole)

  -- where a box isn't shown empty it isn't clearly so
  not_clearly_empty : (used part : GridBox) (test : BoxTest) → IsInUse used test → LiesIn part used
      → (IsEmpty test part → ⊥) → IsClearlyEmpty m rules.outliers search part → ⊥
  not_clearly_empty used part test is lies not clear =
      let shown = empty_shown m sound search box used part (in_root used part test is lies) lies (margin_over search.root m.delays) (enough used part test is lies) rules.outliers test.rows is.rows clear in
      not (empty_by_spans test part (subst (IsShownEmpty test.rows part) (sym is.outliers) shown))

  not_clearly_inner : (used part : GridBox) (test : BoxTest) → IsInUse used test → LiesIn part used
      → NoneIsInner test part → IsClearlyInner m rules.outliers search part → ⊥
  not_clearly_inner used part test is lies none clear =
      let shown = inner_shown m sound search box used part (in_root used part test is lies) lies (margin_over search.root m.delays) (enough used part test is lies) rules.outliers test.rows is.rows clear in
      none clear.offset (subst (λ (n : ℕ). IsShownInner test.rows part n clear.offset) (sym is.outliers) shown)

  unclear : (grain slack : ℤ) (used : GridBox) (test : BoxTest) (waits : WaitingBox) (cuts : List ShownStep) (left : GridBox)
      → IsInUse used test → AreCutsOf grain slack test waits cuts left
      → LiesIn left used → IsUndecided test left → IsUnclear m rules search left
  unclear grain slack used test waits cuts left is are_cuts lies undecided = record {
    not_empty = not_clearly_empty used left test is lies undecided.not_empty;
    not_inner = not_clearly_inner used left test is lies undecided.not_inner;
    no_eighth = λ not face le some.
        let own = own_box left used lies in
        let proper = eighth_proper (is_low face) (side_at (axis_of face) left) (own (axis_of face)).ordered some in
        not_clearly_empty used (slab_of_cut face (eighths face left) left) test is (lies_through _ left used (slab_inside face (eighths face left) left own proper) lies)
        (λ empty. none_at test face left le (none_left grain slack test waits cuts left (is.pairs ∙ not) undecided are_cuts) (proper, empty));
  }

  -- the step that splits or closes a box
  last_clear : (test : BoxTest) (splits id done : ℕ) (left : GridBox) (step : Step)
      → Closes test rules splits id left step
      → (IsUndecided test left → IsUnclear m rules search left)
      → splits ≤ done → done ≤ rules.bisections → LeavesNothingClear m rules search done step left
  last_clear test splits id done left (Cut n face bound) closes clear le most = absurd closes
  last_clear test splits id done left (Split n axis) (is, undecided, may, longest) clear le most = clear undecided
  last_clear test splits id done left (Outside n) closes clear le most = tt
  last_clear test splits id done left (Inside n clock lo hi) closes clear le most = tt
  last_clear test splits id done left (Edge n lo hi) (is, undecided, may_not, hull) clear le most = (
    clear undecided,
    λ longer. elim may_not [
      | inl short ↦ absurd (omega (arith, ints, longer, short))
      | inr all ↦ omega (arith, all, le, most)
    ],
  )

  -- nothing is asked of cuts
  cuts_clear : (test : BoxTest) (id done : ℕ) (part : GridBox) (cuts : List ShownStep) (left : GridBox)
      → AreCutsInTurn test id part cuts left → NothingClearLeft m rules search done cuts
  cuts_clear test id done part [] left same = tt
  cuts_clear test id done part (shown ∷ cuts) left (face, bound, may, is, later) =
      (subst (λ (s : ShownStep). LeavesNothingClear m rules search done s.step s.part) (sym is) tt, cuts_clear test id done (left_by_cut face bound part) cuts left later)

  -- ---- the steps of a box

  left_lies : (used : GridBox) (test : BoxTest) (splits : ℕ) (next : WaitingBox) (own : List ShownStep)
      → IsInUse used test → LiesIn next.part used → (steps : AreStepsOf test rules splits next own)
      → LiesIn steps.left used
  left_lies used test splits next own is here steps =
      lies_through steps.left next.part used (cuts_inside _ _ test next steps.cuts steps.left (inside_part next.part search.root (in_root used next.part test is here) grid) steps.are_cuts) here

  box_clear : (used : GridBox) (test : BoxTest) (splits done : ℕ) (next : WaitingBox) (own : List ShownStep)
      → IsInUse used test → LiesIn next.part used → AreStepsOf test rules splits next own
      → splits ≤ done → done ≤ rules.bisections → NothingClearLeft m rules search done own
  box_clear used test splits done next own is here steps le most =
      let P = λ (shown : ShownStep). LeavesNothingClear m rules search done shown.step shown.part in
      let lies = left_lies used test splits next own is here steps in
      let last_one = last_clear test splits next.id done steps.left steps.last steps.closes (unclear _ _ used test next steps.cuts steps.left is steps.are_cuts lies) le most in
      subst (NothingClearLeft m rules search done) (sym steps.all_steps) (all_append P steps.cuts ((record { step = steps.last; part = steps.left }) ∷ [])
      (cuts_clear test next.id done next.part steps.cuts steps.left (cuts_in_turn _ _ test next steps.cuts steps.left steps.are_cuts)) (last_one, tt))

  -- ---- from box to box

  -- what holds of the paving before each box is taken up
  record IsGoing (used : GridBox) (paving : Paving) : Type 0 where
    pub in_use : IsInUse used paving.test
    pub lie : Lie used paving.waiting

  -- the rows in use behind a renewal or none, where these boxes wait
  used_then : (used : GridBox) (test : BoxTest) (before splits : ℕ) (waiting : List WaitingBox) (new : Option RowsOver) → IsInUse used test → Lie used waiting
      → Renews maker (rows_over used test.rows) before splits waiting new
      → IsInUse (used_after used new) (test_after test new) × Lie (used_after used new) waiting
  used_then used test before splits waiting None is lie renews = (is, lie)
  used_then used test before splits waiting (Some new) is lie (active, due, many, gives) = (
    record {
      outliers = is.outliers;
      pairs = is.pairs;
      rows = renewed active new.part new.rows (many ∙ is.many) gives;
      many = many ∙ is.many;
      inside = due.is_hull.least search.root (all_inside used search.root waiting lie is.inside);
    },
    lie_in_hull used new.part waiting lie due.is_hull.holds,
  )

  goes_on : (used : GridBox) (paving : Paving) (next : WaitingBox) (rest : List WaitingBox) (turn : Turn)
      → IsGoing used paving → IsNext paving.waiting next rest
      → (steps : AreStepsOf paving.test rules paving.splits next turn.steps)
      → Renews maker (rows_over used paving.test.rows) paving.splits (worked_on paving rest turn).splits (worked_on paving rest turn).waiting turn.renewed
      → IsGoing (used_after used turn.renewed) (behind_turn paving rest turn)
  goes_on used paving next rest turn is is_next steps renews =
      let (here, others) = next_lies used paving.waiting next rest is_next is.lie in
      let opens = box_opens paving.test rules paving.splits next turn.steps (record paving { waiting = rest }) steps in
      let lies = left_lies used paving.test paving.splits next turn.steps is.in_use here steps in
      let opened : Lie used (worked_on paving rest turn).waiting = subst (λ (p : Paving). Lie used p.waiting) (sym opens)
      (all_append (λ (box : WaitingBox). LiesIn box.part used) rest _ others (opened_lie used paving.test rules paving.splits next.id steps.left steps.last steps.closes lies)) in
      let (in_use, lie) = used_then used paving.test paving.splits _ _ turn.renewed is.in_use opened renews in
      record { in_use = in_use; lie = lie }

  going_behind : (used : GridBox) (paving last : Paving) (turns : List Turn) → IsGoing used paving
      → PavesTurns maker rules used paving turns last → IsGoing (used_behind used turns) last
  going_behind used paving last [] is same = subst (IsGoing used) same is
  going_behind used paving last (turn ∷ turns) is (next, rest, is_next, steps, renews, later) =
      going_behind (used_after used turn.renewed) (behind_turn paving rest turn) last turns (goes_on used paving next rest turn is is_next steps renews) later

  -- ---- events

  steps_clear : (done : ℕ) (steps : List ShownStep) → NothingClearLeft m rules search done steps
      → NothingClearIn m rules search done (map OfStep steps)
  steps_clear done [] clear = tt
  steps_clear done (shown ∷ steps) clear = (clear.0, steps_clear done steps clear.1)

  both_clear : (done : ℕ) (xs ys : List ShownEvent) → NothingClearIn m rules search done xs
      → NothingClearIn m rules search done ys → NothingClearIn m rules search done (xs ++ ys)
  both_clear done [] ys first later = later
  both_clear done (OfStep shown ∷ xs) ys first later = (first.0, both_clear done xs ys first.1 later)
  both_clear done (OfRows new ∷ xs) ys first later = both_clear done xs ys first later

  new_clear : (done : ℕ) (new : Option RowsOver)
      → NothingClearIn m rules search done (shown_new new)
  new_clear done None = tt
  new_clear done (Some new) = tt

  turns_clear : (used : GridBox) (paving last : Paving) (turns : List Turn) → IsGoing used paving
      → PavesTurns maker rules used paving turns last → last.splits ≤ rules.bisections
      → NothingClearIn m rules search last.splits (joined_turns turns)
  turns_clear used paving last [] is same most = tt
  turns_clear used paving last (turn ∷ turns) is (next, rest, is_next, steps, renews, later) most =
      let more = run_splits maker rules used paving last (turn ∷ turns) (next, rest, is_next, steps, renews, later) in
      let here = (next_lies used paving.waiting next rest is_next is.lie).0 in
      let own = box_clear used paving.test paving.splits last.splits next turn.steps is.in_use here steps more.0 most in
      let others = turns_clear (used_after used turn.renewed) (behind_turn paving rest turn) last turns (goes_on used paving next rest turn is is_next steps renews) later most in
      both_clear last.splits (map OfStep turn.steps) (shown_new turn.renewed ++ joined_turns turns) (steps_clear last.splits turn.steps own)
      (both_clear last.splits (shown_new turn.renewed) (joined_turns turns) (new_clear last.splits turn.renewed) others)

  -- the first steps of the next box
  begun_clear : (used : GridBox) (paving : Paving) (steps : List ShownStep) → IsGoing used paving
      → BeginsBox rules paving steps → paving.splits ≤ rules.bisections
      → NothingClearLeft m rules search paving.splits steps
  begun_clear used paving [] is begins most = tt
  begun_clear used paving (shown ∷ steps) is (next, rest, more, is_next, own) most =
      let here = (next_lies used paving.waiting next rest is_next is.lie).0 in
      all_front (λ (s : ShownStep). LeavesNothingClear m rules search paving.splits s.step s.part) (shown ∷ steps) more
      (box_clear used paving.test paving.splits paving.splits next _ is.in_use here own (omega arith) most)

  -- ---- from the root on

  module _ (test : BoxTest) (outliers : test.q ≡ rules.outliers) (pairs : test.pairs ≡ rules.pairs) (rows : AreRowsOver m search search.root test.rows) (many : length test.rows ≡ count) (root : GridBox) (same : root ≡ search.root) where
    first_going : IsGoing root (first_paving test root)
    first_going = rw same (record {
      in_use = record { outliers = outliers; pairs = pairs; rows = rows; many = many; inside = lies_refl search.root };
      lie = (grid.lies, tt);
    })

    most_splits : (last : Paving) (turns : List Turn)
        → PavesTurns maker rules root (first_paving test root) turns last
        → last.splits ≤ rules.bisections
    most_splits last turns paves = (run_splits maker rules root (first_paving test root) last turns paves).1 (omega arith)

    -- a whole run
    pub run_clear : (events : List ShownEvent) → (run : PavedTurns maker test rules root events)
        → NothingClearIn m rules search run.last.splits events
    run_clear events run = subst (NothingClearIn m rules search run.last.splits) (sym run.all_events)
        (turns_clear root (first_paving test root) run.last run.turns first_going run.paves (most_splits run.last run.turns run.paves))

    -- the first events of one
    pub first_clear : (events : List ShownEvent) → (first : TurnsBegun maker test rules root events)
        → NothingClearIn m rules search first.paving.splits events
    first_clear events first =
        let most = most_splits first.paving first.turns first.paves in
        let is = going_behind root (first_paving test root) first.paving first.turns first_going first.paves in
        subst (NothingClearIn m rules search first.paving.splits) (sym first.all_events)
        (both_clear first.paving.splits (joined_turns first.turns) (map OfStep first.steps)
        (turns_clear root (first_paving test root) first.paving first.turns first_going first.paves most)
        (steps_clear first.paving.splits first.steps (begun_clear (used_behind root first.turns) first.paving first.steps is first.begun most)))
