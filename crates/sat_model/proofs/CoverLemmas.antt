-- Steps that pass partition the root, cover what all but at most q satellites may fit, and close
-- inside only what all but at most q of the rows in use surely fit.
use Rattle.std.proofs.Common.{◌≡◌, ◌⊎◌, ℕ, zero, suc, ◌+◌, ◌<◌, ◌≤◌, arith, List, [], ◌∷◌, ◌++◌, length, get_or, map, true, Option, None, Some, inl, inr, refl, subst, ◌∙◌}
use Rattle.std.specs.Prelude.{ℤ, slice_get}
use Rattle.std.proofs.lemmas.Int.{ints}
use Rattle.std.proofs.lemmas.Bool.{cases_Bool, and_parts as both}
use Rattle.std.proofs.lemmas.List.{length-map}
use Rattle.std.proofs.lemmas.List.Sums.{sum_by-cons}
use Rattle.std.proofs.lemmas.Option.{slice_get_within}
use Rattle.grid_model.specs.declared.boxes.Pos.{Pos}
use Rattle.sat_model.specs.declared.rows.Row.{Row}
use Rattle.sat_model.specs.declared.rules.Rules.{Rules}
use Rattle.sat_model.specs.declared.rows.Row.{Row}
use Rattle.sat_model.specs.declared.steps.Step.{Step}
use Rattle.sat_model.specs.declared.steps.Step.TheVariants.{Cut, Split, Outside, Inside, Edge}
use Rattle.grid_model.specs.Boxes.{GridBox, Side, side_holds, box_holds, IsSideInside, IsInside}
use Rattle.sat_model.specs.BoxTests.{BoxTest}
use Rattle.sat_model.specs.Cover.{KeepsClock, SomeKeeps, IsPossibleByAll, numbers_from, Covers, AreSureInside, AreSureFrom, EpochCover}
use Rattle.sat_model.specs.Events.{Event, Made, Renewed, RowsOver, rows_over, steps_in, renewals_in}
use Rattle.sat_model.specs.Fitting.{IsPossible, AllBut}
use Rattle.sat_model.specs.Fold.{slab_of_cut, boxes_after, ShownStep, taken_by, pieces_from, pieces}
use Rattle.sat_model.specs.Renewals.{LineFact, LinesPass}
use Rattle.sat_model.specs.ShownBounds.{rows_behind}
use Rattle.sat_model.specs.Stages.{Stage, first_stage, after}
use Rattle.sat_model.specs.Verdicts.{StepPasses, EventsPass}
use Rattle.grid_model.proofs.PointLemmas.{in_box, side_in, le_to}
use Rattle.sat_model.proofs.BoxTestLemmas.{nothing_fits}
use Rattle.sat_model.proofs.FittingLemmas.{relaxed_of_possible, sure_of_inner}
use Rattle.sat_model.proofs.FoldLemmas.{weight, option_weight, held_by, one_held, conserved, nothing_live, root_weight, partitions}

-- ---- what may fit

kept_later : (p : Pos) (b : ℤ) (taken more : List ShownStep) → SomeKeeps p b more
    → SomeKeeps p b (taken ++ more)
kept_later p b [] more h = h
kept_later p b (piece ∷ taken) more h = inr (kept_later p b taken more h)

-- the piece keeps the point and the offset, or doesn't hold the point
abbrev KeepsOrMisses : Pos → ℤ → List ShownStep → Type 0
KeepsOrMisses p b taken = ((more : List ShownStep) → SomeKeeps p b (taken ++ more)) ⊎ (held_by p taken ≡ 0)

missed : (p : Pos) (b : ℤ) (step : Step) (part : GridBox) → (box_holds part p ≡ true → ⊥)
    → KeepsOrMisses p b (record { step = step; part = part } ∷ [])
missed p b step part h = elim (cases_Bool (box_holds part p)) [
  | inl e ↦ absurd (h e)
  | inr e ↦ inr (one_held p step part ∙ rw e refl)
]

closed : (p : Pos) (b : ℤ) (step : Step) (part : GridBox)
    → (box_holds part p ≡ true → KeepsClock step b)
    → KeepsOrMisses p b (record { step = step; part = part } ∷ [])
closed p b step part h = elim (cases_Bool (box_holds part p)) [
  | inl e ↦ inl (λ more. inl (e, h e))
  | inr e ↦ inr (one_held p step part ∙ rw e refl)
]

keeps_or_misses : (rules : Rules) (stage : Stage) (step : Step) (p : Pos) (b : ℤ)
    → StepPasses rules stage step → AllBut stage.test.q (IsPossible p b) stage.test.rows
    → KeepsOrMisses p b (taken_by stage.boxes step)
keeps_or_misses rules stage (Cut id face bound) p b (part, is, (proper, empty)) all = rw is
    (missed p b (Cut id face bound) (slab_of_cut face bound part)
    (λ e. nothing_fits stage.test (slab_of_cut face bound part) empty p b e all))
keeps_or_misses rules stage (Split id axis) p b h all = inr refl
keeps_or_misses rules stage (Outside id) p b (part, is, empty) all = rw is
    (missed p b (Outside id) part (λ e. nothing_fits stage.test part empty p b e all))
keeps_or_misses rules stage (Inside id clock lo hi) p b (part, is, inner, hull) all = rw is
    (closed p b (Inside id clock lo hi) part (λ e. hull b (relaxed_of_possible stage.test.q part p b stage.test.rows (in_box part p e) all)))
keeps_or_misses rules stage (Edge id lo hi) p b (part, is, hull) all = rw is
    (closed p b (Edge id lo hi) part (λ e. hull b (relaxed_of_possible stage.test.q part p b stage.test.rows (in_box part p e) all)))

-- ---- which live box holds a point

pub some_live : (p : Pos) (live : List (Option GridBox)) → 0 < weight p live
    → (id : ℕ) × (part : GridBox) × (get_or live id None ≡ Some part) × (box_holds part p ≡ true)
some_live p [] h = absurd (omega arith)
some_live p (None ∷ live) h =
    let (id, part, is, inside) = some_live p live (omega (arith, sum_by-cons (λ o. option_weight p o) None live, h)) in
    (suc id, part, is, inside)
some_live p (Some part ∷ live) h = elim (cases_Bool (box_holds part p)) [
  | inl e ↦ (zero, part, refl, e)
  | inr e ↦
      let none : option_weight p (Some part) ≡ 0 = rw e refl in
      let (id, other, is, inside) = some_live p live (omega (arith, sum_by-cons (λ o. option_weight p o) (Some part) live, h, none)) in
      (suc id, other, is, inside)
]

side_holds_more : (part whole : Side) (n : ℤ) → IsSideInside part whole → side_holds part n ≡ true
    → side_holds whole n ≡ true
side_holds_more part whole n i h =
    let (l, u) = side_in part n h in
    rw (le_to whole.lo n (omega (arith, ints, l, i.0)), le_to n whole.hi (omega (arith, ints, u, i.1))) refl

-- a box that another one lies in holds the points of that
pub inside_holds : (part whole : GridBox) (p : Pos) → IsInside part whole → box_holds part p ≡ true
    → box_holds whole p ≡ true
inside_holds part whole p i h =
    let (hx, hyz) = both _ _ h in
    let (hy, hz) = both _ _ hyz in
    rw (side_holds_more part.x whole.x p.x i.0 hx, side_holds_more part.y whole.y p.y i.1 hy, side_holds_more part.z whole.z p.z i.2 hz) refl

-- ---- from rows to rows

-- in each of these lists of rows whose box holds the point all but at most q are possible
abbrev pub PossibleInEach : ℕ → Pos → ℤ → List RowsOver → Type 0
PossibleInEach q p b [] = Unit {0}
PossibleInEach q p b (some ∷ more) =
    (box_holds some.part p ≡ true → AllBut q (IsPossible p b) some.rows) × PossibleInEach q p b more

-- what is so of all numbers but at most q is so of the rows in these places
pub by_numbers : (Fact : ℕ → Type 0) (q : ℕ) (Meets : Row → Type 0) (rows : List Row) (from n : ℕ)
    → length rows ≤ n
    → ((i : ℕ) (row : Row) → Fact (from + i) → slice_get rows i ≡ Some row → Meets row)
    → AllBut q Fact (numbers_from from n) → AllBut q Meets rows
by_numbers Fact q Meets [] from n le gives all = tt
by_numbers Fact q Meets (row ∷ rows) from zero le gives all = absurd (omega arith)
by_numbers Fact zero Meets (row ∷ rows) from (suc n) le gives all = (
  gives 0 row (subst Fact (omega arith) all.0) refl,
  by_numbers Fact zero Meets rows (suc from) n (omega arith) (λ i other fact is. gives (suc i) other (subst Fact (omega arith) fact) is) all.1,
)
by_numbers Fact (suc q) Meets (row ∷ rows) from (suc n) le gives all =
    let later = λ (i : ℕ) (other : Row) (fact : Fact (suc from + i)) (is : slice_get rows i ≡ Some other). gives (suc i) other (subst Fact (omega arith) fact) is in
    elim all [
      | inl h ↦ inl (gives 0 row (subst Fact (omega arith) h.0) refl, by_numbers Fact (suc q) Meets rows (suc from) n (omega arith) later h.1)
      | inr h ↦ inr (by_numbers Fact q Meets rows (suc from) n (omega arith) later h)
    ]

module _ (Meets : LineFact) (first : RowsOver) (rules : Rules) (done : ℕ) where
  -- A point of a live box is kept by a later step. It lies in the box of each renewal while a live
  -- box holds it, since that holds all live boxes.
  covers_from : (j : ℕ) (stage : Stage) (events : List Event) (p : Pos) (b : ℤ)
      → EventsPass Meets first rules done j stage events
      → AllBut stage.test.q (IsPossible p b) stage.test.rows
      → PossibleInEach stage.test.q p b (renewals_in events)
      → 0 < weight p stage.boxes.live → SomeKeeps p b (pieces_from stage.boxes (steps_in events))
  covers_from j stage [] p b h all each some = absurd (omega (arith, nothing_live p stage.boxes.live h.0))
  covers_from j stage (Made step ∷ events) p b h all each some = elim (keeps_or_misses rules stage step p b h.0 all) [
    | inl kept ↦ kept (pieces_from (boxes_after stage.boxes step) (steps_in events))
    | inr none ↦ kept_later p b (taken_by stage.boxes step) (pieces_from (boxes_after stage.boxes step) (steps_in events))
        (covers_from j (after stage (Made step)) events p b h.1 all each (omega (arith, conserved rules stage step p h.0)))
  ]
  covers_from j stage (Renewed new ∷ events) p b h all each some =
      let (id, part, is, inside) = some_live p stage.boxes.live some in
      covers_from (suc j) (after stage (Renewed new)) events p b h.1
      (each.0 (inside_holds part new.part p (h.0.holds.each_live id part is) inside)) each.1 some

  -- ---- satellite by satellite

  -- there are no more lines than first rows
  lines_fit : (j i : ℕ) (rows : List Row) → LinesPass Meets first j i rows → i ≤ length first.rows
      → i + length rows ≤ length first.rows
  lines_fit j i [] h le = omega arith
  lines_fit j i (row ∷ rows) h le =
      let here = slice_get_within (map (λ (own : Row). own.sat) first.rows) i row.sat h.0.0 in
      omega (arith, lines_fit j (suc i) rows h.1 (omega (arith, here, length-map first.rows (λ (own : Row). own.sat))))

  -- so there are no more rows in use than first ones
  pub rows_fit : (j : ℕ) (stage : Stage) (events : List Event) (rows : RowsOver)
      → EventsPass Meets first rules done j stage events → length rows.rows ≤ length first.rows
      → length (rows_behind rows events).rows ≤ length first.rows
  rows_fit j stage [] rows h few = few
  rows_fit j stage (Made step ∷ events) rows h few = rows_fit j (after stage (Made step)) events rows h.1 few
  rows_fit j stage (Renewed new ∷ events) rows h few =
      rows_fit (suc j) (after stage (Renewed new)) events new h.1 (omega (arith, lines_fit j 0 new.rows h.0.lines (omega arith)))

  -- where all satellites but at most q are possible, so are the rows of each renewal
  each_from : (Fact : ℕ → Type 0) (q j : ℕ) (stage : Stage) (events : List Event) (p : Pos) (b : ℤ)
      → EventsPass Meets first rules done j stage events
      → ((i : ℕ) → Fact i → IsPossibleByAll (renewals_in events) p b i)
      → AllBut q Fact (numbers_from 0 (length first.rows))
      → PossibleInEach q p b (renewals_in events)
  each_from Fact q j stage [] p b h gives all = tt
  each_from Fact q j stage (Made step ∷ events) p b h gives all = each_from Fact q j (after stage (Made step)) events p b h.1 gives all
  each_from Fact q j stage (Renewed new ∷ events) p b h gives all = (
    λ inside. by_numbers Fact q (IsPossible p b) new.rows 0 (length first.rows) (omega (arith, lines_fit j 0 new.rows h.0.lines (omega arith)))
        (λ i row fact is. (gives i (subst Fact (omega arith) fact)).0 row inside is) all,
    each_from Fact q (suc j) (after stage (Renewed new)) events p b h.1 (λ i fact. (gives i fact).1) all,
  )

-- by a test whose rows are the first ones, over the root
module _ (Meets : LineFact) (rules : Rules) (done : ℕ) (test : BoxTest) (root : GridBox) (events : List Event)
    (passes : EventsPass Meets (rows_over root test.rows) rules done 0 (first_stage test root) events) where
  -- the first rows and those of each renewal tell what is covered
  pub covers_each : (p : Pos) (b : ℤ) → box_holds root p ≡ true
      → PossibleInEach test.q p b (rows_over root test.rows ∷ renewals_in events)
      → SomeKeeps p b (pieces root (steps_in events))
  covers_each p b inside each =
      covers_from Meets (rows_over root test.rows) rules done 0 (first_stage test root) events p b passes (each.0 inside) each.1
      (let one : weight p (Some root ∷ []) ≡ 1 = root_weight root p ∙ rw inside refl in omega arith)

  covers : Covers test.q (rows_over root test.rows) (renewals_in events) (pieces root (steps_in events))
  covers p b inside all =
      let Fact = IsPossibleByAll (rows_over root test.rows ∷ renewals_in events) p b in
      covers_each p b inside (
        λ _. by_numbers Fact test.q (IsPossible p b) test.rows 0 (length test.rows) (omega arith)
            (λ i row fact is. (subst Fact (omega arith) fact).0 row inside is) all,
        each_from Meets (rows_over root test.rows) rules done Fact test.q 0 (first_stage test root) events p b passes (λ i fact. fact.1) all,
      )

-- ---- what surely fits

sure_taken : (rules : Rules) (stage : Stage) (step : Step) → StepPasses rules stage step
    → AreSureInside stage.test.rows stage.test.q (taken_by stage.boxes step)
sure_taken rules stage (Cut id face bound) (part, is, empty) = rw is (tt, tt)
sure_taken rules stage (Split id axis) h = tt
sure_taken rules stage (Outside id) (part, is, empty) = rw is (tt, tt)
sure_taken rules stage (Inside id clock lo hi) (part, is, inner, hull) = rw is
    (λ p e. sure_of_inner stage.test.q part p clock stage.test.rows (in_box part p e) inner, tt)
sure_taken rules stage (Edge id lo hi) (part, is, hull) = rw is (tt, tt)

sure_from : (Meets : LineFact) (first : RowsOver) (rules : Rules) (done j : ℕ) (stage : Stage) (events : List Event)
    → EventsPass Meets first rules done j stage events
    → AreSureFrom stage.test.q stage.test.rows stage.boxes events
sure_from Meets first rules done j stage [] h = tt
sure_from Meets first rules done j stage (Made step ∷ events) h =
    (sure_taken rules stage step h.0, sure_from Meets first rules done j (after stage (Made step)) events h.1)
sure_from Meets first rules done j stage (Renewed new ∷ events) h =
    sure_from Meets first rules done (suc j) (after stage (Renewed new)) events h.1

-- ---- an epoch

pub epoch_cover : (Meets : LineFact) (rules : Rules) (done : ℕ) (test : BoxTest) (root : GridBox) (events : List Event)
    → EventsPass Meets (rows_over root test.rows) rules done 0 (first_stage test root) events
    → EpochCover test.q (rows_over root test.rows) events
epoch_cover Meets rules done test root events h = record {
  partition = partitions Meets (rows_over root test.rows) rules done test root events h;
  covers = covers Meets rules done test root events h;
  sure = sure_from Meets (rows_over root test.rows) rules done 0 (first_stage test root) events h;
}
