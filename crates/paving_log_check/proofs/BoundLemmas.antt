-- Bounds that are shown hold what fits, and which of them forms over the hull show.
use Rattle.std.proofs.Common.{◌≡◌, ℕ, ◌+◌, ◌<◌, ◌≤◌, arith, List, [], ◌∷◌, length, true, subst, inl, inr, refl, sym, ◌∙◌, Option, None, Some}
use Rattle.std.specs.Prelude.{ℤ}
use Rattle.grid_model.specs.Boxes.{GridBox, box_holds}
use Rattle.grid_model.specs.declared.boxes.Pos.{Pos}
use Rattle.sat_model.specs.Bounds.{BoundValue, lines_of_bound, lines_of_bounds}
use Rattle.sat_model.specs.Cover.{SomeKeeps}
use Rattle.sat_model.specs.Events.{Event, Made, Renewed, RowsOver, steps_in, renewals_in}
use Rattle.sat_model.specs.Fitting.{IsPossible, AllBut}
use Rattle.sat_model.specs.Fold.{pieces}
use Rattle.sat_model.specs.HalfSpaces.{IsInHalfSpace, FormsShow, ShowHalfSpace}
use Rattle.sat_model.specs.KeptHulls.{kept_hull}
use Rattle.sat_model.specs.MovedFaces.{box_under, hull_under}
use Rattle.sat_model.specs.Pairs.{FormValue}
use Rattle.sat_model.specs.Renewals.{AnyLine}
use Rattle.sat_model.specs.ShownBounds.{rows_behind, AreOver, IsBoundShown, AreShownOver, IsFirstUnshownOver, AreBoundsShown, IsFirstUnshown}
use Rattle.sat_model.specs.Stages.{Stage}
use Rattle.sat_model.specs.Verdicts.{EventsPass}
use Rattle.sat_model.specs.declared.rules.Rules.{Rules}
use Rattle.sat_model.proofs.CoverLemmas.{inside_holds, PossibleInEach, rows_fit}
use Rattle.sat_model.proofs.EpochLemmas.{HullHolds, hull_held}
use Rattle.sat_model.proofs.FaceLemmas.{held_under}
use Rattle.sat_model.proofs.LawLemmas.{all_in_half_space}
use Rattle.sat_model.proofs.VerdictLemmas.{same_box}
use Rattle.paving_log_check.specs.FileCover.{AreFitBounds}
use Rattle.paving_log_check.specs.FormBounds.{AreFormsOver}

-- ---- what fits

-- what is possible by the first rows and those of each renewal is so by the rows in use at the end
last_possible : (q : ℕ) (p : Pos) (b : ℤ) (rows : RowsOver) (events : List Event)
    → PossibleInEach q p b (rows ∷ renewals_in events) → box_holds (rows_behind rows events).part p ≡ true
    → AllBut q (IsPossible p b) (rows_behind rows events).rows
last_possible q p b rows [] each inside = each.0 inside
last_possible q p b rows (Made step ∷ events) each inside = last_possible q p b rows events each inside
last_possible q p b rows (Renewed new ∷ events) each inside = last_possible q p b new events each.1 inside

over_possible : (q : ℕ) (p : Pos) (b : ℤ) (hull : GridBox) (first : RowsOver) (events : List Event) (over : RowsOver)
    → AreOver hull first events over → PossibleInEach q p b (first ∷ renewals_in events)
    → box_holds first.part p ≡ true → box_holds hull p ≡ true → AllBut q (IsPossible p b) over.rows
over_possible q p b hull first events over (inl last) each inside held =
    rw last.1 (last_possible q p b first events each (inside_holds hull (rows_behind first events).part p last.0 held))
over_possible q p b hull first events over (inr front) each inside held = rw front.1 (each.0 inside)

module _ (q : ℕ) (first : RowsOver) (events : List Event) (FitsAt : Pos → ℤ → Type 0)
    (each : (p : Pos) (b : ℤ) → FitsAt p b → PossibleInEach q p b (first ∷ renewals_in events)) where
  -- what fits in the box of the first rows lies in a hull
  abbrev Holds : Option GridBox → Type 0
  Holds hull = (p : Pos) (b : ℤ) → box_holds first.part p ≡ true → FitsAt p b → HullHolds hull p

  fit_bound : (hull : Option GridBox) → Holds hull → (bound : BoundValue) → IsBoundShown q first events hull bound
      → (p : Pos) (b : ℤ) → box_holds first.part p ≡ true → FitsAt p b → IsInHalfSpace bound.half p
  fit_bound hull holds bound shown p b inside fit =
      let held = subst (λ (o : Option GridBox). HullHolds o p) shown.is_hull (holds p b inside fit) in
      all_in_half_space bound.half shown.over.rows shown.part q bound.sums shown.shows p b held
      (over_possible q p b shown.part first events shown.over shown.are_over (each p b fit) inside held)

  fit_over : (hull : Option GridBox) → Holds hull → (bounds : List BoundValue) → AreShownOver q first events hull bounds
      → AreFitBounds FitsAt first.part bounds
  fit_over hull holds [] shown = tt
  fit_over hull holds (bound ∷ more) shown =
      let within = fit_bound hull holds bound shown.0 in (
        within,
        fit_over (hull_under bound.half hull)
            (λ p b inside fit. held_under bound.half hull p (holds p b inside fit) (within p b inside fit)) more shown.1,
      )

  pub fit_bounds : ((p : Pos) (b : ℤ) → box_holds first.part p ≡ true → FitsAt p b → SomeKeeps p b (pieces first.part (steps_in events)))
      → (bounds : List BoundValue) → AreBoundsShown q first events bounds → AreFitBounds FitsAt first.part bounds
  fit_bounds covers bounds shown = fit_over (kept_hull (pieces first.part (steps_in events)))
      (λ p b inside fit. hull_held (pieces first.part (steps_in events)) p b (covers p b inside fit)) bounds shown

-- ---- the rows by which they are shown

-- those in use at the end are no more than the first ones
pub lasts_few : (rules : Rules) (done : ℕ) (stage : Stage) (first : RowsOver) (events : List Event)
    → EventsPass AnyLine first rules done 0 stage events → length (rows_behind first events).rows ≤ length first.rows
lasts_few rules done stage first events passes = rows_fit AnyLine first rules done 0 stage events first passes (omega arith)

pub few_over : (hull : GridBox) (first : RowsOver) (events : List Event) (over : RowsOver) → AreOver hull first events over
    → length first.rows ≤ 64 → length (rows_behind first events).rows ≤ 64 → length over.rows ≤ 64
few_over hull first events over (inl last) few lasts = rw last.1 lasts
few_over hull first events over (inr front) few lasts = rw front.1 few

-- ---- by forms over the hull

same_over : (hull : GridBox) (first : RowsOver) (events : List Event) (a b : RowsOver)
    → AreOver hull first events a → AreOver hull first events b → a ≡ b
same_over hull first events a b (inl f) (inl g) = f.1 ∙ sym g.1
same_over hull first events a b (inl f) (inr g) = absurd (g.0 f.0)
same_over hull first events a b (inr f) (inl g) = absurd (f.0 g.0)
same_over hull first events a b (inr f) (inr g) = f.1 ∙ sym g.1

module _ (q : ℕ) (first : RowsOver) (events : List Event) (hull : GridBox) (forms : List FormValue)
    (are : AreFormsOver first events hull forms) where
  pub shown_by : (bound : BoundValue) → FormsShow forms hull q bound.half bound.sums → IsBoundShown q first events (Some hull) bound
  shown_by bound h = record {
    part = hull;
    is_hull = refl;
    over = are.over;
    are_over = are.are_over;
    shows = subst (λ (fs : List FormValue). FormsShow fs hull q bound.half bound.sums) are.formed h;
  }

  pub shows : (bound : BoundValue) → IsBoundShown q first events (Some hull) bound → FormsShow forms hull q bound.half bound.sums
  shows bound s =
      let same : s.part ≡ hull = same_box (Some hull) s.part hull s.is_hull refl in
      let here : AreOver hull first events s.over = subst (λ (h : GridBox). AreOver h first events s.over) same s.are_over in
      let there : ShowHalfSpace s.over.rows hull q bound.half bound.sums = subst (λ (h : GridBox). ShowHalfSpace s.over.rows h q bound.half bound.sums) same s.shows in
      let by : ShowHalfSpace are.over.rows hull q bound.half bound.sums =
      subst (λ (o : RowsOver). ShowHalfSpace o.rows hull q bound.half bound.sums) (same_over hull first events s.over are.over here are.are_over) there in
      subst (λ (fs : List FormValue). FormsShow fs hull q bound.half bound.sums) (sym are.formed) by

-- where no box is kept the first of them isn't shown
pub none_shown : (q : ℕ) (first : RowsOver) (events : List Event) (bounds : List BoundValue) → 0 < length bounds
    → kept_hull (pieces first.part (steps_in events)) ≡ None → IsFirstUnshown q first events bounds 0
none_shown q first events [] some none = absurd (omega (arith, some))
none_shown q first events (bound ∷ more) some none = inl (λ shown. absurd (let kept = shown.is_hull in cc), refl)

-- ---- one after another

module _ (q : ℕ) (first : RowsOver) (events : List Event) (start : GridBox) (all : List BoundValue) (line : ℕ) where
  -- where the next line has this number, these bounds over this hull decide
  pub record IsOnTheWay (next : ℕ) (hull : GridBox) (left : List BoundValue) : Type 0 where
    pub offset : ℕ
    pub next_is : next ≡ line + offset
    pub pass : AreShownOver q first events (Some hull) left → AreShownOver q first events (Some start) all
    pub fail : (k : ℕ) → IsFirstUnshownOver q first events (Some hull) left k
        → IsFirstUnshownOver q first events (Some start) all (offset + k)
    pub lines : offset + lines_of_bounds left ≡ lines_of_bounds all

  pub way_first : IsOnTheWay line start all
  way_first = record {
    offset = 0;
    next_is = omega arith;
    pass = λ h. h;
    fail = λ k f. subst (λ (n : ℕ). IsFirstUnshownOver q first events (Some start) all n) (omega arith) f;
    lines = omega arith;
  }

  pub way_more : (next behind : ℕ) (hull after : GridBox) (bound : BoundValue) (left : List BoundValue)
      → IsOnTheWay next hull (bound ∷ left) → IsBoundShown q first events (Some hull) bound
      → after ≡ box_under bound.half hull → behind ≡ next + lines_of_bound bound
      → IsOnTheWay behind after left
  way_more next behind hull after bound left w shown moved is = record {
    offset = w.offset + lines_of_bound bound;
    next_is = omega (arith, w.next_is, is);
    pass = λ h. w.pass (shown, subst (λ (part : GridBox). AreShownOver q first events (Some part) left) moved h);
    fail = λ k f. subst (λ (n : ℕ). IsFirstUnshownOver q first events (Some start) all n) (omega arith)
        (w.fail (lines_of_bound bound + k) (inr (shown, (k, refl, subst (λ (part : GridBox). IsFirstUnshownOver q first events (Some part) left k) moved f))));
    lines = omega (arith, w.lines);
  }
