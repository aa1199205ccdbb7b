-- What fits anywhere in the root of an epoch lies in the hull of its kept boxes, and what fits there in
-- each half-space that is shown over it.
use Rattle.std.proofs.Common.{◌≡◌, ℕ, arith, subst, cond, Bool, true, false, List, [], ◌∷◌, length, inl, inr, Option, None, Some}
use Rattle.std.specs.Prelude.{ℤ, ◌≤◌, slice_get, All, Contains}
use Rattle.std.proofs.lemmas.List.Elements.{All-nil, All-cons, All-contains}
use Rattle.grid_model.specs.declared.boxes.Pos.{Pos}
use Rattle.grid_model.specs.Boxes.{GridBox, box_holds}
use Rattle.grid_model.specs.Hulls.{joined_box}
use Rattle.grid_model.proofs.HullLemmas.{first_inside, second_inside}
use Rattle.sat_model.specs.declared.rows.Row.{Row}
use Rattle.sat_model.specs.Cover.{SomeKeeps, IsPossibleByAll, numbers_from}
use Rattle.sat_model.specs.Events.{RowsOver}
use Rattle.sat_model.specs.Fitting.{IsPossible, AllBut}
use Rattle.sat_model.specs.Fold.{ShownStep}
use Rattle.sat_model.specs.HalfSpaces.{IsInHalfSpace, ShowHalfSpace}
use Rattle.sat_model.specs.KeptHulls.{hull_with, hull_after, hull_behind, kept_hull}
use Rattle.sat_model.specs.StepKinds.{is_kept_step}
use Rattle.sat_model.specs.declared.half_spaces.HalfSpace.{HalfSpace}
use Rattle.sat_model.specs.declared.row_sums.RowSum.{RowSum}
use Rattle.sat_model.proofs.CoverLemmas.{inside_holds, by_numbers}
use Rattle.sat_model.proofs.KeptLemmas.{kept_step}
use Rattle.sat_model.proofs.LawLemmas.{all_in_half_space}

-- ---- what the hull holds

-- there is a hull, and it holds the point
abbrev pub HullHolds : Option GridBox → Pos → Type 0
HullHolds None p = ⊥
HullHolds (Some hull) p = box_holds hull p ≡ true

held_with : (hull : Option GridBox) (part : GridBox) (p : Pos) → HullHolds hull p
    → HullHolds (hull_with hull part) p
held_with None part p h = absurd h
held_with (Some hull) part p h = inside_holds hull (joined_box hull part) p (first_inside hull part) h

held_new : (hull : Option GridBox) (part : GridBox) (p : Pos) → box_holds part p ≡ true
    → HullHolds (hull_with hull part) p
held_new None part p h = h
held_new (Some hull) part p h = inside_holds part (joined_box hull part) p (second_inside hull part) h

held_after : (hull : Option GridBox) (shown : ShownStep) (p : Pos) → HullHolds hull p
    → HullHolds (hull_after hull shown) p
held_after hull shown p h = by_kind (is_kept_step shown.step)
  where
    by_kind : (kept : Bool) → HullHolds (cond kept (hull_with hull shown.part) hull) p
    by_kind true = held_with hull shown.part p h
    by_kind false = h

held_behind : (hull : Option GridBox) (parts : List ShownStep) (p : Pos) → HullHolds hull p
    → HullHolds (hull_behind hull parts) p
held_behind hull [] p h = h
held_behind hull (shown ∷ more) p h = held_behind (hull_after hull shown) more p (held_after hull shown p h)

kept_held : (hull : Option GridBox) (parts : List ShownStep) (p : Pos) (b : ℤ)
    → SomeKeeps p b parts → HullHolds (hull_behind hull parts) p
kept_held hull [] p b some = absurd some
kept_held hull (piece ∷ more) p b (inl here) =
    held_behind (hull_after hull piece) more p
    (rw (kept_step piece.step b here.1) (held_new hull piece.part p here.0))
kept_held hull (piece ∷ more) p b (inr later) = kept_held (hull_after hull piece) more p b later

pub hull_held : (parts : List ShownStep) (p : Pos) (b : ℤ) → SomeKeeps p b parts
    → HullHolds (kept_hull parts) p
hull_held parts p b some = kept_held None parts p b some

-- ---- what is possible by all rows is so by some

abbrev IsPossibleBy : Pos → ℤ → ℕ → RowsOver → Type 0
IsPossibleBy p b i some = (row : Row) → box_holds some.part p ≡ true → slice_get some.rows i ≡ Some row
    → IsPossible p b row

by_each : (all : List RowsOver) (p : Pos) (b : ℤ) (i : ℕ) → IsPossibleByAll all p b i
    → All (IsPossibleBy p b i) all
by_each [] p b i fact = All-nil (IsPossibleBy p b i)
by_each (x ∷ all) p b i fact = All-cons (IsPossibleBy p b i) x all fact.0 (by_each all p b i fact.1)

-- ---- the law

pub fits_in_half_space : (h : HalfSpace) (q : ℕ) (first : RowsOver) (renewals : List RowsOver) (some : RowsOver) (hull : GridBox) (sums : List RowSum)
    → Contains (first ∷ renewals) some → length some.rows ≤ length first.rows
    → ShowHalfSpace some.rows hull q h sums
    → (p : Pos) (b : ℤ) → box_holds hull p ≡ true → box_holds some.part p ≡ true
    → AllBut q (IsPossibleByAll (first ∷ renewals) p b) (numbers_from 0 (length first.rows))
    → IsInHalfSpace h p
fits_in_half_space h q first renewals some hull sums one few show p b held over fits =
    let all = first ∷ renewals in
    let Fact = IsPossibleByAll all p b in
    all_in_half_space h some.rows hull q sums show p b held
    (by_numbers Fact q (IsPossible p b) some.rows 0 (length first.rows) few
    (λ i row fact is_row.
    let each = by_each all p b i (subst Fact (omega arith) fact) in
    All-contains (IsPossibleBy p b i) all some each one row over is_row) fits)
