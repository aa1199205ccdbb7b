-- A row that may fit at a point of a box has the offset in its clock span over the box; a row with
-- the offset in its inner span surely fits at each point of the box.
use Rattle.std.proofs.Common.{◌≡◌, ℕ, zero, suc, ◌+◌, ◌-◌, ◌≤◌, arith, List, [], ◌∷◌, length, count_by, true, false, cond, inl, inr, refl, ◌∙◌}
use Rattle.std.specs.Prelude.{ℤ, ◌≤ℤ◌}
use Rattle.std.proofs.lemmas.Int.{ints}
use Rattle.std.proofs.lemmas.Bool.{cases_Bool, and_parts as both}
use Rattle.std.proofs.lemmas.List.Sums.{sum_by-cons}
use Rattle.grid_model.specs.declared.boxes.Pos.{Pos}
use Rattle.sat_model.specs.declared.rows.Row.{Row}
use Rattle.grid_model.specs.Boxes.{GridBox}
use Rattle.sat_model.specs.ClockSpans.{near_square, far_square, near_of, far_of, clock_ends, clock_spans, inner_ends, inner_spans, IsShownInner}
use Rattle.grid_model.specs.Ranges.{range_to}
use Rattle.sat_model.specs.Fitting.{RowValue, IsPossible, IsSure, AllBut}
use Rattle.sat_model.specs.Relaxed.{holds, LiesInRelaxed}
use Rattle.grid_model.proofs.RootLemmas.{root_is, root_mono, sum_mono}
use Rattle.grid_model.proofs.AmountLemmas.{least_amount_le, greatest_amount_ge}
use Rattle.grid_model.proofs.PointLemmas.{IsInBox, le_from, le_to}
use Rattle.grid_model.proofs.PlainLemmas.{at_most_one}

-- ---- one row

near_le_range : (row : Row) (part : GridBox) (p : Pos) (v : RowValue row) → IsInBox part p
    → near_of row part ≤ range_to v.x v.y v.z p
unfolding near_of range_to
near_le_range row part p v i = root_mono (near_square row part) _ _ _ (root_is _) (root_is _)
    (sum_mono _ _ _ _ _ _
    (least_amount_le _ _ _ _ v.x p.x v.x_in.0 v.x_in.1 i.x.0 i.x.1)
    (least_amount_le _ _ _ _ v.y p.y v.y_in.0 v.y_in.1 i.y.0 i.y.1)
    (least_amount_le _ _ _ _ v.z p.z v.z_in.0 v.z_in.1 i.z.0 i.z.1))

range_le_far : (row : Row) (part : GridBox) (p : Pos) (v : RowValue row) → IsInBox part p
    → range_to v.x v.y v.z p ≤ far_of row part
unfolding far_of range_to
range_le_far row part p v i = root_mono _ (far_square row part) _ _ (root_is _) (root_is _)
    (sum_mono _ _ _ _ _ _
    (greatest_amount_ge _ _ _ _ v.x p.x v.x_in.0 v.x_in.1 i.x.0 i.x.1)
    (greatest_amount_ge _ _ _ _ v.y p.y v.y_in.0 v.y_in.1 i.y.0 i.y.1)
    (greatest_amount_ge _ _ _ _ v.z p.z v.z_in.0 v.z_in.1 i.z.0 i.z.1))

pub holds_from : (lo hi b : ℤ) → lo ≤ℤ b → b ≤ℤ hi → holds (lo, hi) b ≡ true
holds_from lo hi b h k = rw (le_to lo b h, le_to b hi k) refl

clock_holds : (row : Row) (part : GridBox) (p : Pos) (b : ℤ) → IsPossible p b row → IsInBox part p
    → holds (clock_ends part row) b ≡ true
clock_holds row part p b k i = holds_from _ _ b
    (omega (arith, ints, range_le_far row part p k.value i, k.value.measured_in, k.allowed))
    (omega (arith, ints, near_le_range row part p k.value i, k.value.measured_in, k.allowed))

inner_sure : (row : Row) (part : GridBox) (p : Pos) (b : ℤ) → holds (inner_ends part row) b ≡ true
    → IsInBox part p → IsSure p b row
inner_sure row part p b h i v =
    let (l, u) = both _ _ h in
    let low = le_from _ b l in
    let high = le_from b _ u in (
      omega (arith, ints, low, high, range_le_far row part p v i, v.measured_in),
      omega (arith, ints, low, high, near_le_range row part p v i, v.measured_in),
    )

-- ---- all rows but at most q

pub count_here : (b : ℤ) (s : ℤ × ℤ) (spans : List (ℤ × ℤ)) → holds s b ≡ true
    → count_by (λ t. holds t b) (s ∷ spans) ≡ 1 + count_by (λ t. holds t b) spans
count_here b s spans e = sum_by-cons (λ t. cond (holds t b) 1 0) s spans ∙ rw e refl

pub count_not_here : (b : ℤ) (s : ℤ × ℤ) (spans : List (ℤ × ℤ)) → holds s b ≡ false
    → count_by (λ t. holds t b) (s ∷ spans) ≡ count_by (λ t. holds t b) spans
count_not_here b s spans e = sum_by-cons (λ t. cond (holds t b) 1 0) s spans ∙ rw e (omega arith)

pub count_any : (b : ℤ) (s : ℤ × ℤ) (spans : List (ℤ × ℤ))
    → count_by (λ t. holds t b) spans ≤ count_by (λ t. holds t b) (s ∷ spans)
count_any b s spans = omega (arith, sum_by-cons (λ t. cond (holds t b) 1 0) s spans)

all_but_held : (q : ℕ) (part : GridBox) (p : Pos) (b : ℤ) (rows : List Row) → IsInBox part p
    → AllBut q (IsPossible p b) rows
    → length rows ≤ count_by (λ t. holds t b) (clock_spans part rows) + q
all_but_held q part p b [] i h = omega arith
all_but_held zero part p b (row ∷ rows) i h =
    omega (arith, count_here b (clock_ends part row) (clock_spans part rows) (clock_holds row part p b h.0 i), all_but_held zero part p b rows i h.1)
all_but_held (suc q) part p b (row ∷ rows) i h = elim h [
  | inl h ↦ omega (arith, count_here b (clock_ends part row) (clock_spans part rows) (clock_holds row part p b h.0 i), all_but_held (suc q) part p b rows i h.1)
  | inr h ↦ omega (arith, count_any b (clock_ends part row) (clock_spans part rows), all_but_held q part p b rows i h)
]

-- where all rows but at most q may fit, the offset lies in all clock spans but at most q
pub relaxed_of_possible : (q : ℕ) (part : GridBox) (p : Pos) (b : ℤ) (rows : List Row)
    → IsInBox part p → AllBut q (IsPossible p b) rows
    → LiesInRelaxed (clock_spans part rows) (length rows - q) b
relaxed_of_possible q part p b rows i h = omega (arith, all_but_held q part p b rows i h)

inner_le_rows : (part : GridBox) (b : ℤ) (rows : List Row)
    → count_by (λ t. holds t b) (inner_spans part rows) ≤ length rows
inner_le_rows part b [] = omega arith
inner_le_rows part b (row ∷ rows) =
    omega (arith, sum_by-cons (λ t. cond (holds t b) 1 0) (inner_ends part row) (inner_spans part rows), at_most_one (holds (inner_ends part row) b), inner_le_rows part b rows)

all_but_sure : (q : ℕ) (part : GridBox) (p : Pos) (b : ℤ) (rows : List Row) → IsInBox part p
    → length rows ≤ count_by (λ t. holds t b) (inner_spans part rows) + q
    → AllBut q (IsSure p b) rows
all_but_sure q part p b [] i h = tt
all_but_sure zero part p b (row ∷ rows) i h = elim (cases_Bool (holds (inner_ends part row) b)) [
  | inl e ↦ (inner_sure row part p b e i, all_but_sure zero part p b rows i (omega (arith, count_here b (inner_ends part row) (inner_spans part rows) e)))
  | inr e ↦ absurd (omega (arith, count_not_here b (inner_ends part row) (inner_spans part rows) e, inner_le_rows part b rows))
]
all_but_sure (suc q) part p b (row ∷ rows) i h = elim (cases_Bool (holds (inner_ends part row) b)) [
  | inl e ↦ inl (inner_sure row part p b e i, all_but_sure (suc q) part p b rows i (omega (arith, count_here b (inner_ends part row) (inner_spans part rows) e)))
  | inr e ↦ inr (all_but_sure q part p b rows i (omega (arith, count_not_here b (inner_ends part row) (inner_spans part rows) e)))
]

-- where the offset lies in all inner spans but at most q, all rows but at most q surely fit
pub sure_of_inner : (q : ℕ) (part : GridBox) (p : Pos) (b : ℤ) (rows : List Row) → IsInBox part p
    → IsShownInner rows part q b → AllBut q (IsSure p b) rows
sure_of_inner q part p b rows i h = all_but_sure q part p b rows i (omega arith)
