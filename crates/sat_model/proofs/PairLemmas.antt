-- All rows but at most q that are possible at a point, with one offset, agree over each box that holds
-- the point: so at no point of a box that pairs show empty does anything fit.
use Rattle.std.proofs.Common.{◌≡◌, ℕ, zero, suc, arith, List, [], ◌∷◌, map, inl, inr, true}
use Rattle.std.specs.Prelude.{ℤ, pos, ◌+ℤ◌, ◌-ℤ◌, ◌*ℤ◌, ◌≤ℤ◌, ◌<ℤ◌}
use Rattle.std.proofs.lemmas.Int.{ints}
use Rattle.grid_model.specs.declared.boxes.Pos.{Pos}
use Rattle.sat_model.specs.declared.rows.Row.{Row}
use Rattle.grid_model.specs.Boxes.{GridBox, box_holds}
use Rattle.sat_model.specs.Fitting.{IsPossible, AllBut}
use Rattle.grid_model.proofs.PointLemmas.{in_box}
use Rattle.sat_model.specs.Pairs.{scale, FormValue, form_of, tilt, IsBelow, Conflict, Agrees, AgreeBut, IsShownEmptyByPairs}
use Rattle.sat_model.proofs.PairFormLemmas.{FormHolds, form_holds}

not_below : (part : GridBox) (p : Pos) (b : ℤ) (f g : FormValue) → box_holds part p ≡ true
    → FormHolds f part p b → FormHolds g part p b → IsBelow part f g → ⊥
not_below part p b f g i h k below = apart (pos scale *ℤ b) (tilt f part p) (tilt g part p) f.upper g.lower h.up_to k.from (below p i)
  where
    apart : (s t t' u l : ℤ) → (s +ℤ t) ≤ℤ u → l ≤ℤ (s +ℤ t') → (u -ℤ t) <ℤ (l -ℤ t') → ⊥
    apart s t t' u l h k c = absurd (omega (arith, ints))

no_conflict : (part : GridBox) (p : Pos) (b : ℤ) (f g : FormValue) → box_holds part p ≡ true
    → FormHolds f part p b → FormHolds g part p b → Conflict part f g → ⊥
no_conflict part p b f g i h k c = elim c [
  | inl x ↦ not_below part p b f g i h k x
  | inr x ↦ not_below part p b g f i k h x
]

AllHold : GridBox → Pos → ℤ → List FormValue → Type 0
AllHold part p b [] = Unit {0}
AllHold part p b (f ∷ kept) = FormHolds f part p b × AllHold part p b kept

agrees : (part : GridBox) (p : Pos) (b : ℤ) (f : FormValue) (kept : List FormValue)
    → box_holds part p ≡ true → FormHolds f part p b → AllHold part p b kept → Agrees part f kept
unfolding AllHold
agrees part p b f [] i h all = tt
agrees part p b f (g ∷ kept) i h all = (no_conflict part p b g f i all.0 h, agrees part p b f kept i h all.1)

agree_all : (q : ℕ) (part : GridBox) (p : Pos) (b : ℤ) (kept : List FormValue) (rows : List Row)
    → box_holds part p ≡ true → AllHold part p b kept
    → AllBut q (IsPossible p b) rows → AgreeBut part q kept (map (form_of part) rows)
unfolding AllHold
agree_all q part p b kept [] i all h = tt
agree_all zero part p b kept (row ∷ rows) i all h =
    let f = form_holds row part p b h.0 (in_box part p i) in
    (agrees part p b (form_of part row) kept i f all, agree_all zero part p b (form_of part row ∷ kept) rows i (f, all) h.1)
agree_all (suc q) part p b kept (row ∷ rows) i all h = elim h [
  | inl h ↦
      let f = form_holds row part p b h.0 (in_box part p i) in
      inl (agrees part p b (form_of part row) kept i f all, agree_all (suc q) part p b (form_of part row ∷ kept) rows i (f, all) h.1)
  | inr h ↦ inr (agree_all q part p b kept rows i all h)
]

-- at no point of a box that pairs show empty, with no offset, are all rows but at most q possible
pub nothing_fits : (q : ℕ) (part : GridBox) (rows : List Row) → IsShownEmptyByPairs rows part q
    → (p : Pos) (b : ℤ) → box_holds part p ≡ true → AllBut q (IsPossible p b) rows → ⊥
unfolding AllHold
nothing_fits q part rows empty p b i h = empty (agree_all q part p b [] rows i tt h)
