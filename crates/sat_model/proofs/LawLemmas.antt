-- What fits in the box lies in a half-space that sums show.
use Rattle.std.proofs.Common.{◌≡◌, ◌≢◌, ℕ, zero, suc, ◌<◌, ◌≤◌, arith, refl, ap, List, [], ◌∷◌, length, map, inl, inr, true}
use Rattle.std.specs.Prelude.{ℤ, pos, ◌+ℤ◌, ◌-ℤ◌, ◌*ℤ◌, ◌≤ℤ◌, ◌<ℤ◌, All}
use Rattle.std.proofs.lemmas.Int.{ints, by_lt_z}
use Rattle.std.proofs.lemmas.List.Elements.{All-nil, All-cons, All-head, All-tail, All-contains}
use lib.IntN.{*ℤ_comm}
use Rattle.grid_model.specs.declared.boxes.Pos.{Pos}
use Rattle.grid_model.specs.Boxes.{GridBox, box_holds}
use Rattle.grid_model.proofs.PointLemmas.{IsInBox, in_box}
use Rattle.grid_model.proofs.ProductLemmas.{mul_mono}
use Rattle.sat_model.specs.declared.rows.Row.{Row}
use Rattle.sat_model.specs.Fitting.{IsPossible, AllBut}
use Rattle.sat_model.specs.Pairs.{scale, FormValue, form_of}
use Rattle.sat_model.proofs.PairFormLemmas.{FormHolds, form_holds}
use Rattle.sat_model.specs.declared.half_spaces.HalfSpace.{HalfSpace}
use Rattle.sat_model.specs.declared.row_sums.RowSum.{RowSum}
use Rattle.sat_model.specs.HalfSpaces.{along, IsInHalfSpace, SumValue, empty_sum, add_terms, form_at, terms_of, sum_tilt, IsAbove, IsShownBy, ShowHalfSpace}
use Rattle.sat_model.proofs.SumLemmas.{SumHolds, all_hold, none_hold}

-- ---- which rows are left out

up_all : List ℕ → List ℕ
up_all [] = []
up_all (n ∷ out) = suc n ∷ up_all out

up_length : (out : List ℕ) → length (up_all out) ≡ length out
unfolding up_all
up_length [] = refl
up_length (n ∷ out) = ap suc (up_length out)

down : (out : List ℕ) (j : ℕ) → All (λ (m : ℕ). m ≢ suc j) (up_all out) → All (λ (m : ℕ). m ≢ j) out
unfolding up_all
down [] j h = All-nil (λ (m : ℕ). m ≢ j)
down (n ∷ out) j h =
    All-cons (λ (m : ℕ). m ≢ j) n out
    (λ e. All-head (λ (m : ℕ). m ≢ suc j) (suc n) (up_all out) h (ap suc e)) (down out j (All-tail (λ (m : ℕ). m ≢ suc j) (suc n) (up_all out) h))

record LeftOut (q : ℕ) (forms : List FormValue) (part : GridBox) (p : Pos) (b : ℤ) : Type 0 where
  out : List ℕ
  few : length out ≤ q
  others : (i : ℕ) → i < length forms → All (λ (m : ℕ). m ≢ i) out
      → FormHolds (form_at forms i) part p b

none : (q : ℕ) (part : GridBox) (p : Pos) (b : ℤ) → LeftOut q [] part p b
none q part p b = record { out = []; few = omega arith; others = λ i h n. absurd (omega arith) }

kept_others : (f : FormValue) (q : ℕ) (forms : List FormValue) (part : GridBox) (p : Pos) (b : ℤ)
    → FormHolds f part p b → (l : LeftOut q forms part p b)
    → (i : ℕ) → i < length (f ∷ forms) → All (λ (m : ℕ). m ≢ i) (up_all l.out)
    → FormHolds (form_at (f ∷ forms) i) part p b
kept_others f q forms part p b h l zero k n = h
kept_others f q forms part p b h l (suc j) k n = l.others j (omega arith) (down l.out j n)

kept : (f : FormValue) (q : ℕ) (forms : List FormValue) (part : GridBox) (p : Pos) (b : ℤ)
    → FormHolds f part p b → LeftOut q forms part p b → LeftOut q (f ∷ forms) part p b
kept f q forms part p b h l = record {
  out = up_all l.out;
  few = omega (arith, up_length l.out, l.few);
  others = kept_others f q forms part p b h l;
}

left_others : (f : FormValue) (q : ℕ) (forms : List FormValue) (part : GridBox) (p : Pos) (b : ℤ)
    → (l : LeftOut q forms part p b)
    → (i : ℕ) → i < length (f ∷ forms) → All (λ (m : ℕ). m ≢ i) (zero ∷ up_all l.out)
    → FormHolds (form_at (f ∷ forms) i) part p b
left_others f q forms part p b l zero k n = absurd (All-head (λ (m : ℕ). m ≢ zero) zero (up_all l.out) n refl)
left_others f q forms part p b l (suc j) k n = l.others j (omega arith) (down l.out j (All-tail (λ (m : ℕ). m ≢ suc j) zero (up_all l.out) n))

left : (f : FormValue) (q : ℕ) (forms : List FormValue) (part : GridBox) (p : Pos) (b : ℤ)
    → LeftOut q forms part p b → LeftOut (suc q) (f ∷ forms) part p b
left f q forms part p b l = record {
  out = zero ∷ up_all l.out;
  few = omega (arith, up_length l.out, l.few);
  others = left_others f q forms part p b l;
}

left_out : (q : ℕ) (part : GridBox) (p : Pos) (b : ℤ) (rows : List Row) → IsInBox part p
    → AllBut q (IsPossible p b) rows → LeftOut q (map (form_of part) rows) part p b
left_out q part p b [] i h = none q part p b
left_out zero part p b (row ∷ rows) i h =
    kept (form_of part row) zero (map (form_of part) rows) part p b (form_holds row part p b h.0 i) (left_out zero part p b rows i h.1)
left_out (suc q) part p b (row ∷ rows) i h = elim h [
  | inl h ↦ kept (form_of part row) (suc q) (map (form_of part) rows) part p b (form_holds row part p b h.0 i) (left_out (suc q) part p b rows i h.1)
  | inr h ↦ left (form_of part row) q (map (form_of part) rows) part p b (left_out q part p b rows i h)
]

-- ---- one sum

sum_atoms : (to tilt most slack_times : ℤ) → to ≡ pos 0 → (to +ℤ tilt) ≤ℤ most
    → most <ℤ (tilt +ℤ slack_times) → slack_times ≤ℤ pos 0 → ⊥
sum_atoms to tilt most slack_times e h k l = absurd (omega (arith, ints))

no_times : (t o : ℤ) → t ≡ pos 0 → t *ℤ o ≡ pos 0
no_times t o e = rw e (nothing o)
  where
    nothing : (o : ℤ) → pos 0 *ℤ o ≡ pos 0
    nothing o = omega (arith, ints)

no_slack : (aim : ℕ) (slack : ℤ) → slack ≤ℤ pos 0 → (pos aim *ℤ slack) ≤ℤ pos 0
no_slack aim slack h =
    let m : (slack *ℤ pos aim) ≤ℤ (pos 0 *ℤ pos aim) = mul_mono slack (pos 0) (pos aim) h (omega (arith, ints)) in
    at_most (slack *ℤ pos aim) (pos aim *ℤ slack) aim (*ℤ_comm slack (pos aim)) m
  where
    at_most : (x y : ℤ) (n : ℕ) → x ≡ y → x ≤ℤ (pos 0 *ℤ pos n) → y ≤ℤ pos 0
    at_most x y n e h = omega (arith, ints)

lies : (part : GridBox) (h : HalfSpace) (aim : ℕ) (s : SumValue) (p : Pos) (b : ℤ)
    → box_holds part p ≡ true → SumHolds s part p b → s.multipliers ≡ pos 0 → IsAbove part h aim s
    → IsInHalfSpace h p
lies part h aim s p b i holds balanced above = by_lt_z h.most (along h p)
    (λ less. absurd (sum_atoms (s.multipliers *ℤ (pos scale *ℤ b)) (sum_tilt s part p) s.most (pos aim *ℤ ((h.most +ℤ pos 1) -ℤ along h p))
    (no_times s.multipliers (pos scale *ℤ b) balanced) holds.holds (above p i) (no_slack aim _ (short h.most (along h p) less))))
    (λ le. le)
  where
    short : (m a : ℤ) → m <ℤ a → ((m +ℤ pos 1) -ℤ a) ≤ℤ pos 0
    short m a h = omega (arith, ints)

-- ---- the law

pub all_in_half_space : (h : HalfSpace) (rows : List Row) (part : GridBox) (q : ℕ) (sums : List RowSum)
    → ShowHalfSpace rows part q h sums
    → (p : Pos) (b : ℤ) → box_holds part p ≡ true → AllBut q (IsPossible p b) rows → IsInHalfSpace h p
all_in_half_space h rows part q sums show p b i fits =
    let forms = map (form_of part) rows in
    let l = left_out q part p b rows (in_box part p i) fits in
    let found = show.survives l.out l.few in
    let s = found.0 in
    let by : IsShownBy forms part h s = All-contains (IsShownBy forms part h) sums s show.shown found.1 in
    lies part h s.aim (add_terms forms (terms_of s) empty_sum) p b i
    (all_hold forms part p b l.out l.others (terms_of s) empty_sum by.usable found.2 (none_hold part p b)) by.balanced by.above
