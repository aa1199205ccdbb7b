-- A sum of forms that hold at a point holds there.
use Rattle.std.proofs.Common.{◌≡◌, ◌≢◌, ℕ, ◌<◌, arith, ap, ◌∙◌, List, [], ◌∷◌, length}
use Rattle.std.specs.Prelude.{ℤ, pos, negsuc, ◌+ℤ◌, ◌-ℤ◌, ◌*ℤ◌, ◌≤ℤ◌, All}
use Rattle.std.proofs.lemmas.Int.{ints}
use Rattle.std.proofs.lemmas.List.Elements.{All-head, All-tail}
use lib.IntN.{*ℤ_comm}
use Rattle.grid_model.specs.declared.boxes.Pos.{Pos}
use Rattle.grid_model.specs.Boxes.{GridBox, middle}
use Rattle.grid_model.proofs.ProductLemmas.{mul_mono, mul_anti, distrib, add_mul, mul_assoc}
use Rattle.sat_model.specs.Pairs.{scale, FormValue, tilt}
use Rattle.sat_model.proofs.PairFormLemmas.{FormHolds}
use Rattle.sat_model.specs.declared.row_sums.Term.{Term}
use Rattle.sat_model.specs.HalfSpaces.{SumValue, empty_sum, end_of, add_form, add_terms, form_at, IsUsable, sum_tilt}

pub record SumHolds (s : SumValue) (part : GridBox) (p : Pos) (b : ℤ) : Type 0 where
  pub holds : ((s.multipliers *ℤ (pos scale *ℤ b)) +ℤ sum_tilt s part p) ≤ℤ s.most

-- ---- so many times a form

up_times : (m x y : ℤ) → pos 0 ≤ℤ m → x ≤ℤ y → (m *ℤ x) ≤ℤ (m *ℤ y)
up_times m x y p h = rw (*ℤ_comm m x, *ℤ_comm m y) (mul_mono x y m h p)

down_times : (m x y : ℤ) → m ≤ℤ pos 0 → y ≤ℤ x → (m *ℤ x) ≤ℤ (m *ℤ y)
down_times m x y p h = rw (*ℤ_comm m x, *ℤ_comm m y) (mul_anti y x m h p)

end_times : (m : ℤ) (f : FormValue) (part : GridBox) (p : Pos) (b : ℤ) → FormHolds f part p b
    → (m *ℤ ((pos scale *ℤ b) +ℤ tilt f part p)) ≤ℤ (m *ℤ end_of m f)
end_times (pos n) f part p b h = up_times (pos n) ((pos scale *ℤ b) +ℤ tilt f part p) f.upper (omega (arith, ints)) h.up_to
end_times (negsuc n) f part p b h = down_times (negsuc n) ((pos scale *ℤ b) +ℤ tilt f part p) f.lower (omega (arith, ints)) h.from

-- ---- one form more

axis : (s m f u : ℤ) → (s +ℤ (m *ℤ f)) *ℤ u ≡ (s *ℤ u) +ℤ (m *ℤ (f *ℤ u))
axis s m f u = add_mul s (m *ℤ f) u ∙ ap (λ (z : ℤ). (s *ℤ u) +ℤ z) (mul_assoc m f u)

times_tilt : (m o x y z : ℤ) → m *ℤ (o +ℤ (x +ℤ y +ℤ z)) ≡ (m *ℤ o) +ℤ ((m *ℤ x) +ℤ (m *ℤ y) +ℤ (m *ℤ z))
times_tilt m o x y z =
    distrib m o (x +ℤ y +ℤ z) ∙ ap (λ (t : ℤ). (m *ℤ o) +ℤ t) (distrib m (x +ℤ y) z ∙ ap (λ (t : ℤ). t +ℤ (m *ℤ z)) (distrib m x y))

more_atoms : (to mo x y z x' y' z' mx my mz most me all t : ℤ) → (to +ℤ (x +ℤ y +ℤ z)) ≤ℤ most
    → all ≤ℤ me → all ≡ mo +ℤ (mx +ℤ my +ℤ mz) → t ≡ to +ℤ mo
    → x' ≡ x +ℤ mx → y' ≡ y +ℤ my → z' ≡ z +ℤ mz
    → (t +ℤ (x' +ℤ y' +ℤ z')) ≤ℤ (most +ℤ me)
more_atoms to mo x y z x' y' z' mx my mz most me all t h k e f g i j = omega (arith, ints)

pub more_holds : (m : ℤ) (f : FormValue) (s : SumValue) (part : GridBox) (p : Pos) (b : ℤ)
    → FormHolds f part p b → SumHolds s part p b → SumHolds (add_form m f s) part p b
more_holds m f s part p b h k =
    let o = pos scale *ℤ b in
    let u = p.x -ℤ middle part.x in
    let v = p.y -ℤ middle part.y in
    let w = p.z -ℤ middle part.z in
    record {
      holds = more_atoms (s.multipliers *ℤ o) (m *ℤ o) (s.x *ℤ u) (s.y *ℤ v) (s.z *ℤ w) _ _ _ (m *ℤ (f.x *ℤ u)) (m *ℤ (f.y *ℤ v)) (m *ℤ (f.z *ℤ w)) s.most (m *ℤ end_of m f) (m *ℤ (o +ℤ tilt f part p)) _
          k.holds (end_times m f part p b h) (times_tilt m o (f.x *ℤ u) (f.y *ℤ v) (f.z *ℤ w)) (add_mul s.multipliers m o)
          (axis s.x m f.x u) (axis s.y m f.y v) (axis s.z m f.z w);
    }

-- ---- all of them

pub all_hold : (forms : List FormValue) (part : GridBox) (p : Pos) (b : ℤ) (out : List ℕ)
    → ((i : ℕ) → i < length forms → All (λ (n : ℕ). n ≢ i) out → FormHolds (form_at forms i) part p b)
    → (terms : List Term) (s : SumValue) → All (IsUsable forms) terms
    → All (λ (t : Term). All (λ (n : ℕ). n ≢ t.place) out) terms
    → SumHolds s part p b → SumHolds (add_terms forms terms s) part p b
all_hold forms part p b out others [] s usable survives h = h
all_hold forms part p b out others (t ∷ terms) s usable survives h =
    let Left : Term → Type 0 = λ (t : Term). All (λ (n : ℕ). n ≢ t.place) out in
    all_hold forms part p b out others terms (add_form t.multiplier (form_at forms t.place) s)
    (All-tail (IsUsable forms) t terms usable) (All-tail Left t terms survives)
    (more_holds t.multiplier (form_at forms t.place) s part p b
    (others t.place (All-head (IsUsable forms) t terms usable).there (All-head Left t terms survives)) h)

pub none_hold : (part : GridBox) (p : Pos) (b : ℤ) → SumHolds empty_sum part p b
none_hold part p b = record {
  holds = nothing (pos scale *ℤ b) (p.x -ℤ middle part.x) (p.y -ℤ middle part.y) (p.z -ℤ middle part.z);
}
  where
    nothing : (o u v w : ℤ) → ((pos 0 *ℤ o) +ℤ ((pos 0 *ℤ u) +ℤ (pos 0 *ℤ v) +ℤ (pos 0 *ℤ w))) ≤ℤ pos 0
    nothing o u v w = omega (arith, ints)
