-- Cuts at the faces of a box, face by face.
use Rattle.std.proofs.Common.{◌≡◌, ℕ, suc, zero, ◌+◌, ◌<◌, ◌≤◌, arith, List, [], ◌∷◌, ◌++◌, drop, refl, sym, subst, append_assoc, ◌∙◌, ap}
use Rattle.std.proofs.lemmas.List.{append-nil, drop_all}
use Rattle.grid_model.specs.Boxes.{GridBox}
use Rattle.sat_model.specs.Fold.{ShownStep}
use Rattle.box_contraction.specs.Cuts.{all_faces, AreFacesDone}
use Rattle.box_contraction.specs.Adding.{AddsCuts}

pub record FacesUnderway (Done : ℕ → GridBox → List ShownStep → GridBox → Type 0) (face : ℕ) (start : GridBox) (before : List ShownStep) (part : GridBox) (now : List ShownStep) : Type 0 where
  pub cuts : List ShownStep
  pub goes_on : (more : List ShownStep) (left : GridBox)
      → AreFacesDone Done (drop face all_faces) part more left
      → AreFacesDone Done all_faces start (cuts ++ more) left
  pub added : now ≡ before ++ cuts

next_face : (face : ℕ) → face < 6 → drop face all_faces ≡ face ∷ drop (face + 1) all_faces
next_face zero h = refl
next_face (suc zero) h = refl
next_face (suc (suc zero)) h = refl
next_face (suc (suc (suc zero))) h = refl
next_face (suc (suc (suc (suc zero)))) h = refl
next_face (suc (suc (suc (suc (suc zero))))) h = refl
next_face (suc (suc (suc (suc (suc (suc n)))))) h = absurd (omega arith)

no_more_faces : (face : ℕ) → 6 ≤ face → drop face all_faces ≡ []
no_more_faces zero h = absurd (omega arith)
no_more_faces (suc zero) h = absurd (omega arith)
no_more_faces (suc (suc zero)) h = absurd (omega arith)
no_more_faces (suc (suc (suc zero))) h = absurd (omega arith)
no_more_faces (suc (suc (suc (suc zero)))) h = absurd (omega arith)
no_more_faces (suc (suc (suc (suc (suc zero))))) h = absurd (omega arith)
no_more_faces (suc (suc (suc (suc (suc (suc n)))))) h = drop_all n [] (omega arith)

pub one_face : (Done : ℕ → GridBox → List ShownStep → GridBox → Type 0) (face : ℕ) (start : GridBox) (before : List ShownStep) (part left : GridBox) (now last : List ShownStep)
    → face < 6 → FacesUnderway Done face start before part now → AddsCuts (Done face part) now left last
    → FacesUnderway Done (face + 1) start before left last
one_face Done face start before part left now last h u c = record {
  cuts = u.cuts ++ c.cuts;
  goes_on = λ more end rest. subst (λ (l : List ShownStep). AreFacesDone Done all_faces start l end) (sym (append_assoc u.cuts c.cuts more))
      (u.goes_on (c.cuts ++ more) end (subst (λ (l : List ℕ). AreFacesDone Done l part (c.cuts ++ more) end) (sym (next_face face h)) (c.cuts, left, more, c.are, rest, refl)));
  added = c.added ∙ ap (λ (l : List ShownStep). l ++ c.cuts) u.added ∙ append_assoc before u.cuts c.cuts;
}

pub all_cut : (Done : ℕ → GridBox → List ShownStep → GridBox → Type 0) (face : ℕ) (start : GridBox) (before : List ShownStep) (part : GridBox) (now : List ShownStep)
    → 6 ≤ face → FacesUnderway Done face start before part now
    → AddsCuts (AreFacesDone Done all_faces start) before part now
all_cut Done face start before part now h u = record {
  cuts = u.cuts;
  are = subst (λ (l : List ShownStep). AreFacesDone Done all_faces start l part) (append-nil u.cuts)
      (u.goes_on [] part (subst (λ (l : List ℕ). AreFacesDone Done l part [] part) (sym (no_more_faces face h)) (refl, refl)));
  added = u.added;
}
