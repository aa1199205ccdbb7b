-- Each face of a tied answer is a face of the box, of a `Within` box of the tree, or a multiple of
-- the grain.
use Rattle.std.proofs.Common.{◌≡◌, ℕ, zero, suc, ◌-◌, List, [], ◌∷◌, Bool, true, false, ◌⊎◌, inl, inr, refl, Option, None, Some, sym, subst, ◌∙◌}
use Rattle.std.specs.Prelude.{ℤ}
use Rattle.grid_model.specs.Boxes.{Side, GridBox, side_at}
use Rattle.sat_model.specs.Relaxed.{IsRelaxedHull}
use Rattle.sat_model.specs.Trees.{TreeValue, Sat, All, Relaxed, Again, Within, TreeList, no_trees, tree, count_trees, LeafValue}
use Rattle.sat_model.specs.Contractors.{sides_of, IsRelaxedBox, IsMeet, meet_side, Contractor, Then, Repeats, LiesIn}
use Rattle.sat_model.specs.TightFaces.{end_of, face_at, IsFaceOf, IsTightAnswer}
use Rattle.sat_model.specs.Proposals.{IsTied, InTurn, AreTied, IsWithinFace, IsFaceWithinSome, HasFacesBy, HasFaces, IsProposal}
use Rattle.range_contractor.proofs.CountLemmas.{Member, hull_low, hull_high}
use Rattle.range_contractor.proofs.TreeLemmas.{meet_at, keeps}
use Rattle.grid_model.proofs.SpreadLemmas.{min_is_one as one_of_min, max_is_one as one_of_max}

-- which other numbers may be a face
abbrev Others : Type 1
Others = ℕ → Bool → ℤ → Type 0

-- a face of the box or a multiple of the grain, or one of the others
abbrev Comes : ℤ → Others → GridBox → ℕ → Bool → ℤ → Type 0
Comes grain W part axis low v = IsFaceOf grain (face_at axis low part) v ⊎ W axis low v

-- the same with more others
more_faces : (grain : ℤ) (W V : Others) (part : GridBox) (answer : Option GridBox)
    → ((axis : ℕ) (low : Bool) (v : ℤ) → W axis low v → V axis low v)
    → HasFacesBy grain W part answer → HasFacesBy grain V part answer
more_faces grain W V part None i h = tt
more_faces grain W V part (Some a) i h = λ axis low. elim (h axis low) [
  | inl f ↦ inl f
  | inr w ↦ inr (i axis low (face_at axis low a) w)
]

-- the faces of an answer to an answer
come_through : (grain : ℤ) (W : Others) (part m : GridBox) (axis : ℕ) (low : Bool) (v : ℤ)
    → Comes grain W part axis low (face_at axis low m) → Comes grain W m axis low v
    → Comes grain W part axis low v
come_through grain W part m axis low v h k = elim k [
  | inr w ↦ inr w
  | inl f ↦ elim f [
    | inr multiple ↦ inl (inr multiple)
    | inl same ↦ subst (λ (u : ℤ). Comes grain W part axis low u) (sym same) h
  ]
]

faces_then : (grain : ℤ) (W : Others) (part : GridBox) (middle answer : Option GridBox) (Next : Contractor)
    → HasFacesBy grain W part middle
    → ((m : GridBox) (a : Option GridBox) → Next m a → HasFacesBy grain W m a)
    → Then middle Next answer → HasFacesBy grain W part answer
faces_then grain W part None answer Next h next is = rw is tt
faces_then grain W part (Some m) None Next h next is = tt
faces_then grain W part (Some m) (Some a) Next h next is = λ axis low. come_through grain W part m axis low (face_at axis low a) (h axis low) (next m (Some a) is axis low)

faces_same : (grain : ℤ) (W : Others) (part : GridBox) (answer : Option GridBox)
    → answer ≡ Some part → HasFacesBy grain W part answer
faces_same grain W part answer is = rw is (λ axis low. inl (inl refl))

faces_repeated : (grain : ℤ) (W : Others) (n : ℕ) (Run : Contractor)
    → ((c : GridBox) (a : Option GridBox) → Run c a → HasFacesBy grain W c a)
    → (part : GridBox) (answer : Option GridBox) → Repeats n Run part answer
    → HasFacesBy grain W part answer
faces_repeated grain W zero Run run part answer is = faces_same grain W part answer is
faces_repeated grain W (suc n) Run run part answer (middle, ran, then) =
    faces_then grain W part middle answer (Repeats n Run) (run part middle ran) (λ m a rest. faces_repeated grain W n Run run m a rest) then

meet_face : (grain : ℤ) (part box : GridBox) (axis : ℕ) (low : Bool)
    → Comes grain (λ axis low v. v ≡ face_at axis low box) part axis low (end_of low (meet_side (side_at axis part) (side_at axis box)))
meet_face grain part box axis true = elim (one_of_max (side_at axis part).lo (side_at axis box).lo) [
  | inl e ↦ inl (inl e)
  | inr e ↦ inr e
]
meet_face grain part box axis false = elim (one_of_min (side_at axis part).hi (side_at axis box).hi) [
  | inl e ↦ inl (inl e)
  | inr e ↦ inr e
]

faces_meet : (grain : ℤ) (part box : GridBox) (answer : Option GridBox) → IsMeet box part answer
    → HasFacesBy grain (λ axis low v. v ≡ face_at axis low box) part answer
faces_meet grain part box None is = tt
faces_meet grain part box (Some a) (is, ordered) = λ axis low.
    subst (λ (s : Side). Comes grain (λ axis low v. v ≡ face_at axis low box) part axis low (end_of low s)) (sym (meet_at axis part box) ∙ rw is refl) (meet_face grain part box axis low)

-- ---- in enough sides

abbrev AllHaveFaces : ℤ → TreeList → GridBox → List (Option GridBox) → Type 0
AllHaveFaces grain no_trees part [] = Unit {0}
AllHaveFaces grain no_trees part (answer ∷ answers) = ⊥
AllHaveFaces grain (tree t more) part [] = ⊥
AllHaveFaces grain (tree t more) part (answer ∷ answers) = HasFaces grain t part answer × AllHaveFaces grain more part answers

abbrev span_end : Bool → ℤ × ℤ → ℤ
span_end true s = s.0
span_end false s = s.1

abbrev KidFace : ℤ → TreeList → GridBox → ℕ → Bool → ℤ → Type 0
KidFace grain kids part axis low v = Comes grain (λ axis low v. IsFaceWithinSome kids axis low v) part axis low v

side_end : (axis : ℕ) (low : Bool) (a : GridBox)
    → span_end low ((side_at axis a).lo, (side_at axis a).hi) ≡ face_at axis low a
side_end axis true a = refl
side_end axis false a = refl

side_face : (grain : ℤ) (axis : ℕ) (low : Bool) (kids : TreeList) (part : GridBox) (answers : List (Option GridBox)) (s : ℤ × ℤ)
    → AllHaveFaces grain kids part answers → Member s (sides_of axis answers)
    → KidFace grain kids part axis low (span_end low s)
side_face grain axis low no_trees part [] s h m = absurd m
side_face grain axis low no_trees part (answer ∷ answers) s h m = absurd h
side_face grain axis low (tree t more) part [] s h m = absurd h
side_face grain axis low (tree t more) part (None ∷ answers) s h m = elim (side_face grain axis low more part answers s h.1 m) [
  | inl f ↦ inl f
  | inr w ↦ inr (inr w)
]
side_face grain axis low (tree t more) part (Some a ∷ answers) s h m = elim m [
  | inl is ↦ subst (λ (v : ℤ). KidFace grain (tree t more) part axis low v) (sym (side_end axis low a) ∙ rw is refl)
      (elim (h.0 axis low) as (λ _. KidFace grain (tree t more) part axis low (face_at axis low a)) [
        | inl f ↦ inl f
        | inr w ↦ inr (inl w)
      ])
  | inr m ↦ elim (side_face grain axis low more part answers s h.1 m) [
    | inl f ↦ inl f
    | inr w ↦ inr (inr w)
  ]
]

hull_face : (grain : ℤ) (axis : ℕ) (low : Bool) (kids : TreeList) (part : GridBox) (answers : List (Option GridBox)) (need : ℕ) (s : Side)
    → AllHaveFaces grain kids part answers → IsRelaxedHull (sides_of axis answers) need s.lo s.hi
    → KidFace grain kids part axis low (end_of low s)
hull_face grain axis true kids part answers need s h hull =
    let (t, m, e, _) = hull_low (sides_of axis answers) need s.lo s.hi hull in
    subst (λ (v : ℤ). KidFace grain kids part axis true v) (sym e) (side_face grain axis true kids part answers t h m)
hull_face grain axis false kids part answers need s h hull =
    let (t, m, e, _) = hull_high (sides_of axis answers) need s.lo s.hi hull in
    subst (λ (v : ℤ). KidFace grain kids part axis false v) (sym e) (side_face grain axis false kids part answers t h m)

faces_relaxed : (grain : ℤ) (kids : TreeList) (part : GridBox) (answers : List (Option GridBox)) (need : ℕ) (answer : Option GridBox)
    → AllHaveFaces grain kids part answers → IsRelaxedBox answers need answer
    → HasFacesBy grain (λ axis low v. IsFaceWithinSome kids axis low v) part answer
faces_relaxed grain kids part answers need None h is = tt
faces_relaxed grain kids part answers need (Some a) h is = λ axis low. hull_face grain axis low kids part answers need (side_at axis a) h (is axis)

-- ---- every tree

faces_leaf : (grain : ℤ) (W : Others) (part a : GridBox)
    → ((axis : ℕ) (low : Bool) → IsFaceOf grain (face_at axis low part) (face_at axis low a))
    → HasFacesBy grain W part (Some a)
faces_leaf grain W part a h = λ axis low. inl (h axis low)

faces_of_leaf : (grain slack : ℤ) (leaf : LeafValue) (clock : Side) (part : GridBox) (answer : Option GridBox)
    → IsTightAnswer grain slack leaf clock part answer → HasFaces grain (Sat leaf) part answer
faces_of_leaf grain slack leaf clock part None is = tt
faces_of_leaf grain slack leaf clock part (Some a) is = faces_leaf grain (λ axis low v. IsWithinFace (Sat leaf) axis low v) part a is.1

mutual
  pub faces : (t : TreeValue) (grain slack : ℤ) (clock : Side) (part : GridBox) (answer : Option GridBox)
      → IsTied t grain slack clock part answer → HasFaces grain t part answer
  faces (Sat leaf) grain slack clock part answer is = faces_of_leaf grain slack leaf clock part answer is.1
  faces (All kids) grain slack clock part answer is = faces_in_turn kids grain slack clock part answer is
  faces (Relaxed q kids) grain slack clock part answer (answers, all, is) = faces_relaxed grain kids part answers (count_trees kids - q) answer (all_have_faces kids grain slack clock part answers all) is
  faces (Again rounds kid) grain slack clock part answer is =
      faces_repeated grain (λ axis low v. IsWithinFace kid axis low v) rounds (λ c a. IsTied kid grain slack clock c a) (λ c a r. faces kid grain slack clock c a r) part answer is
  faces (Within box) grain slack clock part answer is = faces_meet grain part box answer is

  faces_in_turn : (kids : TreeList) (grain slack : ℤ) (clock : Side) (part : GridBox) (answer : Option GridBox)
      → InTurn kids grain slack clock part answer
      → HasFacesBy grain (λ axis low v. IsFaceWithinSome kids axis low v) part answer
  faces_in_turn no_trees grain slack clock part answer is = faces_same grain (λ axis low v. IsFaceWithinSome no_trees axis low v) part answer is
  faces_in_turn (tree t more) grain slack clock part answer (middle, first, then) =
      faces_then grain (λ axis low v. IsFaceWithinSome (tree t more) axis low v) part middle answer (λ c a. InTurn more grain slack clock c a)
      (more_faces grain (λ axis low v. IsWithinFace t axis low v) (λ axis low v. IsFaceWithinSome (tree t more) axis low v) part middle (λ axis low v w. inl w) (faces t grain slack clock part middle first))
      (λ m a rest. more_faces grain (λ axis low v. IsFaceWithinSome more axis low v) (λ axis low v. IsFaceWithinSome (tree t more) axis low v) m a (λ axis low v w. inr w) (faces_in_turn more grain slack clock m a rest))
      then

  all_have_faces : (kids : TreeList) (grain slack : ℤ) (clock : Side) (part : GridBox) (answers : List (Option GridBox))
      → AreTied kids grain slack clock part answers → AllHaveFaces grain kids part answers
  all_have_faces no_trees grain slack clock part [] h = tt
  all_have_faces no_trees grain slack clock part (answer ∷ answers) h = absurd h
  all_have_faces (tree t more) grain slack clock part [] h = absurd h
  all_have_faces (tree t more) grain slack clock part (answer ∷ answers) h = (faces t grain slack clock part answer h.0, all_have_faces more grain slack clock part answers h.1)

-- ---- the two together

pub proposal : (t : TreeValue) (grain slack : ℤ) (clock : Side) (part : GridBox) (answer : Option GridBox)
    → LiesIn part part → IsTied t grain slack clock part answer
    → IsProposal grain slack t clock part answer
proposal t grain slack clock part answer lies is = record {
  keeps = keeps t grain slack clock part answer lies is;
  tied = is;
  faces = faces t grain slack clock part answer is;
}
