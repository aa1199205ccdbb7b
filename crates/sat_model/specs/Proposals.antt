-- A proposal: an answer that a tree of contractors may give for a box and a clock span. It keeps
-- what the tree allows, and the kind of each tree ties it from the other side.
use Rattle.std.specs.Prelude.{◌≡◌, ℕ, ◌-◌, ◌⊎◌, ℤ, List, [], ◌∷◌, Option, None, Some, Bool}
use Rattle.grid_model.specs.Boxes.{Side, GridBox}
use Rattle.sat_model.specs.Contractors.{Contractor, KeepsAllowed, IsMeet, IsRelaxedBox, Then}
use Rattle.sat_model.specs.Contractors.{Repeats}
use Rattle.sat_model.specs.TightFaces.{IsTightAnswer, face_at, IsFaceOf}
use Rattle.sat_model.specs.Trees.{TreeValue, Sat, All, Relaxed, Again, Within, TreeList, no_trees}
use Rattle.sat_model.specs.Trees.{tree, Allows, count_trees}

abbrev pub Keeps : TreeValue → Side → Contractor
Keeps t clock part answer = KeepsAllowed (Allows t) clock part answer

-- ---- ties by the kind of tree

-- `InTurn`: the trees run one after the other. `AreTied`: one answer of each tree to the same box
abbrev mutual
  pub IsTied : TreeValue → ℤ → ℤ → Side → Contractor
  IsTied (Sat leaf) grain slack clock part answer =
      Keeps (Sat leaf) clock part answer × IsTightAnswer grain slack leaf clock part answer
  IsTied (All kids) grain slack clock part answer = InTurn kids grain slack clock part answer
  IsTied (Relaxed q kids) grain slack clock part answer =
      (answers : List (Option GridBox)) × AreTied kids grain slack clock part answers
      × IsRelaxedBox answers (count_trees kids - q) answer
  IsTied (Again rounds kid) grain slack clock part answer =
      Repeats rounds (λ c a. IsTied kid grain slack clock c a) part answer
  IsTied (Within box) grain slack clock part answer = IsMeet box part answer

  pub InTurn : TreeList → ℤ → ℤ → Side → Contractor
  InTurn no_trees grain slack clock part answer = answer ≡ Some part
  InTurn (tree t more) grain slack clock part answer =
      (middle : Option GridBox) × IsTied t grain slack clock part middle
      × Then middle (λ c a. InTurn more grain slack clock c a) answer

  pub AreTied : TreeList → ℤ → ℤ → Side → GridBox → List (Option GridBox) → Type 0
  AreTied no_trees grain slack clock part [] = Unit {0}
  AreTied no_trees grain slack clock part (answer ∷ answers) = ⊥
  AreTied (tree t more) grain slack clock part [] = ⊥
  AreTied (tree t more) grain slack clock part (answer ∷ answers) =
      IsTied t grain slack clock part answer × AreTied more grain slack clock part answers

-- ---- faces

-- v is that face of a `Within` box of the tree
abbrev mutual
  pub IsWithinFace : TreeValue → ℕ → Bool → ℤ → Type 0
  IsWithinFace (Sat leaf) axis low v = ⊥
  IsWithinFace (All kids) axis low v = IsFaceWithinSome kids axis low v
  IsWithinFace (Relaxed q kids) axis low v = IsFaceWithinSome kids axis low v
  IsWithinFace (Again rounds kid) axis low v = IsWithinFace kid axis low v
  IsWithinFace (Within box) axis low v = v ≡ face_at axis low box

  pub IsFaceWithinSome : TreeList → ℕ → Bool → ℤ → Type 0
  IsFaceWithinSome no_trees axis low v = ⊥
  IsFaceWithinSome (tree t more) axis low v =
      IsWithinFace t axis low v ⊎ IsFaceWithinSome more axis low v

-- each face of the answer is that of the box, a multiple of the grain, or one of the others
abbrev pub HasFacesBy : ℤ → (ℕ → Bool → ℤ → Type 0) → Contractor
HasFacesBy grain Others part None = Unit {0}
HasFacesBy grain Others part (Some a) =
    (axis : ℕ) (low : Bool)
    → IsFaceOf grain (face_at axis low part) (face_at axis low a)
    ⊎ Others axis low (face_at axis low a)

-- the others are the faces of the tree's `Within` boxes
abbrev pub HasFaces : ℤ → TreeValue → Contractor
HasFaces grain t part answer =
    HasFacesBy grain (λ axis low v. IsWithinFace t axis low v) part answer

-- ---- the two together

pub record IsProposal (grain slack : ℤ) (t : TreeValue) (clock : Side) (part : GridBox)
    (answer : Option GridBox) : Type 0 where
  pub keeps : Keeps t clock part answer
  pub tied : IsTied t grain slack clock part answer
  pub faces : HasFaces grain t part answer
