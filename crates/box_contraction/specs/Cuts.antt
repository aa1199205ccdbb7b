-- Cuts of a box: slabs at its faces in which no point fits are taken off before it is split. A face
-- may be moved to where a contractor proposes it (Chabert and Jaulin, 'Contractor programming',
-- 2009), or a slab is tried and refuted (Lhomme, 'Consistency techniques for numeric CSPs', 1993).
use Rattle.std.specs.List.{AllByRecursion}
use Rattle.std.specs.Prelude.{◌≡◌, ◌≢◌, ℕ, ◌+◌, ◌/◌, ◌≤◌, ◌⊎◌, ℤ, pos, ◌+ℤ◌, ◌-ℤ◌}
use Rattle.std.specs.Prelude.{List, [], ◌∷◌, ◌++◌, length, Option, None, Some, Bool, true, false}
use Rattle.sat_model.specs.declared.steps.Step.TheVariants.{Cut}
use Rattle.grid_model.specs.Boxes.{Side, GridBox, side_at}
use Rattle.sat_model.specs.BoxTests.{BoxTest, IsEmpty}
use Rattle.sat_model.specs.Fold.{ShownStep, axis_of, is_low, IsProperCut, left_by_cut, slab_of_cut}
use Rattle.grid_model.specs.Lengths.{side_length}
use Rattle.sat_model.specs.Waiting.{joined}
use Rattle.sat_model.specs.TightFaces.{face_at}

-- ---- bounds

-- to where each face of a box may be moved
abbrev pub Bounds : Type 0
Bounds = ℕ → GridBox → ℤ

-- to the faces of a proposal
abbrev pub proposed : GridBox → Bounds
proposed a face part = face_at (axis_of face) (is_low face) a

-- an eighth of the grid points of a side, rounded down
abbrev pub eighth_of : Side → ℕ
eighth_of s = (side_length s + 1) / 8

-- past so many points at a low or at a high face
abbrev pub past : Bool → Side → ℕ → ℤ
past true s points = s.lo +ℤ pos points
past false s points = s.hi -ℤ pos points

abbrev pub past_eighth : Bool → Side → ℤ
past_eighth low s = past low s (eighth_of s)

abbrev pub eighths : Bounds
eighths face part = past_eighth (is_low face) (side_at (axis_of face) part)

-- the faces: low and high of x, of y and of z
abbrev pub all_faces : List ℕ
all_faces = 0 ∷ 1 ∷ 2 ∷ 3 ∷ 4 ∷ 5 ∷ []

abbrev pub AreFaces : List ℕ → Type 0
AreFaces faces = AllByRecursion (λ (face : ℕ). face ≤ 5) faces

-- ---- the cut of a face

-- the bound lies inside the face, and the slab beyond it is shown empty
abbrev pub MayCut : BoxTest → ℕ → ℤ → GridBox → Type 0
MayCut test face bound part =
    IsProperCut face bound part × IsEmpty test (slab_of_cut face bound part)

-- a cut of the box of a number, with its slab
abbrev pub cut_shown : ℕ → ℕ → ℤ → GridBox → ShownStep
cut_shown id face bound part =
    record { step = Cut id face bound; part = slab_of_cut face bound part }

module _ (test : BoxTest) (id : ℕ) where
  -- a face is cut at a bound exactly where it may be
  abbrev pub IsFaceCut : ℕ → ℤ → GridBox → List ShownStep → GridBox → Type 0
  IsFaceCut face bound part steps left =
      (MayCut test face bound part × (steps ≡ cut_shown id face bound part ∷ [])
      × (left ≡ left_by_cut face bound part))
      ⊎ ((MayCut test face bound part → ⊥) × (steps ≡ []) × (left ≡ part))

-- ---- the cuts of all faces

-- what is done at a face of a box: its cuts, and what they leave
module _ (Done : ℕ → GridBox → List ShownStep → GridBox → Type 0) where
  -- one face after the other, each of the box as cut so far
  abbrev pub AreFacesDone : List ℕ → GridBox → List ShownStep → GridBox → Type 0
  AreFacesDone [] part steps left = (steps ≡ []) × (left ≡ part)
  AreFacesDone (face ∷ faces) part steps left =
      (own : List ShownStep) × (middle : GridBox) × (more : List ShownStep)
      × Done face part own middle
      × AreFacesDone faces middle more left
      × (steps ≡ own ++ more)

  -- rounds over all faces, of which the last one alone makes no cut
  abbrev pub AreRounds : GridBox → List (List ShownStep) → GridBox → Type 0
  AreRounds part [] left = ⊥
  AreRounds part (round ∷ []) left = AreFacesDone all_faces part round left × (round ≡ [])
  AreRounds part (round ∷ second ∷ more) left =
      (middle : GridBox) × AreFacesDone all_faces part round middle
      × (round ≢ []) × AreRounds middle (second ∷ more) left

  -- the cuts of such rounds
  abbrev pub AreRoundCuts : GridBox → List ShownStep → GridBox → Type 0
  AreRoundCuts part steps left =
      (rounds : List (List ShownStep)) × AreRounds part rounds left × (steps ≡ joined rounds)

module _ (test : BoxTest) (id : ℕ) where
  -- each face is cut at its bound exactly where it may be
  abbrev pub IsCutTo : Bounds → ℕ → GridBox → List ShownStep → GridBox → Type 0
  IsCutTo bounds face part = IsFaceCut test id face (bounds face part) part

  abbrev pub AreFacesCut : Bounds → List ℕ → GridBox → List ShownStep → GridBox → Type 0
  AreFacesCut bounds = AreFacesDone (IsCutTo bounds)

  -- the cuts by an answer of a contractor; none proposes no cut
  abbrev pub AreProposalCuts : Option GridBox → GridBox → List ShownStep → GridBox → Type 0
  AreProposalCuts None part steps left = (steps ≡ []) × (left ≡ part)
  AreProposalCuts (Some a) part steps left =
      AreFacesCut (proposed a) all_faces part steps left

  -- rounds of eighths
  abbrev pub AreEighthCuts : GridBox → List ShownStep → GridBox → Type 0
  AreEighthCuts = AreRoundCuts (IsCutTo eighths)

-- ---- some cuts

module _ (test : BoxTest) (id : ℕ) where
  -- a face is cut at some bound, or isn't
  abbrev pub IsSomeCut : ℕ → GridBox → List ShownStep → GridBox → Type 0
  IsSomeCut face part steps left =
      ((bound : ℤ) × MayCut test face bound part × (steps ≡ cut_shown id face bound part ∷ [])
      × (left ≡ left_by_cut face bound part))
      ⊎ ((steps ≡ []) × (left ≡ part))

  -- cuts at some faces, at most 48 of them, each of the box as cut so far
  pub record AreSomeCuts (part : GridBox) (steps : List ShownStep) (left : GridBox) : Type 0 where
    pub faces : List ℕ
    pub named : AreFaces faces
    pub few : length faces ≤ 48
    pub are : AreFacesDone IsSomeCut faces part steps left

-- at none of these faces an eighth may be cut off
abbrev pub NoneMayCut : BoxTest → List ℕ → GridBox → Type 0
NoneMayCut test [] part = Unit {0}
NoneMayCut test (face ∷ faces) part =
    (MayCut test face (eighths face part) part → ⊥) × NoneMayCut test faces part
