-- Contractors of boxes (Jaulin et al., 'Applied Interval Analysis', chapter 4; Chabert and Jaulin,
-- 2009): what an answer keeps, and contractors made of others.
use Rattle.std.specs.Prelude.{◌≡◌, ℕ, zero, suc, ℤ, ◌≤ℤ◌, List, [], ◌∷◌, Option, None, Some, true}
use Rattle.std.specs.Int.{int_min, int_max}
use Rattle.grid_model.specs.declared.boxes.Pos.{Pos}
use Rattle.grid_model.specs.Boxes.{Side, GridBox, box_holds, side_at, IsIn}
use Rattle.sat_model.specs.Relaxed.{IsRelaxedEmpty, IsRelaxedHull}

-- which answers may be given for a box: a box, or none
abbrev pub Contractor : Type 1
Contractor = GridBox → Option GridBox → Type 0

-- ---- what an answer keeps

-- p is in the box, and allowed with some offset of the clock span
pub record IsAllowedIn (Allowed : Pos → ℤ → Type 0) (part : GridBox) (clock : Side) (p : Pos)
    : Type 0 where
  pub inside : box_holds part p ≡ true
  pub offset : ℤ
  pub in_clock : IsIn clock offset
  pub allowed : Allowed p offset

-- the first side lies in the second and isn't empty
pub record SideLiesIn (a s : Side) : Type 0 where
  pub low : s.lo ≤ℤ a.lo
  pub ordered : a.lo ≤ℤ a.hi
  pub high : a.hi ≤ℤ s.hi

abbrev pub LiesIn : GridBox → GridBox → Type 0
LiesIn a part = (axis : ℕ) → SideLiesIn (side_at axis a) (side_at axis part)

-- the answer lies in the box and holds what is allowed there; none comes only where nothing is
abbrev pub KeepsAllowed : (Pos → ℤ → Type 0) → Side → Contractor
KeepsAllowed Allowed clock part None = (p : Pos) → IsAllowedIn Allowed part clock p → ⊥
KeepsAllowed Allowed clock part (Some a) =
    LiesIn a part × ((p : Pos) → IsAllowedIn Allowed part clock p → box_holds a p ≡ true)

-- ---- the meet with a box

abbrev pub meet_side : Side → Side → Side
meet_side s t = record { lo = int_max s.lo t.lo; hi = int_min s.hi t.hi }

abbrev pub meet_box : GridBox → GridBox → GridBox
meet_box c d = record { x = meet_side c.x d.x; y = meet_side c.y d.y; z = meet_side c.z d.z }

-- what the two boxes share, and none where that is nothing
abbrev pub IsMeet : GridBox → Contractor
IsMeet d c None = (p : Pos) → box_holds c p ≡ true → box_holds d p ≡ true → ⊥
IsMeet d c (Some a) = (a ≡ meet_box c d) × LiesIn a a

-- ---- the q-relaxed hull of answers

-- the sides on an axis of the answers that aren't none
abbrev pub sides_of : ℕ → List (Option GridBox) → List (ℤ × ℤ)
sides_of axis [] = []
sides_of axis (None ∷ answers) = sides_of axis answers
sides_of axis (Some a ∷ answers) =
    ((side_at axis a).lo, (side_at axis a).hi) ∷ sides_of axis answers

-- on each axis the hull of the numbers in enough sides; none where an axis has none
abbrev pub IsRelaxedBox : List (Option GridBox) → ℕ → Option GridBox → Type 0
IsRelaxedBox answers need None = (axis : ℕ) × IsRelaxedEmpty (sides_of axis answers) need
IsRelaxedBox answers need (Some a) =
    (axis : ℕ) → IsRelaxedHull (sides_of axis answers) need (side_at axis a).lo (side_at axis a).hi

-- ---- one after the other

-- the next contractor gets the answer of the one before; none ends with none
abbrev pub Then : Option GridBox → Contractor → Option GridBox → Type 0
Then None Next answer = answer ≡ None
Then (Some a) Next answer = Next a answer

-- the contractor runs so many times
abbrev pub Repeats : ℕ → Contractor → Contractor
Repeats zero Run part answer = answer ≡ Some part
Repeats (suc n) Run part answer =
    (middle : Option GridBox) × Run part middle × Then middle (Repeats n Run) answer
