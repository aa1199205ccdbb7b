-- Hulls of the numbers that lie in enough sides, axis by axis.
use Rattle.std.specs.Prelude.{ℕ, ◌⊎◌, ℤ, ◌≤ℤ◌, List, [], ◌∷◌, Option, None, Some}
use Rattle.grid_model.specs.Boxes.{Side, GridBox}
use Rattle.sat_model.specs.Relaxed.{IsRelaxedEmpty, IsRelaxedHull}

-- each span lies in the side
abbrev pub AreInside : Side → List (ℤ × ℤ) → Type 0
AreInside s [] = Unit {0}
AreInside s (t ∷ spans) = (s.lo ≤ℤ t.0) × (t.1 ≤ℤ s.hi) × AreInside s spans

-- the box of the hulls on three axes; none where one has none
abbrev pub IsBoxOfHulls : List (ℤ × ℤ) → List (ℤ × ℤ) → List (ℤ × ℤ) → ℕ → Option GridBox → Type 0
IsBoxOfHulls x y z need None =
    IsRelaxedEmpty x need ⊎ (IsRelaxedEmpty y need ⊎ IsRelaxedEmpty z need)
IsBoxOfHulls x y z need (Some a) =
    IsRelaxedHull x need a.x.lo a.x.hi
    × IsRelaxedHull y need a.y.lo a.y.hi
    × IsRelaxedHull z need a.z.lo a.z.hi
