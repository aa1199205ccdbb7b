-- The q-relaxed intersection of spans (Drevelle and Bonnifait, 2011): the numbers that lie in
-- enough of them. A span is a pair of ends; one whose first end is greater holds no number.
use Rattle.std.specs.Prelude.{ℕ, ◌≤◌, ℤ, ◌≤ℤ◌, Bool, ◌&&◌, List, count_by}
use Rattle.grid_model.specs.declared.spans.Span.{Span}
use lib.Signed.{le_z}

abbrev pub ends : Span → ℤ × ℤ
ends s = (s.lo, s.hi)

-- whether b lies in the span
abbrev pub holds : ℤ × ℤ → ℤ → Bool
holds s b = le_z s.0 b && le_z b s.1

-- b lies in at least so many of the spans, each counted as often as it is listed
abbrev pub LiesInRelaxed : List (ℤ × ℤ) → ℕ → ℤ → Type 0
LiesInRelaxed spans need b = need ≤ count_by (λ s. holds s b) spans

-- no number does
abbrev pub IsRelaxedEmpty : List (ℤ × ℤ) → ℕ → Type 0
IsRelaxedEmpty spans need = (b : ℤ) → LiesInRelaxed spans need b → ⊥

-- lo and hi are the least and the greatest such number
pub record IsRelaxedHull (spans : List (ℤ × ℤ)) (need : ℕ) (lo hi : ℤ) : Type 0 where
  pub lo_lies : LiesInRelaxed spans need lo
  pub hi_lies : LiesInRelaxed spans need hi
  pub within : (b : ℤ) → LiesInRelaxed spans need b → (lo ≤ℤ b) × (b ≤ℤ hi)
