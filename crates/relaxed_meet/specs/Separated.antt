-- Ends of spans on either side of a number, and what they show of numbers between.
use Rattle.std.specs.Prelude.{ℕ, ◌-◌, ◌≤◌, ℤ, ◌≤ℤ◌, ◌<ℤ◌, List, length, count_by}
use lib.Signed.{le_z, lt_z}
use Rattle.sat_model.specs.declared.rows.Row.{Row}
use Rattle.grid_model.specs.Boxes.{GridBox}
use Rattle.sat_model.specs.ClockSpans.{clock_spans}
use Rattle.sat_model.specs.Relaxed.{LiesInRelaxed}

-- how many low ends are above s
abbrev pub lows_above : ℤ → List (ℤ × ℤ) → ℕ
lows_above s spans = count_by (λ t. lt_z s t.0) spans

-- how many high ends are at most s
abbrev pub highs_to : ℤ → List (ℤ × ℤ) → ℕ
highs_to s spans = count_by (λ t. le_z t.1 s) spans

-- Let `below` clock spans end at or below low, and `above` of them begin above high. Then no b with
-- low < b <= high lies in those of all but q rows.
abbrev pub NoneLiesBetween : List Row → GridBox → (q below above : ℕ) → Type 0
NoneLiesBetween rows part q below above =
    (low high b : ℤ) → below ≤ highs_to low (clock_spans part rows)
    → above ≤ lows_above high (clock_spans part rows) → low <ℤ b → b ≤ℤ high
    → LiesInRelaxed (clock_spans part rows) (length rows - q) b → ⊥
