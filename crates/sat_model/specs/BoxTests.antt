-- What the boxes of an epoch are tested by: an inclusion test (Jaulin, Kieffer, Didrit and Walter,
-- Applied Interval Analysis, 2001). It shows a box empty, inner, or neither.
use Rattle.std.specs.Prelude.{ℕ, ◌-◌, ◌⊎◌, ℤ, ◌≤ℤ◌, List, length, Bool, true, false}
use Rattle.sat_model.specs.declared.rules.Rules.{Rules}
use Rattle.sat_model.specs.declared.rows.Row.{Row}
use Rattle.grid_model.specs.Boxes.{GridBox}
use Rattle.sat_model.specs.ClockSpans.{clock_spans, IsShownEmpty, IsShownInner, NoneIsShownInner}
use Rattle.sat_model.specs.ClockSpans.{IsLeastShownInner, IsClockHull}
use Rattle.sat_model.specs.Logs.{Block, rows_of}
use Rattle.sat_model.specs.Pairs.{IsShownEmptyByPairs}
use Rattle.sat_model.specs.Relaxed.{LiesInRelaxed}

-- the rows, how many of them may be inconsistent, and whether pairs of them show boxes empty too
pub record BoxTest : Type 0 where
  pub rows : List Row
  pub q : ℕ
  pub pairs : Bool

abbrev pub test_of : Rules → List Row → BoxTest
test_of rules rows = record { rows = rows; q = rules.outliers; pairs = rules.pairs }

-- the test by a block's own rows
abbrev pub test_in : Rules → Block → BoxTest
test_in rules block = test_of rules (rows_of block.sats)

-- clock spans show the box empty or, where pairs are asked too, those do
abbrev pub IsEmptyBy : Bool → List Row → GridBox → ℕ → Type 0
IsEmptyBy false rows part q = IsShownEmpty rows part q
IsEmptyBy true rows part q = IsShownEmpty rows part q ⊎ IsShownEmptyByPairs rows part q

-- the box is shown empty: no point of it fits
abbrev pub IsEmpty : BoxTest → GridBox → Type 0
IsEmpty test part = IsEmptyBy test.pairs test.rows part test.q

-- it is shown inner at offset b: each point of it fits at b
abbrev pub IsInner : BoxTest → GridBox → ℤ → Type 0
IsInner test part b = IsShownInner test.rows part test.q b

-- at no offset it is
abbrev pub NoneIsInner : BoxTest → GridBox → Type 0
NoneIsInner test part = NoneIsShownInner test.rows part test.q

-- b is the least offset at which it is
abbrev pub IsLeastInner : BoxTest → GridBox → ℤ → Type 0
IsLeastInner test part b = IsLeastShownInner test.rows part test.q b

-- lo and hi are the ends of the hull of the offsets that clock spans leave, with pairs or without
abbrev pub IsHull : BoxTest → GridBox → ℤ → ℤ → Type 0
IsHull test part lo hi = IsClockHull test.rows part test.q lo hi

-- each of these offsets lies from lo to hi
abbrev pub HoldsHull : BoxTest → GridBox → ℤ → ℤ → Type 0
HoldsHull test part lo hi =
    (b : ℤ) → LiesInRelaxed (clock_spans part test.rows) (length test.rows - test.q) b
    → (lo ≤ℤ b) × (b ≤ℤ hi)
