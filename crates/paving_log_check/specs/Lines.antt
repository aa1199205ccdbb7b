-- A log's satellite lines against the lines of the epoch's satellites that the files give.
use Rattle.std.specs.Prelude.{◌≡◌, ℕ, ◌<◌, ◌⊎◌, ◌≤ℤ◌, Bool, true, false, List, [], ◌∷◌, length}
use Rattle.std.specs.Prelude.{Some, slice_get}
use Rattle.grid_model.specs.Boxes.{Side, span_side}
use Rattle.sat_model.specs.Fitting.{low_bounds, high_bounds}
use Rattle.sat_model.specs.Relaxed.{ends}
use Rattle.sat_model.specs.Verdicts.{IsRepeat}
use Rattle.sat_model.specs.declared.rows.Row.{Row}
use Rattle.sat_model.specs.declared.rows.SatEntry.{SatEntry}
use Rattle.sat_model.specs.declared.rows.SatEntry.TheVariants as entry
use Rattle.gnss_model.specs.Delays.{is_plain}
use Rattle.gnss_model.specs.declared.delays.Delays.{Delays}
use Rattle.sat_rows.specs.OwnRows.{HasBounds}
use Rattle.sat_rows.specs.declared.lines.SatLine.{SatLine}
use Rattle.sat_rows.specs.declared.lines.SatLine.TheVariants.{Usable, Skipped}
use Rattle.paving_log_check.specs.Answers.{ShowsNoSpans}
use Rattle.paving_log_check.specs.declared.verdict.Fault.{Fault}

-- ---- which lines a block is to have

-- those of the satellites that aren't used
abbrev pub skipped_in : List SatLine → List SatLine
skipped_in [] = []
skipped_in (Usable row ∷ more) = skipped_in more
skipped_in (Skipped sat skip ∷ more) = Skipped sat skip ∷ skipped_in more

-- these alone in a block of few satellites, and else all
abbrev pub expected : Bool → List SatLine → List SatLine
expected true own = skipped_in own
expected false own = own

-- ---- which line is the expected one

-- the same word, satellite and skip
abbrev pub IsSameLine : SatEntry → SatLine → Type 0
IsSameLine (entry.Row row) (Usable ours) = row.sat ≡ ours.sat
IsSameLine (entry.Row row) (Skipped sat skip) = ⊥
IsSameLine (entry.Skipped sat skip) (Usable ours) = ⊥
IsSameLine (entry.Skipped sat skip) (Skipped other why) = (sat ≡ other) × (skip ≡ why)

-- satellite line k is the expected one, and names no satellite of one before it
pub record IsExpected (sats : List SatEntry) (lines : List SatLine) (k : ℕ) : Type 0 where
  pub theirs : SatEntry
  pub theirs_at : slice_get sats k ≡ Some theirs
  pub ours : SatLine
  pub ours_at : slice_get lines k ≡ Some ours
  pub same : IsSameLine theirs ours
  pub once : IsRepeat sats k → ⊥

-- it isn't
abbrev pub IsOther : List SatEntry → List SatLine → ℕ → Fault → Type 0
IsOther sats lines k fault =
    (IsExpected sats lines k → ⊥) × (fault.number ≡ 52) × ShowsNoSpans fault

-- ---- two rows

-- a side holds another
pub record HoldsSide (theirs ours : Side) : Type 0 where
  pub lo : theirs.lo ≤ℤ ours.lo
  pub hi : ours.hi ≤ℤ theirs.hi

-- those of the low and of the high ends of the error are compared where a delay is mapped
abbrev pub bounds_unless : Bool → Row → Row → List (Side × Side)
bounds_unless true row ours = []
bounds_unless false row ours =
    (low_bounds row, low_bounds ours) ∷ (high_bounds row, high_bounds ours) ∷ []

abbrev pub bounds_compared : Delays → Row → Row → List (Side × Side)
bounds_compared delays row ours = bounds_unless (is_plain delays) row ours

-- what is compared, in this order: x, y, z and the range, and then the ends of the error
abbrev pub compared : Delays → Row → Row → List (Side × Side)
compared delays row ours =
    (span_side row.x, span_side ours.x) ∷ (span_side row.y, span_side ours.y)
    ∷ (span_side row.z, span_side ours.z) ∷ (span_side row.range, span_side ours.range)
    ∷ bounds_compared delays row ours

abbrev pub HoldEach : List (Side × Side) → Type 0
HoldEach [] = Unit {0}
HoldEach (pair ∷ more) = HoldsSide pair.0 pair.1 × HoldEach more

-- the first side that doesn't hold the other, and that other
abbrev pub IsFirstNarrow : List (Side × Side) → Side → Side → Type 0
IsFirstNarrow [] theirs ours = ⊥
IsFirstNarrow (pair ∷ more) theirs ours =
    ((HoldsSide pair.0 pair.1 → ⊥) × (theirs ≡ pair.0) × (ours ≡ pair.1))
    ⊎ (HoldsSide pair.0 pair.1 × IsFirstNarrow more theirs ours)

-- where no delay is mapped, the ends of the error are the declared ones alone, as they are in the
-- own row
abbrev pub HasBoundIf : Bool → Row → Row → Type 0
HasBoundIf true row ours = HasBounds row (ends ours.err)
HasBoundIf false row ours = Unit {0}

abbrev pub HasBound : Delays → Row → Row → Type 0
HasBound delays row ours = HasBoundIf (is_plain delays) row ours

-- by the delays that are mapped
module _ (delays : Delays) where
  -- the row's spans hold those of the own row
  abbrev pub HoldsOwn : Row → Row → Type 0
  HoldsOwn row ours = HoldEach (compared delays row ours)

  -- no test of the rows fails, where both lines have one
  abbrev pub RowPasses : SatEntry → SatLine → Type 0
  RowPasses (entry.Row row) (Usable ours) = HoldsOwn row ours × HasBound delays row ours
  RowPasses (entry.Row row) (Skipped sat skip) = Unit {0}
  RowPasses (entry.Skipped sat skip) (Usable ours) = Unit {0}
  RowPasses (entry.Skipped sat skip) (Skipped other why) = Unit {0}

  -- the row is too narrow, and both spans are shown; or else its error isn't the declared one
  abbrev pub RowFails : SatEntry → SatLine → Fault → Type 0
  RowFails (entry.Row row) (Usable ours) fault =
      (IsFirstNarrow (compared delays row ours) (span_side fault.theirs) (span_side fault.ours)
      × (fault.number ≡ 53))
      ⊎ (HoldsOwn row ours × (HasBound delays row ours → ⊥) × (fault.number ≡ 54)
      × ShowsNoSpans fault)
  RowFails (entry.Row row) (Skipped sat skip) fault = ⊥
  RowFails (entry.Skipped sat skip) (Usable ours) fault = ⊥
  RowFails (entry.Skipped sat skip) (Skipped other why) fault = ⊥

  -- ---- one line

  -- no test of satellite line k fails
  pub record LinePasses (sats : List SatEntry) (lines : List SatLine) (k : ℕ) : Type 0 where
    pub is_expected : IsExpected sats lines k
    pub passes : RowPasses is_expected.theirs is_expected.ours

  -- it is the expected one, but its row fails
  pub record HasOtherRow (sats : List SatEntry) (lines : List SatLine) (k : ℕ)
      (fault : Fault) : Type 0 where
    pub is_expected : IsExpected sats lines k
    pub fails : RowFails is_expected.theirs is_expected.ours fault

  -- the least test of satellite line k that fails
  abbrev pub LineFails : List SatEntry → List SatLine → ℕ → Fault → Type 0
  LineFails sats lines k fault = IsOther sats lines k fault ⊎ HasOtherRow sats lines k fault

  -- ---- all lines

  abbrev pub SatsPass : List SatEntry → List SatLine → Type 0
  SatsPass sats lines = (k : ℕ) → k < length sats → LinePasses sats lines k

  -- line k is the first that fails a test
  pub record SatsFail (sats : List SatEntry) (lines : List SatLine) (k : ℕ)
      (fault : Fault) : Type 0 where
    pub is_line : k < length sats
    pub before : (j : ℕ) → j < k → LinePasses sats lines j
    pub here : LineFails sats lines k fault
