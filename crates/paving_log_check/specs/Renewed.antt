-- The satellite lines of renewals against own rows, as far as these are given.
use Rattle.std.specs.Prelude.{◌≡◌, ℕ, ◌+◌, List, [], ◌∷◌, length, Some, slice_get}
use Rattle.gnss_model.specs.declared.delays.Delays.{Delays}
use Rattle.sat_model.specs.Renewals.{LineFact, LineTests}
use Rattle.sat_model.specs.declared.rows.Row.{Row}
use Rattle.sat_model.specs.declared.rows.SatEntry.TheVariants as entry
use Rattle.sat_rows.specs.declared.lines.SatLine.TheVariants.{Usable}
use Rattle.paving_log.specs.declared.renewal.Renewal.{Renewal}
use Rattle.paving_log_check.specs.Answers.{ShowsNoSpans}
use Rattle.paving_log_check.specs.Lines.{HoldsOwn, HasBound, RowFails}
use Rattle.paving_log_check.specs.declared.verdict.Fault.{Fault}

-- for line i of renewal j, both from 0, this own row is given
abbrev pub IsGiven : List (List Row) → ℕ → ℕ → Row → Type 0
IsGiven renewed j i ours =
    (rows : List Row) × (slice_get renewed j ≡ Some rows) × (slice_get rows i ≡ Some ours)

-- by the delays that are mapped
module _ (delays : Delays) (renewed : List (List Row)) where
  -- the line's row passes against the own row that is given for it (53, 54)
  abbrev pub HoldsGiven : LineFact
  HoldsGiven j i row = (ours : Row) → IsGiven renewed j i ours
      → HoldsOwn delays row ours × HasBound delays row ours

  -- it fails against it
  abbrev pub GivenFails : ℕ → ℕ → Row → Fault → Type 0
  GivenFails j i row fault = (ours : Row) × IsGiven renewed j i ours
      × RowFails delays (entry.Row row) (Usable ours) fault

  -- the tests of a line, beside that of its satellite
  abbrev pub own_tests : LineTests Fault
  own_tests = record {
    number = λ fault. fault.number;
    plain = ShowsNoSpans;
    passes = HoldsGiven;
    fails = GivenFails;
  }

-- how many lines renewals have: each one for its box, and one for each row
abbrev pub lines_in_renewals : List Renewal → ℕ
lines_in_renewals [] = 0
lines_in_renewals (r ∷ more) = 1 + length r.rows.items + lines_in_renewals more
