-- Rows with room at the ends of their spans.
use Rattle.std.specs.Prelude.{◌≡◌, ℤ, ◌+ℤ◌, ◌-ℤ◌}
use Rattle.grid_model.specs.Sizes.{IsPlaceSize, IsErrorSize}
use Rattle.sat_model.specs.declared.rows.Row.{Row}
use Rattle.grid_model.specs.declared.spans.Span.{Span}

-- the second span's ends are so much farther out
pub record IsGrown (by : ℤ) (span grown : Span) : Type 0 where
  pub low : grown.lo ≡ span.lo -ℤ by
  pub high : grown.hi ≡ span.hi +ℤ by

-- and may be those of a place
pub record GrowsWithin (by : ℤ) (span : Span) : Type 0 where
  pub low : IsPlaceSize (span.lo -ℤ by)
  pub high : IsPlaceSize (span.hi +ℤ by)

-- ---- the spans of a row's low and high ends of the error

-- both are so much wider at both ends
pub record AreBoundsGrown (by : ℤ) (row grown : Row) : Type 0 where
  pub least_lo : grown.err.lo ≡ row.err.lo -ℤ by
  pub greatest_lo : grown.sure_lo ≡ row.sure_lo +ℤ by
  pub least_hi : grown.sure_hi ≡ row.sure_hi -ℤ by
  pub greatest_hi : grown.err.hi ≡ row.err.hi +ℤ by

-- and may be those of an error
pub record BoundsGrowWithin (by : ℤ) (row : Row) : Type 0 where
  pub least_lo : IsErrorSize (row.err.lo -ℤ by)
  pub greatest_lo : IsErrorSize (row.sure_lo +ℤ by)
  pub least_hi : IsErrorSize (row.sure_hi -ℤ by)
  pub greatest_hi : IsErrorSize (row.err.hi +ℤ by)
