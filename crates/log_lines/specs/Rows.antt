-- The words of a satellite's line and of a root behind the first word, and which values fit there.
use Rattle.std.specs.Prelude.{ℕ, Bool, ◌&&◌, if◌then◌else◌, ℤ, ◌≤ℤ◌, List, [], ◌∷◌, ◌++◌}
use Rattle.std.specs.Fmt.{signed_decimal}
use Rattle.std.specs.Ordering.{int_eq}
use Rattle.grid_model.specs.Sizes.{IsErrorSize}
use Rattle.grid_model.specs.declared.spans.Span.{Span}
use Rattle.sat_model.specs.declared.rows.Row.{Row}
use Rattle.sat_model.specs.declared.rows.SatEntry.{SatEntry}
use Rattle.sat_model.specs.declared.rows.SatEntry.TheVariants as entry
use Rattle.grid_model.specs.Boxes.{GridBox}
use Rattle.log_lines.specs.declared.line.Corners.{Corners}
use Rattle.log_tokens.specs.Fields.{span_words, pos_words, IsPosWithin, sat_words, IsNamed}
use Rattle.log_tokens.specs.Fields.{skip_words, SkipFits}

-- lo and hi are the ends of the span
abbrev pub are_ends : Span → ℤ → ℤ → Bool
are_ends s lo hi = int_eq lo s.lo && int_eq hi s.hi

-- the greatest low and the least high end of what is allowed of an error: nothing where they are
-- the least and the greatest one, the ends of `err`
abbrev pub sure_words : Span → ℤ → ℤ → List (List ℕ)
sure_words err lo hi =
    if are_ends err lo hi then [] else (signed_decimal lo ∷ signed_decimal hi ∷ [])

-- both are within 10^12 um, none further out than its end of the error
pub record AreSure (err : Span) (lo hi : ℤ) : Type 0 where
  pub lo_within : IsErrorSize lo
  pub hi_within : IsErrorSize hi
  pub low_ordered : err.lo ≤ℤ lo
  pub high_ordered : hi ≤ℤ err.hi

-- the error's span, and what is surely allowed of it
abbrev pub error_words : Row → List (List ℕ)
error_words r = span_words r.err ++ sure_words r.err r.sure_lo r.sure_hi

-- the satellite, and the spans of its place, of the range and of the error
abbrev pub row_words : Row → List (List ℕ)
row_words r =
    sat_words r.sat ++ (span_words r.x ++ (span_words r.y ++ (span_words r.z
    ++ (span_words r.range ++ error_words r))))

-- all else that is asked of a row is kept by its type
abbrev pub RowFits : Row → Type 0
RowFits r = IsNamed r.sat

-- a row, or the satellite and why it has none
abbrev pub entry_words : SatEntry → List (List ℕ)
entry_words (entry.Row r) = row_words r
entry_words (entry.Skipped sat skip) = sat_words sat ++ skip_words skip

abbrev pub EntryFits : SatEntry → Type 0
EntryFits (entry.Row r) = RowFits r
EntryFits (entry.Skipped sat skip) = IsNamed sat × SkipFits skip

-- the low corner and the high corner of a root, or of the box of a renewal
abbrev pub root_words : Corners → List (List ℕ)
root_words c = pos_words c.lo ++ pos_words c.hi

-- the corners of a box, each within 10^13 um of the origin
pub record CornersFit (c : Corners) : Type 0 where
  pub x_ordered : c.lo.x ≤ℤ c.hi.x
  pub y_ordered : c.lo.y ≤ℤ c.hi.y
  pub z_ordered : c.lo.z ≤ℤ c.hi.z
  pub lo_within : IsPosWithin 10000000000000 c.lo
  pub hi_within : IsPosWithin 10000000000000 c.hi

abbrev pub corners_of : GridBox → Corners
corners_of g = record {
  lo = record { x = g.x.lo; y = g.y.lo; z = g.z.lo };
  hi = record { x = g.x.hi; y = g.y.hi; z = g.z.hi };
}
