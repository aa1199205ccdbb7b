-- Rows that hold what a source allows of the usable satellites.
use Rattle.std.specs.Prelude.{ℕ, ◌+◌, ◌*◌, ◌^◌, ◌≡◌, ℤ, pos, ◌-ℤ◌, ◌≤ℤ◌, true, List, [], ◌∷◌}
use Rattle.std.specs.Prelude.{None, Some}
use Rattle.rinex_obs.specs.declared.obs.ObsEpoch.{ObsEpoch}
use Rattle.rinex_obs.specs.declared.obs.SatObs.{SatObs}
use Rattle.grid_model.specs.Boxes.{GridBox, box_holds}
use Rattle.grid_model.specs.Intervals.{Between}
use Rattle.grid_model.specs.Lengths.{spare_of}
use Rattle.sat_model.specs.Relaxed.{ends}
use Rattle.grid_model.specs.Sizes.{IsWithin}
use Rattle.gnss_model.specs.Delays.{is_plain, err_spare_of}
use Rattle.grid_model.specs.declared.boxes.Pos.{Pos}
use Rattle.sat_model.specs.declared.rows.Row.{Row}
use Rattle.gnss_model.specs.declared.delays.Delays.{Delays}
use Rattle.grid_model.specs.declared.spans.Span.{Span}
use Rattle.sat_rows.specs.Chains.{Chain}
use Rattle.sat_rows.specs.Meanings.{Meaning}
use Rattle.sat_rows.specs.declared.lines.SatLine.{SatLine}
use Rattle.sat_rows.specs.declared.lines.SatLine.TheVariants.{Usable, Skipped}

-- the row's spans hold the values, and those of its ends of the error hold the ends
pub record HoldsChain (row : Row) (c : Chain) : Type 0 where
  pub x : Between row.x.lo row.x.hi c.x
  pub y : Between row.y.lo row.y.hi c.y
  pub z : Between row.z.lo row.z.hi c.z
  pub corrected : Between row.range.lo row.range.hi c.corrected
  pub lo : Between row.err.lo row.sure_lo c.lo
  pub hi : Between row.sure_hi row.err.hi c.hi

-- ... of whatever is allowed at the grid points of the root
abbrev pub HoldsAllowed : (Pos → Chain → Type 0) → GridBox → Row → Type 0
HoldsAllowed Allows root row =
    (p : Pos) (c : Chain) → box_holds root p ≡ true → Allows p c → HoldsChain row c

-- the spans hold the ends of the error
pub record HoldEnds (low high : Span) (c : Chain) : Type 0 where
  pub lo : Between low.lo low.hi c.lo
  pub hi : Between high.lo high.hi c.hi

-- ... those of a delay
pub record HoldDelay (low high : Span) (delay : ℤ × ℤ) : Type 0 where
  pub lo : Between low.lo low.hi delay.0
  pub hi : Between high.lo high.hi delay.1

-- a span is at most W wide
abbrev pub IsTight : GridBox → Span → Type 0
IsTight root span = (span.hi -ℤ span.lo) ≤ℤ pos (spare_of root)

-- the span of a row's low ends of the error, and that of its high ends, are at most G wide
pub record AreBoundsTight (root : GridBox) (delays : Delays) (row : Row) : Type 0 where
  pub low : (row.sure_lo -ℤ row.err.lo) ≤ℤ pos (err_spare_of root delays)
  pub high : (row.err.hi -ℤ row.sure_hi) ≤ℤ pos (err_spare_of root delays)

-- the ends of the error are these alone
pub record HasBounds (row : Row) (declared : ℤ × ℤ) : Type 0 where
  pub err : ends row.err ≡ declared
  pub sure : (row.sure_lo, row.sure_hi) ≡ declared

-- for what a source says of the satellites that were observed at a time, in a search box
module _ (m : Meaning) (root : GridBox) (tag : ℤ) where
  -- The row of a usable satellite holds every value that is allowed over the box, within W, and
  -- within G for the error bounds; without mapping these are the declared ones.
  pub record IsOwnRow (seen : SatObs) (row : Row) : Type 0 where
    pub holds : HoldsAllowed (m.allows tag seen) root row
    pub x : IsTight root row.x
    pub y : IsTight root row.y
    pub z : IsTight root row.z
    pub range : IsTight root row.range
    pub bounds : AreBoundsTight root m.delays row
    pub plain : is_plain m.delays ≡ true → HasBounds row (m.declared seen.sat)

  -- the line of a satellite: an own row where it is usable, else why it isn't
  abbrev pub IsOwnLine : SatObs → SatLine → Type 0
  IsOwnLine seen (Usable row) =
      (row.sat ≡ seen.sat) × m.judged root tag seen None × IsOwnRow seen row
  IsOwnLine seen (Skipped sat skip) = (sat ≡ seen.sat) × m.judged root tag seen (Some skip)

  -- one for each satellite, in order
  abbrev pub AreOwnLines : List SatObs → List SatLine → Type 0
  AreOwnLines [] [] = Unit {0}
  AreOwnLines [] (line ∷ lines) = ⊥
  AreOwnLines (seen ∷ sats) [] = ⊥
  AreOwnLines (seen ∷ sats) (line ∷ lines) = IsOwnLine seen line × AreOwnLines sats lines

-- those of an epoch
abbrev pub AreLinesOf : Meaning → GridBox → ObsEpoch → List SatLine → Type 0
AreLinesOf m root seen lines = AreOwnLines m root seen.tag seen.sats.items lines

-- how many lines are of usable satellites
abbrev pub usable_line : SatLine → ℕ
usable_line (Usable row) = 1
usable_line (Skipped sat skip) = 0

abbrev pub usable_in : List SatLine → ℕ
usable_in [] = 0
usable_in (line ∷ lines) = usable_line line + usable_in lines

-- ---- sizes: below those that a row may have, so that there is room to widen it

pub record IsSmall (n : ℕ) (span : Span) : Type 0 where
  pub lo : IsWithin n span.lo
  pub hi : IsWithin n span.hi

-- places and ranges are within 56,000 km, errors within 10 km, in um
pub record IsSmallRow (row : Row) : Type 0 where
  pub x : IsSmall (56 * 10 ^ 12) row.x
  pub y : IsSmall (56 * 10 ^ 12) row.y
  pub z : IsSmall (56 * 10 ^ 12) row.z
  pub range : IsSmall (56 * 10 ^ 12) row.range
  pub err : IsSmall (10 ^ 10) row.err
  pub sure_lo : IsWithin (10 ^ 10) row.sure_lo
  pub sure_hi : IsWithin (10 ^ 10) row.sure_hi

abbrev pub IsSmallLine : SatLine → Type 0
IsSmallLine (Usable row) = IsSmallRow row
IsSmallLine (Skipped sat skip) = Unit {0}

abbrev pub AreSmall : List SatLine → Type 0
AreSmall [] = Unit {0}
AreSmall (line ∷ lines) = IsSmallLine line × AreSmall lines
