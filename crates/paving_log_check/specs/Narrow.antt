-- Why a row is too narrow (53): one of its spans doesn't hold that of an own row. So it isn't wide
-- enough to hold all numbers within W of a value that the equations allow, whichever this is; and a
-- span of the ends of the error those within G of such an end.
use Rattle.std.specs.Prelude.{◌≡◌, ℕ, ℤ, pos, ◌+ℤ◌, ◌-ℤ◌, ◌≤ℤ◌, ◌⊎◌, true, List, [], ◌∷◌}
use Rattle.std.specs.Prelude.{None, Some, Contains, slice_get}
use Rattle.epoch_selection.specs.Searches.{Search}
use Rattle.rinex_obs.specs.declared.obs.SatObs.{SatObs}
use Rattle.grid_model.specs.Boxes.{Side, GridBox, box_holds, span_side}
use Rattle.grid_model.specs.Lengths.{spare_of}
use Rattle.sat_model.specs.Events.{RowsOver}
use Rattle.sat_model.specs.Logs.{Block}
use Rattle.gnss_model.specs.Delays.{err_spare_of}
use Rattle.grid_model.specs.declared.boxes.Pos.{Pos}
use Rattle.sat_model.specs.declared.rows.Row.{Row}
use Rattle.sat_model.specs.declared.rows.SatEntry.TheVariants as entry
use Rattle.gnss_model.specs.declared.delays.Delays.{Delays}
use Rattle.sat_rows.specs.Chains.{Chain}
use Rattle.sat_rows.specs.Meanings.{Meaning}
use Rattle.sat_rows.specs.OwnRows.{IsOwnRow}
use Rattle.paving_log_check.specs.Lines.{HoldsSide, compared}
use Rattle.paving_log_check.specs.OwnLines.{renewals_of}
use Rattle.paving_log_check.specs.declared.verdict.Fault.{Fault}

-- the values that the spans of a row are for, in the order in which these are compared, each with
-- how wide its span may be over a box
abbrev pub values : GridBox → Delays → Chain → List (ℤ × ℕ)
values over delays c =
    (c.x, spare_of over) ∷ (c.y, spare_of over) ∷ (c.z, spare_of over)
    ∷ (c.corrected, spare_of over)
    ∷ (c.lo, err_spare_of over delays) ∷ (c.hi, err_spare_of over delays) ∷ []

-- the side holds all numbers from so much below this one to as much above it
pub record HoldsAround (spare : ℕ) (side : Side) (n : ℤ) : Type 0 where
  pub lo : side.lo ≤ℤ (n -ℤ pos spare)
  pub hi : (n +ℤ pos spare) ≤ℤ side.hi

-- the block has the row over this box: in a satellite line over the root, or in a renewal over its
-- box
abbrev pub HasRowOver : GridBox → Block → GridBox → Row → Type 0
HasRowOver root block over row =
    ((over ≡ root) × Contains block.sats (entry.Row row))
    ⊎ ((new : RowsOver) × Contains (renewals_of block.body) new × (over ≡ new.part)
    × Contains new.rows row)

-- by what a source says of satellites
module _ (m : Meaning) where
  -- the spans that are shown are those of the line's row and of the own one, in the same place
  pub record IsTooNarrow (over : GridBox) (tag : ℤ) (sat : SatObs) (row ours : Row)
      (fault : Fault) : Type 0 where
    pub place : ℕ
    pub shown : slice_get (compared m.delays row ours) place
        ≡ Some (span_side fault.theirs, span_side fault.ours)
    pub narrow : HoldsSide (span_side fault.theirs) (span_side fault.ours) → ⊥
    pub around : (p : Pos) (c : Chain) (n : ℤ) (spare : ℕ) → box_holds over p ≡ true
        → m.allows tag sat p c → slice_get (values over m.delays c) place ≡ Some (n, spare)
        → HoldsAround spare (span_side fault.theirs) n → ⊥

  -- it is the row of a usable satellite of this epoch, over the root or over the box of a renewal
  pub record HasNarrowRow (search : Search) (block : Block) (fault : Fault) : Type 0 where
    pub sat : SatObs
    pub is_seen : Contains search.epoch.sats.items sat
    pub usable : m.judged search.root search.epoch.tag sat None
    pub over : GridBox
    pub ours : Row
    pub is_own : IsOwnRow m over search.epoch.tag sat ours
    pub row : Row
    pub is_line : HasRowOver search.root block over row
    pub same_sat : row.sat ≡ sat.sat
    pub too_narrow : IsTooNarrow over search.epoch.tag sat row ours fault

  -- ... of one of these searches, in its block
  pub record HasNarrowBlock (searches : List Search) (blocks : List Block)
      (fault : Fault) : Type 0 where
    pub search : Search
    pub is_search : Contains searches search
    pub block : Block
    pub is_block : Contains blocks block
    pub same_index : block.index ≡ search.epoch.index
    pub has_row : HasNarrowRow search block fault
