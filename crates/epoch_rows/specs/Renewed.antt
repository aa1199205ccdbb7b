-- Rows that are formed anew for a box inside the search box of an epoch.
use Rattle.std.specs.Prelude.{◌≡◌, ℕ, pos, Bool, true, false, List, map, Option, None, Some}
use Rattle.std.specs.Prelude.{slice_get}
use Rattle.std.proofs.Math.Dec.{T_prop}
use Rattle.std.specs.Coded.{Unit-prop, le_prop}
use Rattle.std.specs.List.{AllByRecursion, AllByRecursion-prop}
use Rattle.epoch_selection.specs.Searches.{Search}
use Rattle.gnss_model.specs.Delays.{is_plain, err_spare_of}
use Rattle.gnss_model.specs.declared.delays.Delays.{Delays}
use Rattle.gnss_model.specs.declared.satellites.Sat.{Sat}
use Rattle.grid_model.specs.Boxes.{GridBox}
use Rattle.grid_model.specs.Lengths.{spare_of}
use Rattle.paving.specs.Renewing.{Maker}
use Rattle.rinex_obs.specs.declared.obs.SatObs.{SatObs}
use Rattle.sat_model.specs.Contractors.{LiesIn}
use Rattle.sat_model.specs.Logs.{Block, rows_of}
use Rattle.sat_model.specs.declared.rows.Row.{Row}
use Rattle.sat_rows.specs.Bases.{IsBaseOf, IsRowOfBase, CanForm}
use Rattle.sat_rows.specs.Meanings.{Meaning}
use Rattle.sat_rows.specs.OwnRows.{IsOwnRow}
use Rattle.sat_rows.specs.declared.bases.Base.{Base}
use Rattle.usable_sats.specs.Usability.{IsHighIf}
use Rattle.epoch_rows.specs.Grown.{IsGrownRow}

-- the search of the block that was given last, and the satellites of its rows, in order
pub record Hand : Type 0 where
  pub search : Search
  pub sats : List Sat

abbrev pub hand_of : Search → Block → Hand
hand_of search block = record { search = search; sats = map (λ row. row.sat) (rows_of block.sats) }

-- by what a source says of satellites
module _ (m : Meaning) where
  -- an own row of a usable satellite over a part of the search box, wider by W and G of this part
  pub record IsRenewedRow (search : Search) (part : GridBox) (row : Row) : Type 0 where
    pub lies : LiesIn part search.root
    pub place : ℕ
    pub seen : SatObs
    pub is_seen : slice_get search.epoch.sats.items place ≡ Some seen
    pub usable : m.judged search.root search.epoch.tag seen None
    pub own : Row
    pub sat : own.sat ≡ seen.sat
    pub is_own : IsOwnRow m part search.epoch.tag seen own
    pub grown : IsGrownRow (pos (spare_of part)) (pos (err_spare_of part m.delays)) own row

  -- the row is one of the satellite in its place; no block, no row
  abbrev pub GivesRow : Option Hand → ℕ → GridBox → Row → Type 0
  GivesRow None i part row = ⊥
  GivesRow (Some hand) i part row =
      (slice_get hand.sats i ≡ Some row.sat) × IsRenewedRow hand.search part row

  -- makes the rows of the block in hand anew, where rows are to be renewed
  abbrev pub maker_of : Bool → Option Hand → Maker
  maker_of renews hand = record { active = renews; gives = GivesRow hand }

-- ---- what the code tells of a row, by the bases of its epoch

-- a row of base i over a part of the root, wider by W and G of this part
pub record IsGrownFrom (delays : Delays) (root : GridBox) (bases : List Base) (i : ℕ)
    (part : GridBox) (row : Row) : Type 0 where
  pub base : Base
  pub is_base : slice_get bases i ≡ Some base
  pub lies : LiesIn part root
  pub own : Row
  pub sat : own.sat ≡ base.sat
  pub of_base : IsRowOfBase delays base part own
  pub grown : IsGrownRow (pos (spare_of part)) (pos (err_spare_of part delays)) own row

abbrev pub maker_from : Bool → Delays → GridBox → List Base → Maker
maker_from renews delays root bases =
    record { active = renews; gives = IsGrownFrom delays root bases }

-- the base is one of a usable satellite of the search's epoch
pub record IsBaseIn (m : Meaning) (search : Search) (base : Base) : Type 0 where
  pub place : ℕ
  pub seen : SatObs
  pub is_seen : slice_get search.epoch.sats.items place ≡ Some seen
  pub is_base : IsBaseOf m search.root search.epoch.tag seen base

-- one for each row of the block in hand, in order
pub record AreBasesIn (m : Meaning) (hand : Hand) (bases : List Base) : Type 0 where
  pub each : AllByRecursion (IsBaseIn m hand.search) bases
  pub sats : map (λ base. base.sat) bases ≡ hand.sats

-- ---- what is kept of a base

high_prop : (plain : Bool) (root : GridBox) → IsProp (IsHighIf plain root)
high_prop true root = Unit-prop
high_prop false root = hlevel (T_prop, le_prop)

can_prop : (delays : Delays) (root : GridBox) (base : Base) → IsProp (CanForm delays root base)
can_prop delays root base = hlevel (T_prop, le_prop, high_prop (is_plain delays) root)

-- rows can be formed of each of these over each part of the root
abbrev pub CanFormEach : Delays → GridBox → List Base → Type 0
CanFormEach delays root = AllByRecursion (CanForm delays root)

pub CanFormEach-prop : (delays : Delays) (root : GridBox) (bases : List Base)
    → IsProp (CanFormEach delays root bases)
CanFormEach-prop delays root = AllByRecursion-prop (CanForm delays root) (can_prop delays root)
