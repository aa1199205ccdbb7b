-- The rows by which the boxes of a search are tested: one for each usable satellite, an own row
-- over a part of the search box, wider by W and G of this part.
use Rattle.std.specs.Prelude.{◌≡◌, ◌⊎◌, pos, Bool, true, List, [], ◌∷◌, None, Some}
use Rattle.std.specs.List.{AllByRecursion}
use Rattle.epoch_rows.specs.Grown.{IsGrownRow}
use Rattle.epoch_selection.specs.Searches.{Search}
use Rattle.gnss_model.specs.Delays.{err_spare_of}
use Rattle.gnss_model.specs.declared.satellites.Skip.{Skip}
use Rattle.grid_model.specs.Boxes.{GridBox}
use Rattle.grid_model.specs.Lengths.{spare_of}
use Rattle.rinex_obs.specs.Facts.{AreDistinct}
use Rattle.rinex_obs.specs.declared.obs.ObsEpoch.{ObsEpoch}
use Rattle.rinex_obs.specs.declared.obs.SatObs.{SatObs}
use Rattle.sat_model.specs.declared.rows.Row.{Row}
use Rattle.sat_rows.specs.Meanings.{Meaning}
use Rattle.sat_rows.specs.OwnRows.{IsOwnRow}

-- by what a source says of satellites
module _ (m : Meaning) (search : Search) where
  abbrev pub IsUnusable : SatObs → Type 0
  IsUnusable seen = (skip : Skip) × m.judged search.root search.epoch.tag seen (Some skip)

  module _ (part : GridBox) where
    -- the row of a usable satellite
    pub record IsRowFor (seen : SatObs) (row : Row) : Type 0 where
      pub usable : m.judged search.root search.epoch.tag seen None
      pub own : Row
      pub sat : own.sat ≡ seen.sat
      pub is_own : IsOwnRow m part search.epoch.tag seen own
      pub grown : IsGrownRow (pos (spare_of part)) (pos (err_spare_of part m.delays)) own row

    -- each usable one of these satellites has its row, in order
    abbrev pub AreRowsFor : List SatObs → List Row → Type 0
    AreRowsFor [] [] = Unit {0}
    AreRowsFor [] (row ∷ rows) = ⊥
    AreRowsFor (seen ∷ sats) [] = IsUnusable seen × AreRowsFor sats []
    AreRowsFor (seen ∷ sats) (row ∷ rows) =
        (IsUnusable seen × AreRowsFor sats (row ∷ rows))
        ⊎ (IsRowFor seen row × AreRowsFor sats rows)

    -- those of the epoch
    abbrev pub AreRowsOver : List Row → Type 0
    AreRowsOver rows = AreRowsFor search.epoch.sats.items rows

-- Where rows are renewed, no two satellites have one name: a renewed row is known by its name.
abbrev pub AreDistinctIf : Bool → List SatObs → Type 0
AreDistinctIf renews sats = renews ≡ true → AreDistinct sats

-- in each epoch
abbrev pub AllDistinctIf : Bool → List ObsEpoch → Type 0
AllDistinctIf renews epochs =
    AllByRecursion (λ (epoch : ObsEpoch). AreDistinctIf renews epoch.sats.items) epochs
