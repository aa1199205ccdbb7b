-- The place of a made receiver, and the codes that it measures.
use Rattle.std.specs.Prelude.{ℕ, ◌+◌, ◌*◌, ◌/◌, ◌%◌, ◌^◌, ◌≡◌, ◌==◌, ℤ, pos, neg_ℤ, ◌+ℤ◌, ◌-ℤ◌}
use Rattle.std.specs.Prelude.{◌*ℤ◌, ◌≤ℤ◌, List, [], ◌∷◌, length, if◌then◌else◌}
use Rattle.rinex_nav.specs.ElementsOf.{AreElements}
use Rattle.rinex_nav.specs.Reading.{plain_record}
use Rattle.rinex_nav.specs.Records.{Broadcast}
use Rattle.rinex_nav.specs.declared.record.NavRecord.{NavRecord}
use Rattle.rinex_text.specs.Dates.{gps_time}
use Rattle.grid_model.specs.Intervals.{Between}
use Rattle.grid_model.specs.declared.boxes.Pos.{Pos}
use Rattle.gnss_model.specs.declared.elements.Elements.{Elements}
use Rattle.made_texts.specs.declared.sat_codes.SatCode.{SatCode}
use Rattle.made_texts.specs.declared.sat_codes.EpochCodes.{EpochCodes}
use Rattle.code_simulation.specs.Residuals.{Residual}
use Rattle.code_simulation.specs.SearchSizes.{one_width, pair_width}
use Rattle.made_input.specs.Generator.{drawn}
use Rattle.made_input.specs.MadeRecords.{mean_draw, made_broadcast}

-- ---- the place

-- in m, by the first three draws
abbrev pub place_x : ℕ → ℕ
place_x seed = 4000000 + drawn seed 0 1000

abbrev pub place_y : ℕ → ℕ
place_y seed = 3000000 + drawn seed 1 1000

abbrev pub place_z : ℕ → ℕ
place_z seed = 3900000 + drawn seed 2 1000

-- in um
abbrev pub place_of : ℕ → Pos
place_of seed = record {
  x = pos (place_x seed * 10 ^ 6);
  y = pos (place_y seed * 10 ^ 6);
  z = pos (place_z seed * 10 ^ 6);
}

-- the centre of the search box, in mm: the place and (7, -5, 3) m
abbrev pub centre_x : ℕ → ℤ
centre_x seed = pos (place_x seed * 1000 + 7000)

abbrev pub centre_y : ℕ → ℤ
centre_y seed = pos (place_y seed * 1000) -ℤ pos 5000

abbrev pub centre_z : ℕ → ℤ
centre_z seed = pos (place_z seed * 1000 + 3000)

-- ---- the codes

-- epoch j, from 0, is 30 j s behind 2024-01-07 01:00:00
abbrev pub tag_of : ℕ → ℤ
tag_of j = pos (gps_time 2024 1 7 1 0 0 + 30 * j * 10 ^ 12)

-- one satellite of each epoch is wrong by 500 m
abbrev pub outlier : ℕ → ℕ → ℤ
outlier j k = if k == 1 + j % 8 then pos 500000 else pos 0

-- what is to be left of a code, in um: the noise, which is a draw of mm less 2 m, and 500 m for the
-- outlier
abbrev pub goal_by : ℕ → ℕ → ℕ → ℤ
goal_by draw j k = (pos draw -ℤ pos 2000 +ℤ outlier j k) *ℤ pos 1000

-- the draws of noise come behind those of the records, epoch by epoch
abbrev pub goal_of : ℕ → ℕ → ℕ → ℤ
goal_of seed j k = goal_by (drawn seed (10 + 8 * j + k) 4001) j k

-- el are the elements of a record with these numbers
pub record AreElementsOf (numbers : Broadcast) (el : Elements) : Type 0 where
  pub r : NavRecord
  pub numbers_are : plain_record r ≡ numbers
  pub elements : AreElements r el

-- A code in mm, between -20,000 km and 80,000 km, that has residuals at the place, and has only
-- such as are what is to be left, but for a few mm
pub record IsMadeCode (seed j k : ℕ) (code : ℤ) : Type 0 where
  pub el : Elements
  pub elements : AreElementsOf (made_broadcast k (mean_draw seed k)) el
  pub from : neg_ℤ (pos (2 * 10 ^ 10)) ≤ℤ code
  pub to : code ≤ℤ pos (8 * 10 ^ 10)
  pub some : (v : ℤ) × Residual el (tag_of j) (place_of seed) (code *ℤ pos 1000) v
  pub near : (v : ℤ) → Residual el (tag_of j) (place_of seed) (code *ℤ pos 1000) v
      → Between (goal_of seed j k -ℤ pos pair_width) (goal_of seed j k +ℤ pos one_width) v

-- the satellites from k on
abbrev pub AreMadeSats : ℕ → ℕ → ℕ → List SatCode → Type 0
AreMadeSats seed j k [] = Unit {0}
AreMadeSats seed j k (sat ∷ sats) = (sat.number ≡ k) × IsMadeCode seed j k sat.code
    × AreMadeSats seed j (k + 1) sats

pub record IsMadeEpoch (seed j : ℕ) (epoch : EpochCodes) : Type 0 where
  pub hour : epoch.hour ≡ 1 + j / 120
  pub minute : epoch.minute ≡ j / 2 % 60
  pub second : epoch.second ≡ j % 2 * 30
  pub eight : length epoch.sats.items ≡ 8
  pub sats : AreMadeSats seed j 1 epoch.sats.items

-- the epochs from j on
abbrev pub AreMadeEpochs : ℕ → ℕ → List EpochCodes → Type 0
AreMadeEpochs seed j [] = Unit {0}
AreMadeEpochs seed j (epoch ∷ epochs) = IsMadeEpoch seed j epoch × AreMadeEpochs seed (j + 1) epochs
