-- Where a receiver may be: the points and clock offsets that all but at most q usable satellites of
-- an epoch are consistent with.
use Rattle.std.specs.Prelude.{ℕ, zero, suc, ◌⊎◌, ℤ, pos, ◌-ℤ◌, List, [], ◌∷◌, Some}
use Rattle.rinex_obs.specs.declared.obs.ObsEpoch.{ObsEpoch}
use Rattle.rinex_obs.specs.declared.obs.SatObs.{SatObs}
use Rattle.grid_model.specs.Boxes.{GridBox}
use Rattle.grid_model.specs.Intervals.{Between}
use Rattle.grid_model.specs.declared.boxes.Pos.{Pos}
use Rattle.gnss_model.specs.declared.satellites.Skip.{Skip}
use Rattle.sat_rows.specs.Chains.{Chain}
use Rattle.sat_rows.specs.Meanings.{Meaning}

-- for what a source says of the satellites that were observed at a time, in a search box
module _ (m : Meaning) (root : GridBox) (tag : ℤ) where
  -- some allowed values leave an error between their ends
  pub record IsConsistent (p : Pos) (b : ℤ) (seen : SatObs) : Type 0 where
    pub values : Chain
    pub are : m.allows tag seen p values
    pub within : Between values.lo values.hi (values.corrected -ℤ pos values.range -ℤ b)

  -- the satellite isn't usable, or it is consistent
  abbrev pub Agrees : Pos → ℤ → SatObs → Type 0
  Agrees p b seen = ((skip : Skip) × m.judged root tag seen (Some skip)) ⊎ IsConsistent p b seen

  -- at most q usable satellites aren't consistent
  abbrev pub Fits : ℕ → Pos → ℤ → List SatObs → Type 0
  Fits q p b [] = Unit {0}
  Fits zero p b (seen ∷ sats) = Agrees p b seen × Fits zero p b sats
  Fits (suc q) p b (seen ∷ sats) = (Agrees p b seen × Fits (suc q) p b sats) ⊎ Fits q p b sats

-- of those of an epoch that is searched in a box
abbrev pub FitsEpoch : Meaning → ℕ → GridBox → ObsEpoch → Pos → ℤ → Type 0
FitsEpoch m q root seen p b = Fits m root seen.tag q p b seen.sats.items
