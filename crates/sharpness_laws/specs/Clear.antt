-- Boxes of which the true ranges make clear that nothing in them fits, or that all of it does: by a
-- margin, since the rows that a paving works with are wider than what a source allows.
use Rattle.std.specs.Prelude.{ℕ, zero, suc, ◌*◌, ◌≡◌, ◌⊎◌, ℤ, pos, ◌+ℤ◌, ◌-ℤ◌, ◌≤ℤ◌}
use Rattle.std.specs.Prelude.{◌+◌, true, List, [], ◌∷◌, Some}
use Rattle.epoch_selection.specs.Searches.{Search}
use Rattle.rinex_obs.specs.declared.obs.ObsEpoch.{ObsEpoch}
use Rattle.rinex_obs.specs.declared.obs.SatObs.{SatObs}
use Rattle.grid_model.specs.Boxes.{Side, GridBox, box_holds, IsIn}
use Rattle.grid_model.specs.Intervals.{Between}
use Rattle.grid_model.specs.Lengths.{spare_of}
use Rattle.gnss_model.specs.Delays.{err_spare_of}
use Rattle.grid_model.specs.declared.boxes.Pos.{Pos}
use Rattle.gnss_model.specs.declared.satellites.Skip.{Skip}
use Rattle.gnss_model.specs.declared.delays.Delays.{Delays}
use Rattle.sat_rows.specs.Chains.{Chain}
use Rattle.sat_rows.specs.Meanings.{Meaning}

-- for what a source says of the satellites of an epoch that is searched in a box
module _ (m : Meaning) (root : GridBox) (epoch : ObsEpoch) where
  -- the satellite isn't usable, or the fact holds of it
  abbrev pub IfUsable : (SatObs → Type 0) → SatObs → Type 0
  IfUsable Meets seen = ((skip : Skip) × m.judged root epoch.tag seen (Some skip)) ⊎ Meets seen

  -- the fact holds of all usable satellites but at most q
  abbrev pub UsableBut : ℕ → (SatObs → Type 0) → List SatObs → Type 0
  UsableBut q Meets [] = Unit {0}
  UsableBut zero Meets (seen ∷ sats) = IfUsable Meets seen × UsableBut zero Meets sats
  UsableBut (suc q) Meets (seen ∷ sats) =
      (IfUsable Meets seen × UsableBut (suc q) Meets sats) ⊎ UsableBut q Meets sats

  -- over the grid points of a box, with a margin in um
  module _ (part : GridBox) (margin : ℕ) where
    -- these numbers hold the range of whatever is allowed of the satellite
    pub record HoldsRange (range : Side) (seen : SatObs) : Type 0 where
      pub ordered : range.lo ≤ℤ range.hi
      pub holds : (p : Pos) (values : Chain) → box_holds part p ≡ true
          → m.allows epoch.tag seen p values → IsIn range (pos values.range)

    -- some allowed pseudorange and one of these numbers as its range leave an error past the ends
    -- that are allowed with it by no more than the margin
    pub record IsNearlyConsistent (range : Side) (b : ℤ) (seen : SatObs) : Type 0 where
      pub at : Pos
      pub inside : box_holds part at ≡ true
      pub values : Chain
      pub are : m.allows epoch.tag seen at values
      pub distance : ℤ
      pub in_range : IsIn range distance
      pub within : Between (values.lo -ℤ pos margin) (values.hi +ℤ pos margin)
          (values.corrected -ℤ distance -ℤ b)

    -- whatever is allowed leaves an error between its ends, off both by the margin
    abbrev pub IsSafelyConsistent : ℤ → SatObs → Type 0
    IsSafelyConsistent b seen = (p : Pos) (values : Chain) → box_holds part p ≡ true
        → m.allows epoch.tag seen p values
        → Between (values.lo +ℤ pos margin) (values.hi -ℤ pos margin)
        (values.corrected -ℤ pos values.range -ℤ b)

    -- no clock offset has all usable satellites but at most q nearly consistent, for some ranges of
    -- theirs
    pub record IsEmptyBy (q : ℕ) : Type 0 where
      pub ranges : SatObs → Side
      pub hold : UsableBut 0 (λ seen. HoldsRange (ranges seen) seen) epoch.sats.items
      pub none : (b : ℤ)
          → UsableBut q (λ seen. IsNearlyConsistent (ranges seen) b seen) epoch.sats.items → ⊥

    -- some clock offset has all usable satellites but at most q safely consistent
    pub record IsInnerBy (q : ℕ) : Type 0 where
      pub offset : ℤ
      pub inside : UsableBut q (IsSafelyConsistent offset) epoch.sats.items

-- the margin over a search box: 12 W and 4 G
abbrev pub margin_over : GridBox → Delays → ℕ
margin_over root delays = 12 * spare_of root + 4 * err_spare_of root delays

-- in a search, where up to q usable satellites may be inconsistent
module _ (m : Meaning) (q : ℕ) (search : Search) where
  abbrev pub IsClearlyEmpty : GridBox → Type 0
  IsClearlyEmpty part =
      IsEmptyBy m search.root search.epoch part (margin_over search.root m.delays) q

  abbrev pub IsClearlyInner : GridBox → Type 0
  IsClearlyInner part =
      IsInnerBy m search.root search.epoch part (margin_over search.root m.delays) q
