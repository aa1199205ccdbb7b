-- What the rows of a satellite are formed from, whatever the box: what is known of it before its
-- place is turned into the frame of the reception, and before a delay is mapped.
use Rattle.std.specs.Prelude.{◌*◌, ◌^◌, ◌≡◌, ℤ, pos, ◌-ℤ◌, ◌≤ℤ◌, true, Option, None, Some}
use Rattle.std.specs.Prelude.{List, [], ◌∷◌, ◌++◌}
use Rattle.broadcast_orbit.specs.OrbitSizes.{IsOrbitDistance}
use Rattle.earth_rotation.specs.TurnSizes.{near_reach, narrow_width}
use Rattle.fix_interval.specs.Places.{HoldsPlace, PlaceEnds}
use Rattle.rinex_obs.specs.declared.obs.SatObs.{SatObs}
use Rattle.grid_model.specs.Boxes.{GridBox, box_holds}
use Rattle.grid_model.specs.Intervals.{Between}
use Rattle.sat_model.specs.Relaxed.{ends}
use Rattle.grid_model.specs.SearchBoxes.{IsSearchBox}
use Rattle.gnss_model.specs.Delays.{is_plain}
use Rattle.gnss_model.specs.Turn.{Turn}
use Rattle.grid_model.specs.declared.boxes.Pos.{Pos}
use Rattle.gnss_model.specs.declared.delays.Delays.{Delays}
use Rattle.sat_model.specs.declared.rows.Row.{Row}
use Rattle.sat_rows.specs.Chains.{Chain, IsBound}
use Rattle.sat_rows.specs.Meanings.{Meaning}
use Rattle.sat_rows.specs.OwnRows.{HoldsAllowed, HasBounds, AreBoundsTight, IsTight, IsSmall}
use Rattle.sat_rows.specs.declared.bases.Base.{Base}
use Rattle.sat_rows.specs.declared.lines.SatLine.{SatLine}
use Rattle.sat_rows.specs.declared.lines.SatLine.TheVariants.{Usable, Skipped}
use Rattle.usable_sats.specs.Usability.{IsHigh}

-- the values come from a place that is held, by one turn of the earth as seen from p, from a range
-- that is held, and from the declared ends of the error with each delay added
pub record ComesFrom (delays : Delays) (base : Base) (p : Pos) (c : Chain) : Type 0 where
  pub sent_x : ℤ
  pub sent_y : ℤ
  pub sent_in : HoldsPlace base.place sent_x sent_y c.z
  pub turn : Turn p sent_x sent_y c.z c.x c.y c.range
  pub corrected : Between base.range.lo base.range.hi c.corrected
  pub bound : IsBound delays (ends base.err) p c

-- it is known as near as one orbit and one pseudorange, or the difference of two receivers', tell,
-- and all members of the place are as far from the origin as an orbit
pub record IsNarrowBase (base : Base) : Type 0 where
  pub place : PlaceEnds near_reach narrow_width base.place
  pub distance : (x y z : ℤ) → HoldsPlace base.place x y z → IsOrbitDistance x y z
  pub range : IsSmall (56 * 10 ^ 12) base.range
  pub range_width : (base.range.hi -ℤ base.range.lo) ≤ℤ pos 1900
  pub err : IsSmall (6 * 10 ^ 9) base.err

-- For what a source says of the satellites that were observed at a time, in a search box: the
-- satellite is usable, and whatever is allowed of it at the grid points comes from the base.
pub record IsBaseOf (m : Meaning) (root : GridBox) (tag : ℤ) (seen : SatObs)
    (base : Base) : Type 0 where
  pub sat : base.sat ≡ seen.sat
  pub usable : m.judged root tag seen None
  pub comes : (p : Pos) (c : Chain) → box_holds root p ≡ true → m.allows tag seen p c
      → ComesFrom m.delays base p c
  pub declared : ends base.err ≡ m.declared seen.sat
  pub narrow : IsNarrowBase base
  pub search : IsSearchBox root
  pub high : IsHigh m.delays root

-- The row over a box holds whatever comes from the base as seen from its grid points, within W and
-- G of this box.
pub record IsRowOfBase (delays : Delays) (base : Base) (part : GridBox) (row : Row) : Type 0 where
  pub holds : HoldsAllowed (ComesFrom delays base) part row
  pub x : IsTight part row.x
  pub y : IsTight part row.y
  pub z : IsTight part row.z
  pub range : IsTight part row.range
  pub bounds : AreBoundsTight part delays row
  pub plain : is_plain delays ≡ true → HasBounds row (ends base.err)

-- own rows of it can be formed over each part of the root
pub record CanForm (delays : Delays) (root : GridBox) (base : Base) : Type 0 where
  pub narrow : IsNarrowBase base
  pub search : IsSearchBox root
  pub high : IsHigh delays root

-- ---- the bases of an epoch

abbrev pub base_list : Option Base → List Base
base_list None = []
base_list (Some base) = base ∷ []

-- the line of a usable satellite, and no other, has a base
abbrev pub HasBase : Meaning → GridBox → ℤ → SatObs → SatLine → Option Base → Type 0
HasBase m root tag seen (Usable row) None = ⊥
HasBase m root tag seen (Usable row) (Some base) = IsBaseOf m root tag seen base
HasBase m root tag seen (Skipped sat skip) None = Unit {0}
HasBase m root tag seen (Skipped sat skip) (Some base) = ⊥

-- one for each usable satellite, in order
abbrev pub AreBasesOf : Meaning → GridBox → ℤ → List SatObs → List SatLine → List Base → Type 0
AreBasesOf m root tag [] lines bases = bases ≡ []
AreBasesOf m root tag (seen ∷ sats) [] bases = ⊥
AreBasesOf m root tag (seen ∷ sats) (line ∷ lines) bases =
    (own : Option Base) × (rest : List Base) × (bases ≡ base_list own ++ rest)
    × HasBase m root tag seen line own × AreBasesOf m root tag sats lines rest
