-- What a source of rows says of satellites.
use Rattle.std.specs.Prelude.{◌≡◌, ℤ, true, Option, None}
use Rattle.rinex_obs.specs.declared.obs.SatObs.{SatObs}
use Rattle.grid_model.specs.Boxes.{GridBox, box_holds}
use Rattle.grid_model.specs.Ranges.{range_to}
use Rattle.grid_model.specs.SearchBoxes.{IsSearchBox}
use Rattle.gnss_model.specs.Delays.{AreDelays}
use Rattle.grid_model.specs.declared.boxes.Pos.{Pos}
use Rattle.gnss_model.specs.declared.satellites.Sat.{Sat}
use Rattle.gnss_model.specs.declared.satellites.Skip.{Skip}
use Rattle.gnss_model.specs.declared.delays.Delays.{Delays}
use Rattle.sat_rows.specs.Chains.{Chain, IsBound}

-- Of a satellite that was observed at a time, in ps: whether it is usable in a search box (None) or
-- why it isn't, and what is allowed of it as seen from a point. Of any satellite: the sum of the
-- spans that are declared for its error. Of all of them: the spans of the delays straight up that
-- are mapped and added to these, in um, where they are declared.
pub record Meaning : Type 1 where
  pub judged : GridBox → ℤ → SatObs → Option Skip → Type 0
  pub allows : ℤ → SatObs → Pos → Chain → Type 0
  pub declared : Sat → ℤ × ℤ
  pub delays : Delays

-- A satellite is judged in one way, something is allowed of a usable one at each point of a search
-- box, the range of what is allowed is that from the point to the place, and its ends of the error
-- are the declared ones with each delay added, both ends by one mapping. The delays straight up are
-- within 10 m and 100 m.
pub record IsSound (m : Meaning) : Type 0 where
  pub one_judgement : (root : GridBox) (tag : ℤ) (seen : SatObs) (a b : Option Skip)
      → m.judged root tag seen a → m.judged root tag seen b → a ≡ b
  pub allowed_exists : (root : GridBox) (tag : ℤ) (seen : SatObs) (p : Pos) → IsSearchBox root
      → box_holds root p ≡ true → m.judged root tag seen None
      → (c : Chain) × m.allows tag seen p c
  pub range_is : (tag : ℤ) (seen : SatObs) (p : Pos) (c : Chain)
      → m.allows tag seen p c → c.range ≡ range_to c.x c.y c.z p
  pub bound_is : (tag : ℤ) (seen : SatObs) (p : Pos) (c : Chain)
      → m.allows tag seen p c → IsBound m.delays (m.declared seen.sat) p c
  pub delays_within : AreDelays m.delays
