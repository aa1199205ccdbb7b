-- What the equations allow of one satellite: its place and range as seen from a point, and the
-- corrected pseudorange.
use Rattle.std.specs.Prelude.{ℕ, ◌≡◌, ℤ}
use Rattle.gnss_model.specs.ClockChain.{ClockChainOf}
use Rattle.gnss_model.specs.MeanMotion.{MeanMotionOf}
use Rattle.gnss_model.specs.OrbitChain.{OrbitChain}
use Rattle.gnss_model.specs.Pseudorange.{Codes, is_single, IsRangeOf, IsSent, IsCorrected}
use Rattle.gnss_model.specs.Turn.{Turn}
use Rattle.grid_model.specs.declared.boxes.Pos.{Pos}
use Rattle.gnss_model.specs.declared.elements.Elements.{Elements}
use Rattle.gnss_model.specs.declared.systems.System.{System}

-- what is known of a satellite: its system, when its signal was received by the receiver's clock,
-- in ps, the codes that were measured, and its ephemeris
pub record Observed : Type 0 where
  pub system : System
  pub tag : ℤ
  pub codes : Codes
  pub el : Elements

-- the place x, y, z, turned into the frame of the reception at p, the corrected pseudorange, and
-- the range: one whole number for each printed equation from the codes on
pub record ChainValue (seen : Observed) (p : Pos) (x y z corrected : ℤ) (range : ℕ) : Type 0 where
  pub pr : ℤ
  pub pr_is : IsRangeOf seen.system seen.codes pr
  pub tsv : ℤ
  pub tsv_is : IsSent seen.tag pr tsv
  pub n : ℤ
  pub n_is : MeanMotionOf seen.system seen.el n
  pub dt : ℤ
  pub t : ℤ
  pub clock : ClockChainOf seen.system seen.el (is_single seen.codes) n tsv dt t
  -- sqrt(A) of the relativistic correction is that of the mean motion
  pub one_root : clock.f.root_a ≡ n_is.root_a
  pub corrected_is : IsCorrected pr dt corrected
  pub sent_x : ℤ
  pub sent_y : ℤ
  pub orbit : OrbitChain seen.el n t sent_x sent_y z
  pub turn : Turn p sent_x sent_y z x y range
