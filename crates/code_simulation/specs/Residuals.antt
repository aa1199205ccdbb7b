-- Residuals: what the equations leave of a pseudorange by one code at a point, the corrected
-- pseudorange less the range.
use Rattle.std.specs.Prelude.{ℕ, ◌≡◌, ℤ, pos, ◌-ℤ◌, ◌*ℤ◌, ◌≤ℤ◌, true}
use Rattle.gnss_model.specs.ClockChain.{ClockChain}
use Rattle.gnss_model.specs.MeanMotion.{MeanMotion}
use Rattle.gnss_model.specs.OrbitChain.{OrbitChain}
use Rattle.gnss_model.specs.Pseudorange.{IsSent, IsCorrected}
use Rattle.gnss_model.specs.Turn.{Turn}
use Rattle.grid_model.specs.declared.boxes.Pos.{Pos}
use Rattle.gnss_model.specs.declared.elements.Elements.{Elements}

-- v is a residual at p of the pseudorange pr, in um, of a signal that came at tag: one whole number
-- for each printed equation from the pseudorange on
pub record Residual (el : Elements) (tag : ℤ) (p : Pos) (pr v : ℤ) : Type 0 where
  pub tsv : ℤ
  pub tsv_is : IsSent tag pr tsv
  pub n : ℤ
  pub n_is : MeanMotion el n
  pub dt : ℤ
  pub t : ℤ
  pub clock : ClockChain el true n tsv dt t
  -- sqrt(A) of the relativistic correction is that of the mean motion
  pub one_root : clock.f.root_a ≡ n_is.root_a
  pub corrected : ℤ
  pub corrected_is : IsCorrected pr dt corrected
  pub sent_x : ℤ
  pub sent_y : ℤ
  pub x : ℤ
  pub y : ℤ
  pub z : ℤ
  pub orbit : OrbitChain el n t sent_x sent_y z
  pub range : ℕ
  pub turn : Turn p sent_x sent_y z x y range
  pub residual_is : v ≡ corrected -ℤ pos range

-- the pseudorange in um of a code that is counted in mm from -20,000 km on
abbrev pub um_of : ℕ → ℤ
um_of code = (pos code *ℤ pos 1000) -ℤ pos 20000000000000

-- each residual of a code is at most, or at least, so much
abbrev pub ResidualsAtMost : Elements → ℤ → Pos → ℕ → ℤ → Type 0
ResidualsAtMost el tag p code most = (v : ℤ) → Residual el tag p (um_of code) v → v ≤ℤ most

abbrev pub ResidualsAtLeast : Elements → ℤ → Pos → ℕ → ℤ → Type 0
ResidualsAtLeast el tag p code least = (v : ℤ) → Residual el tag p (um_of code) v → least ≤ℤ v
