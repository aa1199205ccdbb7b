-- The mean motion (IS-GPS-200, table 20-IV).
use Rattle.std.specs.Prelude.{ℕ, ◌≡◌, ◌+◌, ◌*◌, ◌^◌, ℤ, pos, ◌+ℤ◌, ◌*ℤ◌, ◌≤ℤ◌, ◌<ℤ◌}
use Rattle.gnss_model.specs.RecordBounds.{IsValue}
use Rattle.gnss_model.specs.Systems.{gravity_of}
use Rattle.grid_model.specs.Taylor.{power}
use Rattle.gnss_model.specs.declared.elements.Elements.{Elements}
use Rattle.gnss_model.specs.declared.systems.System.{System}
use Rattle.gnss_model.specs.declared.systems.System.TheVariants.{Gps}

-- n0 = sqrt(mu / A^3), in 10^-22 rad/s, cut off: by A = S^2, the square of n0 S^3 is mu. With S in
-- 10^-12 m^(1/2) that is mu 10^116.
pub record IsMotionOf (system : System) (root_a : ℤ) (n0 : ℕ) : Type 0 where
  pub low : (pos (n0 * n0) *ℤ power root_a 6) ≤ℤ pos (gravity_of system * 10 ^ 116)
  pub high : pos (gravity_of system * 10 ^ 116) <ℤ (pos ((n0 + 1) * (n0 + 1)) *ℤ power root_a 6)

-- n is a mean motion of the ephemeris of a system's satellite
pub record MeanMotionOf (system : System) (el : Elements) (n : ℤ) : Type 0 where
  pub root_a : ℤ
  pub dn : ℤ
  pub root_a_is : IsValue el.root_a root_a
  pub dn_is : IsValue el.dn dn
  -- n0 = sqrt(mu / A^3)
  pub n0 : ℕ
  pub n0_is : IsMotionOf system root_a n0
  -- n = n0 + dn
  pub n_is : n ≡ pos n0 +ℤ dn

abbrev pub MeanMotion : Elements → ℤ → Type 0
MeanMotion el n = MeanMotionOf Gps el n
