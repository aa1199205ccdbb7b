-- A layer of the air delays a signal more, the nearer to the horizon its satellite stands: by its
-- delay straight up times a factor that goes by the elevation E. The troposphere's is 1.001 /
-- sqrt(0.002001 + sin^2 E), the mapping of Black and Eisner (Journal of Geophysical Research 89,
-- 1984), as RTCA DO-229 prints it in appendix A.4.2.4; the ionosphere's is that of a thin shell in
-- A.4.4.10.4. Both are one equation over other constants (`Layers`). The up direction at a point is
-- this project's own choice: it is that from the earth's centre, with z scaled for the ellipsoid of
-- WGS 84, which is the ellipsoid's normal at its own points. Each printed equation has one named
-- whole number, within one unit of its fraction. Lengths are in um, ratios in 10^-16.
use Rattle.std.specs.Prelude.{ℕ, ◌≡◌, ◌+◌, ◌*◌, ◌/◌, ◌^◌, ℤ, pos, ◌+ℤ◌, ◌-ℤ◌, ◌*ℤ◌, nat_abs}
use Rattle.grid_model.specs.Amounts.{square}
use Rattle.grid_model.specs.Angles.{unit}
use Rattle.gnss_model.specs.Layers.{layer_scale, layer_floor, layer_part, layer_whole}
use Rattle.gnss_model.specs.OrbitChain.{IsProduct}
use Rattle.gnss_model.specs.declared.delays.Layer.{Layer}
use Rattle.grid_model.specs.Roots.{root}
use Rattle.grid_model.specs.Rounding.{Near}
use Rattle.grid_model.specs.Squares.{sum_of_squares}
use Rattle.grid_model.specs.declared.boxes.Pos.{Pos}

-- 1 / (1 - f)^2 for the flattening f = 1 / 298.257223563 of WGS 84, in 10^-14
abbrev pub up_scale : ℕ
up_scale = 100673949674228

-- z / (1 - f)^2, which takes the place of z in the up direction
abbrev pub IsRaised : ℤ → ℤ → Type 0
IsRaised z raised = Near (z *ℤ pos up_scale) (pos (10 ^ 14)) raised

-- a part of a vector of a length, as a ratio
abbrev pub IsRatio : ℤ → ℕ → ℤ → Type 0
IsRatio part length ratio = Near (part *ℤ pos unit) (pos length) ratio

-- the amount of a sine times the layer's factor, 1 or F, cut off
abbrev pub layer_sine : Layer → ℕ → ℕ
layer_sine layer amount = amount * layer_part layer / layer_whole layer

-- sqrt(0.002001 + sin^2 E), or sqrt(1 - F^2 + (F sin E)^2), cut off, for a sine
abbrev pub slant_of : Layer → ℤ → ℕ
slant_of layer sine = root (layer_floor layer + square (layer_sine layer (nat_abs sine)))

-- 1.001, or 1, over a slant
abbrev pub IsMapped : Layer → ℕ → ℤ → Type 0
IsMapped layer slant factor =
    Near (pos (layer_scale layer * (unit * unit))) (pos (1000 * slant)) factor

-- seen from p, a satellite at x, y, z, at this range, has `factor` times the delay straight up
pub record Mapping (layer : Layer) (p : Pos) (x y z : ℤ) (range : ℕ) (factor : ℤ) : Type 0 where
  -- the up direction at p
  pub raised_z : ℤ
  pub raised_z_is : IsRaised p.z raised_z
  pub up_length : ℕ
  pub up_length_is : up_length ≡ root (sum_of_squares p.x p.y raised_z)
  pub up_x : ℤ
  pub up_x_is : IsRatio p.x up_length up_x
  pub up_y : ℤ
  pub up_y_is : IsRatio p.y up_length up_y
  pub up_z : ℤ
  pub up_z_is : IsRatio raised_z up_length up_z
  -- the direction of the satellite
  pub line_x : ℤ
  pub line_x_is : IsRatio (x -ℤ p.x) range line_x
  pub line_y : ℤ
  pub line_y_is : IsRatio (y -ℤ p.y) range line_y
  pub line_z : ℤ
  pub line_z_is : IsRatio (z -ℤ p.z) range line_z
  -- sin E, the product of both directions
  pub sine : ℤ
  pub sine_is : Near (((up_x *ℤ line_x) +ℤ (up_y *ℤ line_y)) +ℤ (up_z *ℤ line_z)) (pos unit) sine
  -- 1.001 / sqrt(0.002001 + sin^2 E), or 1 / sqrt(1 - F^2 + (F sin E)^2)
  pub factor_is : IsMapped layer (slant_of layer sine) factor

-- a delay straight up, mapped
abbrev pub IsMappedDelay : ℤ → ℤ → ℤ → Type 0
IsMappedDelay upward factor delay = IsProduct upward factor delay
