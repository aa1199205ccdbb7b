-- The earth turns while the signal is under way, so the place that the satellite had when it sent
-- is turned into the frame of the time of reception (IS-GPS-200, 20.3.3.4.3.3.2 and 20.3.3.4.3.4).
-- The flight time is found in two rounds, each from the range of the round before.
use Rattle.std.specs.Prelude.{ℕ, ◌≡◌, ◌^◌, ◌*◌, ℤ, pos, ◌*ℤ◌}
use Rattle.gnss_model.specs.EarthModel.{earth_rate, light_speed}
use Rattle.grid_model.specs.Ranges.{range_to}
use Rattle.gnss_model.specs.OrbitChain.{IsSumOf, IsDifferenceOf}
use Rattle.grid_model.specs.Rounding.{Near}
use Rattle.grid_model.specs.Sines.{Sine, Cosine}
use Rattle.grid_model.specs.declared.boxes.Pos.{Pos}

-- the earth turns by this angle while light goes a range in um
abbrev pub IsEarthAngle : ℕ → ℤ → Type 0
IsEarthAngle range angle = Near (pos earth_rate *ℤ pos range) (pos (light_speed * 10 ^ 12)) angle

-- x, y turned by the flight time over a range is new_x, new_y
pub record IsTurnedOver (range : ℕ) (x y new_x new_y : ℤ) : Type 0 where
  pub angle : ℤ
  pub angle_is : IsEarthAngle range angle
  pub cos_angle : ℤ
  pub cos_angle_is : Cosine angle cos_angle
  pub sin_angle : ℤ
  pub sin_angle_is : Sine angle sin_angle
  pub x_is : IsSumOf x cos_angle y sin_angle new_x
  pub y_is : IsDifferenceOf y cos_angle x sin_angle new_y

-- x, y, z is the place when the signal was sent; seen from p it is turned_x, turned_y, z at this
-- range
pub record Turn (p : Pos) (x y z turned_x turned_y : ℤ) (range : ℕ) : Type 0 where
  pub first_x : ℤ
  pub first_y : ℤ
  pub first_is : IsTurnedOver (range_to x y z p) x y first_x first_y
  pub second_is : IsTurnedOver (range_to first_x first_y z p) x y turned_x turned_y
  pub range_is : range ≡ range_to turned_x turned_y z p
