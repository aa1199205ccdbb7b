-- Kepler's equation, E = M + e sin E (IS-GPS-200, Table 20-IV), between whole numbers.
use Rattle.std.specs.Prelude.{ℤ, pos, ◌+ℤ◌, ◌-ℤ◌, ◌*ℤ◌, ◌≤ℤ◌}
use Rattle.grid_model.specs.Angles.{unit}
use Rattle.grid_model.specs.Sines.{Sine}

-- x brackets an eccentric anomaly of the mean anomaly m and the eccentricity e: x - e sin x is at
-- most m, and at least m one unit on
pub record Kepler (m e x : ℤ) : Type 0 where
  pub here : ℤ
  pub after : ℤ
  pub sine_here : Sine x here
  pub sine_after : Sine (x +ℤ pos 1) after
  pub below : ((x *ℤ pos unit) -ℤ (e *ℤ here)) ≤ℤ (m *ℤ pos unit)
  pub above : (m *ℤ pos unit) ≤ℤ (((x +ℤ pos 1) *ℤ pos unit) -ℤ (e *ℤ after))
