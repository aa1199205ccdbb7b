-- A half-space in a direction.
use Rattle.std.specs.Prelude.{◌≡◌}
use Rattle.sat_model.specs.declared.half_spaces.HalfSpace.{HalfSpace}
use Rattle.bound_directions.specs.declared.direction.Direction.{Direction}

-- its vector is the direction
abbrev pub IsAlong : Direction → HalfSpace → Type 0
IsAlong d h = (h.x ≡ d.x) × (h.y ≡ d.y) × (h.z ≡ d.z)
