-- Along which directions the bounds of an epoch are sought.
use Rattle.std.specs.Prelude.{◌≡◌, ℕ, ◌+◌, List, length}
use Rattle.bound_directions.specs.declared.direction.Direction.{Direction}
use Rattle.bound_directions.specs.declared.directions.Azimuths.{Azimuths}
use Rattle.bound_directions.specs.declared.directions.Azimuths.TheVariants.{Four, Eight, Sixteen}
use Rattle.bound_directions.specs.declared.directions.Directions.{Directions}
use Rattle.bound_directions.specs.declared.directions.Directions.TheVariants as by

-- how many azimuths are named
abbrev pub azimuth_count : Azimuths → ℕ
azimuth_count Four = 4
azimuth_count Eight = 8
azimuth_count Sixteen = 16

-- the vectors that are given, in order, or as many as there are azimuths, up and down
abbrev pub IsDirectionsOf : Directions → List Direction → Type 0
IsDirectionsOf (by.Azimuths named) list = length list ≡ azimuth_count named + 2
IsDirectionsOf (by.Vectors given) list = list ≡ given.items
