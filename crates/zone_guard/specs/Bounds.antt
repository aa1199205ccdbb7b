-- The bounds of an epoch, as planes.
use Rattle.std.specs.Prelude.{List, [], map, Option, None, Some}
use Rattle.sat_model.specs.Bounds.{BoundValue}
use Rattle.sat_model.specs.Logs.{Body}
use Rattle.zone_guard.specs.Planes.{PlaneValue}

abbrev pub bound_plane : BoundValue → PlaneValue
bound_plane bound = record {
  along = record { x = bound.half.x; y = bound.half.y; z = bound.half.z };
  most = bound.half.most;
}

abbrev pub bound_planes : List BoundValue → List PlaneValue
bound_planes bounds = map bound_plane bounds

abbrev pub bounds_of : Option Body → List PlaneValue
bounds_of None = []
bounds_of (Some body) = bound_planes body.bounds
