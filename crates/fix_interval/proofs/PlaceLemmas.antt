-- Coordinates of a place within wider bounds.
use Rattle.std.proofs.Common.{ℕ, ◌≤◌}
use Rattle.grid_model.proofs.EndsLemmas.{wider_ends}
use Rattle.fix_interval.specs.Places.{PlaceEnds}
use Rattle.fix_interval.specs.declared.place.Place.{Place}

pub wider_place : (m n v w : ℕ) (at : Place) → m ≤ n → v ≤ w → PlaceEnds m v at → PlaceEnds n w at
wider_place m n v w at h k e = record {
  x_ends = wider_ends m n v w at.x.lo at.x.hi h k e.x_ends;
  y_ends = wider_ends m n v w at.y.lo at.y.hi h k e.y_ends;
  z_ends = wider_ends m n v w at.z.lo at.z.hi h k e.z_ends;
}
