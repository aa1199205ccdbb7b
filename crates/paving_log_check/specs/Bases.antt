-- The bases of which own rows can be formed over each part of a root, where these delays are
-- mapped.
use Rattle.std.specs.Prelude.{List}
use Rattle.std.specs.List.{AllByRecursion}
use Rattle.gnss_model.specs.Delays.{AreDelays}
use Rattle.gnss_model.specs.declared.delays.Delays.{Delays}
use Rattle.grid_model.specs.Boxes.{GridBox}
use Rattle.sat_rows.specs.Bases.{CanForm}
use Rattle.sat_rows.specs.declared.bases.Base.{Base}

pub record AreReady (delays : Delays) (root : GridBox) (bases : List Base) : Type 0 where
  pub within : AreDelays delays
  pub each : AllByRecursion (CanForm delays root) bases
