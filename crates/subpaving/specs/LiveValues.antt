-- The subpaving that live boxes stand for.
use Rattle.std.specs.Prelude.{◌/◌, length, map, Option, None, Some}
use Rattle.grid_model.specs.declared.boxes.Box3.{Box3}
use Rattle.grid_model.specs.Boxes.{GridBox, grid_box}
use Rattle.sat_model.specs.Fold.{Subpaving}
use Rattle.subpaving.specs.declared.live.Live.{Live}

abbrev pub box_option : Option Box3 → Option GridBox
box_option None = None
box_option (Some part) = Some (grid_box part)

-- the root has a number, and each split gave two more
abbrev pub live_value : Live → Subpaving
live_value live =
    record { live = map box_option live.boxes.items; splits = length live.boxes.items / 2 }
