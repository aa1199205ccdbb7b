-- The near root is at most the far root.
use Rattle.std.proofs.Common.{◌≤◌}
use Rattle.sat_model.specs.declared.rows.Row.{Row}
use Rattle.grid_model.specs.declared.boxes.Box3.{Box3}
use Rattle.grid_model.specs.Boxes.{grid_box}
use Rattle.sat_model.specs.ClockSpans.{near_square, far_square, near_of, far_of}
use Rattle.grid_model.proofs.RootLemmas.{root_is, root_mono, sum_mono}
use Rattle.grid_model.proofs.AmountLemmas.{least_le_greatest}

pub near_le_far : (row : Row) (part : Box3)
    → near_of row (grid_box part) ≤ far_of row (grid_box part)
unfolding near_of far_of
near_le_far row part =
    root_mono (near_square row (grid_box part)) (far_square row (grid_box part)) _ _ (root_is _) (root_is _)
    (sum_mono _ _ _ _ _ _
    (least_le_greatest _ _ _ _ row.x.ordered part.x_ordered)
    (least_le_greatest _ _ _ _ row.y.ordered part.y_ordered)
    (least_le_greatest _ _ _ _ row.z.ordered part.z_ordered))
