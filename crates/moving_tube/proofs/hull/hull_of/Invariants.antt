use Rattle.std.proofs.Common.{◌≡◌, drop, map}
use Rattle.subpaving.specs.LiveValues.{box_option}
use Rattle.grid_model.specs.Boxes.{grid_box}
use Rattle.moving_tube.specs.Hulls.{hull_behind, hull_of}
use Rattle.moving_tube.proofs.hull.hull_of.Given as goal

-- the hull so far with the boxes that are left is that of all
abbrev pub invariant-loop-part : goal.invariant-loop-part
invariant-loop-part l =
    hull_behind (box_option l.hull) (map grid_box (drop l.part-index l.boxes)) ≡ hull_of (map grid_box l.boxes)
