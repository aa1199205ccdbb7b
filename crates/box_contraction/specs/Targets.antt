-- What a target says of each face.
use Rattle.grid_model.specs.Boxes.{grid_box}
use Rattle.box_contraction.specs.Cuts.{Bounds, proposed, eighths}
use Rattle.box_contraction.specs.declared.target.Target.{Target}
use Rattle.box_contraction.specs.declared.target.Target.TheVariants.{Proposal, Eighths}

-- where it may be moved to
abbrev pub bounds_of : Target → Bounds
bounds_of (Proposal part) = proposed (grid_box part)
bounds_of Eighths = eighths
