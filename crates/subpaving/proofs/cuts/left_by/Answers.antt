use Rattle.std.proofs.Common.{w64}
use Rattle.std.proofs.lemmas.Int.{to_z-of_z}
use Rattle.grid_model.specs.Boxes.{grid_box}
use Rattle.subpaving.proofs.CutLemmas.{left_high}
use Rattle.subpaving.proofs.cuts.left_by.Goals as goal

pub returns-else-face-eq0 : goal.returns-else-face-eq0
returns-else-face-eq0 c =
    left_high c.args.face c.args.bound (grid_box c.args.part.now) _ c.if-face-eq0.false (rw (to_z-of_z w64 c.args.bound c.ranges.bound) at c.up_to.ensures)
