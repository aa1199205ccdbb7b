use Rattle.std.proofs.Common.{map, take}
use Rattle.grid_model.specs.Boxes.{grid_box}
use Rattle.row_pairs.specs.FormValues.{form_value}
use Rattle.log_writer.specs.Found.{AreFormsOver, WroteFound}
use Rattle.log_writer.specs.InUse.{rows_value}
use Rattle.log_writer.specs.Writing.{Trusts, done}
use Rattle.log_writer.proofs.bounds.put_each.Given as goal

abbrev pub invariant-loop-direction : goal.invariant-loop-direction
invariant-loop-direction g l = record {
  found : WroteFound l.first (rows_value l.used) l.outliers (take l.direction-index l.directions) (grid_box l.fn.left.hull) (grid_box l.left.hull) (g.P.Pen.seen l.fn.pen) done (g.P.Pen.seen l.pen);
  forms : AreFormsOver l.first (rows_value l.used) (grid_box l.left.hull) (map form_value l.left.forms.items);
  trust : Trusts (g.P.Pen.trust l.fn.pen) done (g.P.Pen.trust l.pen);
}
