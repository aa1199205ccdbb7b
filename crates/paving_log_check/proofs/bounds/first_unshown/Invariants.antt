use Rattle.std.proofs.Common.{drop, map}
use Rattle.grid_model.specs.Boxes.{grid_box}
use Rattle.row_pairs.specs.FormValues.{form_value}
use Rattle.sat_model.specs.Events.{rows_over}
use Rattle.paving_log.specs.Values.{bound_value, body_value}
use Rattle.paving_log_check.specs.FormBounds.{AreFormsOver}
use Rattle.paving_log_check.proofs.BoundLemmas.{IsOnTheWay}
use Rattle.paving_log_check.proofs.bounds.first_unshown.Given as goal

abbrev pub invariant-loop-bound : goal.invariant-loop-bound
invariant-loop-bound l = IsOnTheWay l.q (rows_over (grid_box l.root) l.firsts) (body_value l.body).events (grid_box l.fn.hull)
    (body_value l.body).bounds l.line l.next (grid_box l.hull) (map bound_value (drop l.bound-index l.body.bounds.items))
    × AreFormsOver (rows_over (grid_box l.root) l.firsts) (body_value l.body).events (grid_box l.hull) (map form_value l.forms.items)
