use Rattle.std.proofs.Common.{ap, sym, ◌∙◌}
use Rattle.grid_model.specs.Boxes.{grid_box}
use Rattle.subpaving.specs.LiveValues.{box_option}
use Rattle.log_writer.proofs.last_renewal.last_renewal.Goals as goal

pub rows_anew-requires-clause-inside : goal.rows_anew-requires-clause-inside
rows_anew-requires-clause-inside g c = c.requires.inside (sym c.active.ensures ∙ c.if-not-active.false) (grid_box c.in-Some.part) (ap box_option c.in-Some.is)
