use Rattle.std.proofs.Common.{arith, ap, map, length, sym, ◌∙◌}
use Rattle.grid_model.specs.Boxes.{grid_box}
use Rattle.sat_model.specs.Events.{rows_over}
use Rattle.sat_model.specs.Pairs.{form_of}
use Rattle.paving_log.specs.Values.{body_value}
use Rattle.paving_log_check.proofs.BoundLemmas.{few_over}
use Rattle.paving_log_check.proofs.bounds.forms_for.Goals as goal

pub forms_of-requires : goal.forms_of-requires
forms_of-requires c =
    let (over, are, is) = c.rows_for.ensures in
    let few = few_over (grid_box c.args.hull.now) (rows_over (grid_box c.args.root.now) c.args.firsts.now) (body_value c.args.body.now).events over are
    c.requires.firsts c.requires.lasts in
    (omega arith, omega (arith, few, ap length is))

pub returns : goal.returns
returns c =
    let (over, are, is) = c.rows_for.ensures in
    record { over = over; are_over = are; formed = c.forms_of.ensures ∙ ap (map (form_of (grid_box c.args.hull.now))) (sym is) }
