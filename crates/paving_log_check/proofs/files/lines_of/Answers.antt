use Rattle.std.proofs.Common.{arith, ap, map}
use Rattle.sat_model.specs.Bounds.{lines_of_bounds}
use Rattle.sat_model.specs.Logs.{lines_of_body}
use Rattle.paving_log.specs.Values.{bound_value, body_option}
use Rattle.paving_log_check.proofs.files.lines_of.Goals as goal

pub event_lines-requires : goal.event_lines-requires
event_lines-requires c = omega (arith, c.requires, ap (λ o. lines_of_body (body_option o)) c.in-Some.is)

pub bound_lines-requires : goal.bound_lines-requires
bound_lines-requires c =
    omega (arith, c.requires, ap (λ o. lines_of_body (body_option o)) c.in-Some.is, ap (λ bs. lines_of_bounds (map bound_value bs)) c.deref.ensures.value)
