use Rattle.std.proofs.Common.{sym, arith}
use Rattle.grid_model.specs.Boxes.{grid_box}
use Rattle.paving_log_check.proofs.steps.split_fault.Goals as goal

pub returns : goal.returns
returns c test = (grid_box c.in-Some.part, sym c.in-Some.ensures, c.is_long.ensures.0 c.if-not-is_long.false, omega (arith, c.splits.ensures))
