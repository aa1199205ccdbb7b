use Rattle.std.proofs.Common.{inr, refl, sym}
use Rattle.grid_model.specs.Boxes.{grid_box}
use Rattle.paving_log_check.proofs.steps.outside_fault.Goals as goal

pub returns-then-not-is_empty-clause-fault : goal.returns-then-not-is_empty-clause-fault
returns-then-not-is_empty-clause-fault c rules =
    inr (grid_box c.in-Some.part, sym c.in-Some.ensures, λ h. cc (c.is_empty.ensures.empty.1 h), refl)

pub returns-clause-fault : goal.returns-clause-fault
returns-clause-fault c rules = (grid_box c.in-Some.part, sym c.in-Some.ensures, c.is_empty.ensures.empty.0 c.if-not-is_empty.false)
