use Rattle.std.proofs.Common.{take}
use Rattle.step_lines.specs.Texts.{AreWritten}
use Rattle.step_lines.proofs.steps.LoggedSteps.from_slice.Given as goal

-- the lines of the steps so far
abbrev pub invariant-loop-step : goal.invariant-loop-step
invariant-loop-step l = AreWritten l.text.items (take l.step-index l.steps)
