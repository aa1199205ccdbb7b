use Rattle.std.proofs.Common.{refl}
use Rattle.step_lines.proofs.LineLemmas.{one_steps}
use Rattle.step_lines.proofs.steps.LoggedSteps.of_lines.Goals as goal

pub returns : goal.returns
returns c = λ found. one_steps _ _ _ found refl
