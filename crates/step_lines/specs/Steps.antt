-- The steps that a text tells.
use Rattle.std.specs.Prelude.{List, [], Option, None, Some, slice_range}
use Rattle.sat_model.specs.declared.steps.Step.{Step}
use Rattle.step_lines.specs.declared.ahead.StepsAhead.{StepsAhead}
use Rattle.step_lines.specs.declared.steps.LoggedSteps.{LoggedSteps}
use Rattle.step_lines.specs.declared.steps.Part.{Part}
use Rattle.step_lines.specs.Texts.{told_steps}

abbrev pub steps_in_part : Option Part → List Step
steps_in_part None = []
steps_in_part (Some part) =
    told_steps (slice_range part.text.value.items part.from part.to) part.counted.0

abbrev pub steps_of : LoggedSteps → List Step
steps_of logged = steps_in_part logged.part

-- those that are left
abbrev pub steps_left : StepsAhead → List Step
steps_left ahead = told_steps ahead.text.now ahead.found
