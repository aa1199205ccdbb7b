-- The events that steps and renewals stand for.
use Rattle.std.specs.Prelude.{List}
use Rattle.sat_model.specs.Events.{Event}
use Rattle.step_lines.specs.Steps.{steps_of}
use Rattle.paving_log.specs.declared.events.Events.{Events}
use Rattle.paving_log.specs.Renewing.{events_from}

abbrev pub events_of : Events → List Event
events_of e = events_from 0 (steps_of e.steps) e.renewals.items
