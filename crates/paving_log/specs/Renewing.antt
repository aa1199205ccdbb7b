-- Renewals, each with the number of steps before it, and the steps among which they stand.
use Rattle.std.specs.Prelude.{ℕ, ◌-◌, ◌≤◌, List, [], ◌∷◌, ◌++◌, length, take, drop}
use Rattle.std.specs.Coded.{×_prop, le_prop}
use Rattle.sat_model.specs.declared.steps.Step.{Step}
use Rattle.grid_model.specs.Boxes.{grid_box}
use Rattle.sat_model.specs.Events.{Event, Renewed, RowsOver, rows_over, made_all}
use Rattle.step_lines.specs.Steps.{steps_of}
use Rattle.step_lines.specs.declared.steps.LoggedSteps.{LoggedSteps}
use Rattle.paving_log.specs.declared.renewal.Renewal.{Renewal}

-- the places don't fall, from one number of steps up to another
abbrev pub Rise : ℕ → List Renewal → ℕ → Type 0
Rise from [] to = from ≤ to
Rise from (r ∷ more) to = (from ≤ r.at) × Rise r.at more to

pub Rise-prop : (from : ℕ) (rs : List Renewal) (to : ℕ) → IsProp (Rise from rs to)
Rise-prop from [] to = le_prop
Rise-prop from (r ∷ more) to = ×_prop le_prop (Rise-prop r.at more to)

-- they stand among the steps, in their order
abbrev pub AreAmong : LoggedSteps → List Renewal → Type 0
AreAmong steps rs = Rise 0 rs (length (steps_of steps))

pub AreAmong-prop : (steps : LoggedSteps) (rs : List Renewal) → IsProp (AreAmong steps rs)
AreAmong-prop steps rs = Rise-prop 0 rs (length (steps_of steps))

abbrev pub new_rows : Renewal → RowsOver
new_rows r = rows_over (grid_box r.part) r.rows.items

-- the events behind so many steps
abbrev pub events_from : ℕ → List Step → List Renewal → List Event
events_from from steps [] = made_all steps
events_from from steps (r ∷ more) = made_all (take (r.at - from) steps)
    ++ Renewed (new_rows r) ∷ events_from r.at (drop (r.at - from) steps) more
