-- What stands behind the root of an epoch: its steps, and among them renewals of its rows. A row
-- that is formed for a smaller box is narrower.
use Rattle.std.specs.Prelude.{ℕ, ◌+◌, List, [], ◌∷◌, length}
use Rattle.sat_model.specs.declared.rows.Row.{Row}
use Rattle.sat_model.specs.declared.steps.Step.{Step}
use Rattle.grid_model.specs.Boxes.{GridBox}

-- rows, and the box over which they hold what the measurements allow
pub record RowsOver : Type 0 where
  pub part : GridBox
  pub rows : List Row

abbrev pub rows_over : GridBox → List Row → RowsOver
rows_over part rows = record { part = part; rows = rows }

-- a step, or rows by which boxes are tested from there on
pub data Event : Type 0 where
  Made : Step → Event
  Renewed : RowsOver → Event

-- the steps alone: a renewal changes no box
abbrev pub steps_in : List Event → List Step
steps_in [] = []
steps_in (Made step ∷ events) = step ∷ steps_in events
steps_in (Renewed new ∷ events) = steps_in events

-- the renewals alone
abbrev pub renewals_in : List Event → List RowsOver
renewals_in [] = []
renewals_in (Made step ∷ events) = renewals_in events
renewals_in (Renewed new ∷ events) = new ∷ renewals_in events

-- steps without renewals
abbrev pub made_all : List Step → List Event
made_all [] = []
made_all (step ∷ steps) = Made step ∷ made_all steps

-- a step has one line, a renewal one for its box and one for each row
abbrev pub lines_of : Event → ℕ
lines_of (Made step) = 1
lines_of (Renewed new) = 1 + length new.rows

abbrev pub lines_of_all : List Event → ℕ
lines_of_all [] = 0
lines_of_all (event ∷ events) = lines_of event + lines_of_all events
