-- Where a log broke off in a turn. No public clause cites it.
use Rattle.std.specs.Prelude.{◌≡◌, ℕ, ◌⊎◌, Some}
use Rattle.grid_model.specs.Boxes.{GridBox}
use Rattle.sat_model.specs.declared.steps.Step.{Step}
use Rattle.sat_model.specs.Events.{RowsOver}
use Rattle.paving.specs.RenewalLines.{BrokeRows}
use Rattle.paving.specs.Taken.{TookAll, BrokeOff}
use Rattle.paving.specs.declared.steps.StepFault.{StepFault}
use Rattle.paving.specs.Turns.{Turn}

-- the steps were taken, and then the renewal behind them broke
pub record BrokeBehind {L : Type 0} (took : L → Step → GridBox → L → Type 0)
    (broke_rows : L → RowsOver → ℕ → L → Type 0) (room : L → ℕ) (fault : StepFault) (turn : Turn)
    (first last : L) : Type 0 where
  pub before : L
  pub taken : TookAll took first turn.steps before
  pub new : RowsOver
  pub is_new : turn.renewed ≡ Some new
  pub broke : BrokeRows broke_rows room fault before new last

-- a step of the turn broke, or the renewal behind them
abbrev pub BrokeTurn : {L : Type 0} → (L → Step → GridBox → L → Type 0)
    → (L → Step → GridBox → L → Type 0) → (L → RowsOver → ℕ → L → Type 0)
    → (L → ℕ) → StepFault → Turn → L → L → Type 0
BrokeTurn took broke broke_rows room fault turn first last =
    BrokeOff took broke room fault turn.steps first last
    ⊎ BrokeBehind took broke_rows room fault turn first last
