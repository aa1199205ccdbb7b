-- What `retrack` says of a log.
use Rattle.std.specs.Prelude.{◌≡◌, ℕ, List}
use Rattle.epoch_selection.specs.declared.selection.Selection.{Selection}
use Rattle.grid_model.specs.Boxes.{GridBox}
use Rattle.input_files.specs.declared.inputs.Inputs.{Inputs}
use Rattle.paving_log.specs.Values.{log_value}
use Rattle.paving_log_check.specs.Checked.{IsAccepted, IsRefused}
use Rattle.paving_log_check.specs.declared.verdict.Fault.{Fault}
use Rattle.sat_model.specs.Logs.{LogValue}
use Rattle.tube_searches.specs.Tubes.{tube_searches}
use Rattle.cover_run.specs.CheckTexts.{fault_text}
use Rattle.cover_run.specs.Solving.{meaning_of}
use Rattle.cover_run.specs.Texts.{yes_text}
use Rattle.cover_run.specs.Tracking.{FindsReceiver, IsTubeOf, tube_of}
use Rattle.cover_run.specs.declared.checked.Checked.{Checked}

module _ (chosen : Selection) (i : Inputs) (log : LogValue) where
  -- The log is admissible for own lines of each chosen epoch, each over the root that the one
  -- before leaves, up to the first in which the receiver is lost, or where the track begins anew to
  -- the last. In each of them that it gives as paved, what fits is covered, and each in box fits. So
  -- each trajectory that fits is found. It has so many in and edge boxes.
  pub record AcceptsTrack (boxes : ℕ) : Type 0 where
    pub search : GridBox
    pub speed : ℕ
    pub is_tube : IsTubeOf i search speed
    pub accepted : IsAccepted (meaning_of i)
        (tube_searches (tube_of chosen i search speed) log.blocks) i.settings.rules log boxes
    pub found : FindsReceiver chosen i search speed log
        (tube_searches (tube_of chosen i search speed) log.blocks)

  -- it isn't admitted by own lines of the first of them, and this is its first fault
  pub record RefusesTrack (fault : Fault) : Type 0 where
    pub search : GridBox
    pub speed : ℕ
    pub is_tube : IsTubeOf i search speed
    pub refused : IsRefused (meaning_of i)
        (tube_searches (tube_of chosen i search speed) log.blocks) i.settings.rules log fault

-- the line says so
abbrev pub SaysTracked : Selection → Checked → List ℕ → Type 0
SaysTracked chosen found line =
    (boxes : ℕ) × AcceptsTrack chosen found.inputs (log_value found.log) boxes ×
    (line ≡ yes_text boxes)

abbrev pub SaysUntracked : Selection → Checked → List ℕ → Type 0
SaysUntracked chosen found line =
    (fault : Fault) × RefusesTrack chosen found.inputs (log_value found.log) fault ×
    (line ≡ fault_text fault)
