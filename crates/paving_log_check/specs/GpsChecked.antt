-- What is said of a log that was checked against an observation file, settings and what is said of
-- satellites, by a navigation file and the settings.
use Rattle.std.specs.Prelude.{ℕ, List}
use Rattle.epoch_selection.specs.Searches.{searches_in}
use Rattle.epoch_selection.specs.Selections.{selected}
use Rattle.epoch_selection.specs.declared.selection.Selection.{Selection}
use Rattle.error_bounds.specs.Reading.{centre_with, IsRoot}
use Rattle.error_bounds.specs.declared.settings.Settings.{Settings}
use Rattle.rinex_nav.specs.declared.record.NavRecord.{NavRecord}
use Rattle.rinex_obs.specs.declared.obs.Obs.{Obs}
use Rattle.grid_model.specs.Boxes.{GridBox}
use Rattle.sat_model.specs.Logs.{LogValue}
use Rattle.sat_rows.specs.Meanings.{Meaning}
use Rattle.sat_rows.specs.Sources.{gps_meaning}
use Rattle.paving_log_check.specs.Checked.{IsAccepted, IsRefused}
use Rattle.paving_log_check.specs.declared.verdict.Fault.{Fault}

-- the selected epochs, each in the search box of the settings, for the log of which the facts below
-- speak
module _ (m : Meaning) (obs : Obs) (settings : Settings) (selection : Selection)
    (log : LogValue) where
  -- it is accepted, with so many boxes
  pub record IsFileAccepted (boxes : ℕ) : Type 0 where
    pub root : GridBox
    pub is_root : IsRoot (centre_with obs.position settings.centre) settings.half root
    pub accepted : IsAccepted m
        (searches_in root (selected selection obs.epochs.items)) settings.rules log boxes

  -- this is its first fault
  pub record IsFileRefused (fault : Fault) : Type 0 where
    pub root : GridBox
    pub is_root : IsRoot (centre_with obs.position settings.centre) settings.half root
    pub refused : IsRefused m (searches_in root (selected selection obs.epochs.items))
        settings.rules log fault

-- the same of GPS satellites alone
abbrev pub IsGpsAccepted : Obs → List NavRecord → Settings → Selection → LogValue → ℕ → Type 0
IsGpsAccepted obs records settings selection log boxes =
    IsFileAccepted (gps_meaning records settings) obs settings selection log boxes

abbrev pub IsGpsRefused : Obs → List NavRecord → Settings → Selection → LogValue → Fault → Type 0
IsGpsRefused obs records settings selection log fault =
    IsFileRefused (gps_meaning records settings) obs settings selection log fault
