-- The satellites of a made receiver are usable, and its place fits each of its epochs, at clock
-- offset 0.
use Rattle.std.specs.Prelude.{pos, List}
use Rattle.std.specs.List.{AllByRecursion}
use Rattle.error_bounds.specs.declared.settings.Settings.{Settings}
use Rattle.rinex_nav.specs.declared.record.NavRecord.{NavRecord}
use Rattle.rinex_obs.specs.Epochs.{Observed}
use Rattle.grid_model.specs.Boxes.{GridBox}
use Rattle.grid_model.specs.declared.boxes.Pos.{Pos}
use Rattle.sat_rows.specs.Fitting.{Fits}
use Rattle.sat_rows.specs.Sources.{gps_meaning}
use Rattle.made_texts.specs.ObsText.{observed_from}
use Rattle.made_texts.specs.declared.sat_codes.EpochCodes.{EpochCodes}
use Rattle.usable_sats.specs.Usability.{sighting, IsUsable}

-- all but as many satellites of the epoch as the settings allow fit at p and clock offset 0, by the
-- records and the settings as they were read, in whatever box is searched
abbrev pub FitsAt : List NavRecord → Settings → Pos → Observed → Type 0
FitsAt records settings p epoch = (root : GridBox)
    → Fits (gps_meaning records settings) root epoch.tag settings.rules.outliers p (pos 0)
    epoch.sats

abbrev pub FitsInEach : List NavRecord → Settings → Pos → List EpochCodes → Type 0
FitsInEach records settings p epochs = AllByRecursion (FitsAt records settings p) (observed_from 1
    epochs)

-- each satellite of the epoch is usable, by the records and the settings as they were read; so its
-- code is there
abbrev pub AreUsable : List NavRecord → Settings → Observed → Type 0
AreUsable records settings epoch =
    AllByRecursion (λ seen. IsUsable (sighting records settings epoch.tag seen)) epoch.sats

abbrev pub AreUsableInEach : List NavRecord → Settings → List EpochCodes → Type 0
AreUsableInEach records settings epochs =
    AllByRecursion (AreUsable records settings) (observed_from 1 epochs)
