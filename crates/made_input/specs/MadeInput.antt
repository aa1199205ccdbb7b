-- The input that is made of a seed and a number of epochs: its texts, and what their readers take
-- them for.
use Rattle.std.specs.Prelude.{ℕ, ◌≡◌, false, None, List, map, length}
use Rattle.toml.specs.Text.{IsDocumentText}
use Rattle.rinex_nav.specs.Files.{IsNavFile}
use Rattle.rinex_obs.specs.Files.{IsObsFile}
use Rattle.error_bounds.specs.Texts.{IsSettings}
use Rattle.gnss_model.specs.declared.satellites.Signal.TheVariants.{Single}
use Rattle.made_texts.specs.TextLines.{text_of}
use Rattle.made_texts.specs.NavText.{nav_lines, broadcast_of}
use Rattle.made_texts.specs.ObsText.{obs_lines, observed_from, code_c1c}
use Rattle.made_texts.specs.SettingsText.{settings_table, settings_of}
use Rattle.made_texts.specs.declared.ephemeris.Ephemeris.{Ephemeris}
use Rattle.made_texts.specs.declared.sat_codes.EpochCodes.{EpochCodes}
use Rattle.made_input.specs.MadeRecords.{made_records, AllWellWritten}
use Rattle.made_input.specs.MadeCodes.{place_of, centre_x, centre_y, centre_z, AreMadeEpochs}
use Rattle.made_input.specs.declared.made.Made.{Made}

pub record IsMade (seed count : ℕ) (made : Made) : Type 0 where
  pub place : made.place ≡ place_of seed
  -- the navigation file has the records of the eight satellites
  pub records : List Ephemeris
  pub records_are : map broadcast_of records ≡ made_records seed
  pub well_written : AllWellWritten records
  pub nav : made.nav.items ≡ text_of (nav_lines records)
  pub nav_accepted : IsNavFile made.nav.items (made_records seed)
  -- the observation file has so many epochs
  pub epochs : List EpochCodes
  pub count_is : length epochs ≡ count
  pub epochs_are : AreMadeEpochs seed 0 epochs
  pub obs : made.obs.items ≡ text_of (obs_lines epochs)
  pub obs_accepted : IsObsFile (Single code_c1c) false made.obs.items (record {
    position = None;
    epochs = observed_from 1 epochs;
  })
  -- the settings have the centre of the search box, and for the rest are always the same
  pub settings : IsDocumentText false (settings_table (centre_x seed) (centre_y seed) (centre_z
      seed)) made.settings.items
  pub settings_accepted : IsSettings made.settings.items (settings_of (centre_x seed) (centre_y
      seed) (centre_z seed))
