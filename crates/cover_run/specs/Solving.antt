-- What `solve` writes.
use Rattle.std.specs.Prelude.{ℕ, List, [], length, Ok, Err, is_some, option_map}
use Rattle.sharpness_laws.specs.Left.{BlocksLeaveNothingClear, LogLeavesNothingClear}
use Rattle.command_words.specs.Commands.{Files}
use Rattle.epoch_rows.specs.EpochsLeft.{EpochsLeft, left_in, source_of}
use Rattle.epoch_selection.specs.Searches.{searches_in}
use Rattle.epoch_selection.specs.Selections.{selected}
use Rattle.epoch_selection.specs.declared.selection.Selection.{Selection}
use Rattle.error_bounds.specs.Reading.{centre_with, IsRoot}
use Rattle.input_files.specs.Inputs.{input_files}
use Rattle.input_files.specs.Reading.{NamedSlots}
use Rattle.input_files.specs.declared.inputs.Inputs.{Inputs}
use Rattle.input_files.specs.declared.station_file.StationFile.{StationFile}
use Rattle.input_files.specs.declared.status.Status.{Status}
use Rattle.log_writer.specs.Sizes.{most_bytes}
use Rattle.log_writer.specs.Sources.{Source}
use Rattle.log_writer.specs.Texts.{IsWhole, IsBegun}
use Rattle.log_writer.specs.Writing.{Trust}
use Rattle.log_writer.specs.declared.fault.WriteFault.{WriteFault}
use Rattle.paving_log_check.specs.Admissible.{Admits}
use Rattle.paving_log_check.specs.FileCover.{FileCover}
use Rattle.paving_log_check.specs.OwnLines.{OwnLines, AreOwn}
use Rattle.rinex_obs.specs.declared.obs.ObsEpoch.{ObsEpoch}
use Rattle.grid_model.specs.Boxes.{GridBox}
use Rattle.sat_rows.specs.Meanings.{Meaning}
use Rattle.station_epochs.specs.Stations.{Station}
use Rattle.station_rows.specs.Stations.{rows_meaning}
use Rattle.cover_run.specs.Chosen.{chosen_in}
use Rattle.cover_run.specs.Worlds.{World}
use Rattle.cover_run.specs.Writing.{Answer, Writes}

-- the chosen epochs of the file
abbrev pub epochs_of : Selection → Inputs → List ObsEpoch
epochs_of chosen i = selected chosen i.obs.epochs.items

-- a station whose file was read
abbrev pub station_in : StationFile → Station
station_in s = record { place = s.place; age = s.age; epochs = s.obs.epochs.items }

module _ (i : Inputs) where
  -- what the files say of satellites: of a receiver alone, or of the difference to a station
  abbrev pub meaning_of : Meaning
  meaning_of = rows_meaning i.nav i.settings (option_map station_in i.station)

  -- the epochs give their blocks in turn, and renew their rows where the settings say so, which ask
  -- for bounds in these directions, if in any
  abbrev pub epoch_source : Source EpochsLeft
  epoch_source =
      source_of meaning_of i.settings.rules.outliers i.settings.renew i.settings.directions

  -- the search box of the settings
  abbrev pub IsRootOf : GridBox → Type 0
  IsRootOf root = IsRoot (centre_with i.obs.position i.settings.centre) i.settings.half root

-- before the first of the chosen epochs, all of which are searched in this box
abbrev pub standing : Selection → Inputs → GridBox → EpochsLeft
standing chosen i root =
    left_in (epochs_of chosen i) (λ blocks. searches_in root (epochs_of chosen i))

-- the most bytes of their log
abbrev pub most_of : Selection → Inputs → ℕ
most_of chosen i = most_bytes (is_some i.settings.directions) (length (epochs_of chosen i))
    i.settings.rules.bisections

module _ (chosen : Selection) (i : Inputs) where
  -- The text of one log and its report, within the limit: each epoch's block has own lines, whose
  -- rows are wider by W at both ends, and by G at those of the ends of the error, over the search
  -- box of the settings, and is formed when the one before is paved; a row that is renewed is wider
  -- by W and G of its box. All own lines of the epochs admit it, also those of the first epochs
  -- alone; and in each epoch that it gives as paved, what fits is covered, and each in box fits. No
  -- box is split, or left at the edge, of which the true ranges and bounds make clear that nothing
  -- in it fits, or that all of it does.
  pub record IsSolved (limit : ℕ) (bytes said : List ℕ) : Type 0 where
    pub root : GridBox
    pub is_root : IsRootOf i root
    pub last : EpochsLeft
    pub whole : IsWhole (epoch_source i) i.settings.rules (standing chosen i root) last limit bytes
        said
    pub admits : (owns : List OwnLines)
        → AreOwn (meaning_of i) (searches_in root (epochs_of chosen i)) whole.log.blocks owns
        → Admits i.settings.delays (searches_in root (epochs_of chosen i)) owns i.settings.rules
        whole.log
    pub cover : FileCover (meaning_of i) i.settings.rules.outliers
        (searches_in root (epochs_of chosen i)) whole.log
    pub nothing_clear : LogLeavesNothingClear (meaning_of i) i.settings.renew i.settings.directions
        i.settings.rules (searches_in root (epochs_of chosen i)) whole.log.blocks

  -- what this fault left of both; its blocks, with the one in hand, leave nothing clear either
  pub record IsSolvedTo (fault : WriteFault) (limit : ℕ) (bytes said : List ℕ) : Type 0 where
    pub root : GridBox
    pub is_root : IsRootOf i root
    pub begun : IsBegun fault (epoch_source i) i.settings.rules
        (standing chosen i root) limit bytes said
    pub nothing_clear : BlocksLeaveNothingClear (meaning_of i) i.settings.renew
        i.settings.directions i.settings.rules (searches_in root (epochs_of chosen i))
        begun.blocks begun.hand

  -- by how the writing ended
  abbrev pub IsSolution : ℕ → Answer → (bytes said : List ℕ) → Type 0
  IsSolution limit (Ok done) = IsSolved limit
  IsSolution limit (Err fault) = IsSolvedTo fault limit

-- The log of the files was written, and its report printed, or it couldn't be created.
module _ (limit : ℕ) (log : List ℕ) (chosen : Selection) (i : Inputs) (before after : World)
    (trust : Trust) where
  -- behind the reading of files
  abbrev pub WritesBehind : NamedSlots → Status → Type 0
  WritesBehind reads = Writes log before after trust reads limit
      (most_of chosen i)
      (IsSolution chosen i limit)

  abbrev pub Solution : Status → Type 0
  Solution = WritesBehind []

-- the same behind the reading of the files of these names, and of the log and the epochs with them
abbrev pub Solves : ℕ → Files → Inputs → World → World → Trust → Status → Type 0
Solves limit names i before after trust =
    WritesBehind limit names.log (chosen_in names) i before after trust (input_files names)
