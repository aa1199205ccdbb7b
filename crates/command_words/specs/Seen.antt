-- The command that a parsed one stands for.
use Rattle.std.specs.Prelude.{◌≤◌, List, map, option_map, String, string_bytes}
use Rattle.std.specs.declared.alloc.Global.{Global}
use Rattle.clap.specs.Walk.{Text}
use Rattle.command_words.specs.Commands.{Epochs, Files, Command, Judge, Pave, Solve, Check, Track}
use Rattle.command_words.specs.Commands.{Retrack, Guard, Make}
use Rattle.command_words.specs.declared.command.Selection as selection
use Rattle.command_words.specs.declared.command.Files as files
use Rattle.command_words.specs.declared.command.Command as parsed
use Rattle.command_words.specs.declared.command.Command.TheVariants as variant

-- the words as bytes
abbrev pub texts : List (String Global) → List Text
texts words = map string_bytes words

abbrev pub epochs_asked : selection.Selection → Epochs
epochs_asked s = record { from = s.from; to = s.to }

abbrev pub files_asked : files.Files → Files
files_asked f = record {
  obs = f.obs.now;
  nav = f.nav.now;
  settings = f.settings.now;
  station = option_map (λ name. name.now) f.station;
  log = f.log.now;
  after = option_map (λ name. name.now) f.after;
  epochs = epochs_asked f.selection;
}

abbrev pub asked : parsed.Command → Command
asked (variant.Judge log) = Judge log.now
asked (variant.Pave rows log quiet) = Pave rows.now log.now quiet
asked (variant.Solve files quiet) = Solve (files_asked files) quiet
asked (variant.Check files) = Check (files_asked files)
asked (variant.Track files quiet) = Track (files_asked files) quiet
asked (variant.Retrack files) = Retrack (files_asked files)
asked (variant.Guard files zones tracked) = Guard (files_asked files) zones.now tracked
asked (variant.Make seed epochs) = Make seed epochs

-- the numbers are in their ranges
abbrev pub IsSelection : selection.Selection → Type 0
IsSelection s = ((1 ≤ s.from) × (s.from ≤ 200000)) × ((1 ≤ s.to) × (s.to ≤ 200000))

abbrev pub HasRanges : parsed.Command → Type 0
HasRanges (variant.Judge log) = Unit {0}
HasRanges (variant.Pave rows log quiet) = Unit {0}
HasRanges (variant.Solve files quiet) = IsSelection files.selection
HasRanges (variant.Check files) = IsSelection files.selection
HasRanges (variant.Track files quiet) = IsSelection files.selection
HasRanges (variant.Retrack files) = IsSelection files.selection
HasRanges (variant.Guard files zones tracked) = IsSelection files.selection
HasRanges (variant.Make seed epochs) = (1 ≤ epochs) × (epochs ≤ 240)
