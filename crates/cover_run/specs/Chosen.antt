-- The epochs that are asked for.
use Rattle.command_words.specs.Commands.{Files}
use Rattle.epoch_selection.specs.declared.selection.Selection.{Selection}

-- those of the file whose numbers are from the one to the other
abbrev pub chosen_in : Files → Selection
chosen_in names = record { from = names.epochs.from; to = names.epochs.to }
