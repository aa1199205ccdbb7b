use Rattle.std.proofs.Common.{◌≡◌, drop}
use Rattle.epoch_selection.specs.Selections.{selected}
use Rattle.epoch_selection.proofs.selection.Selection.first_of.Given as goal

abbrev pub invariant-loop-i : goal.invariant-loop-i
invariant-loop-i l = selected l.self l.epochs ≡ selected l.self (drop l.i l.epochs)
