use Rattle.std.proofs.Common.{sym, ◌∙◌}
use Rattle.epoch_selection.proofs.SelectionLemmas.{first_selected}
use Rattle.epoch_selection.proofs.selection.Selection.first_of.Goals as goal

pub returns-then-takes-clause-place : goal.returns-then-takes-clause-place
returns-then-takes-clause-place c =
    first_selected c.args.self.now c.args.epochs.now c.loop-i.i c.index-epochs-i.result c.loop-i.invariant c.loop-i-test.true
    c.index-epochs-i.is (sym c.takes.ensures ∙ c.if-takes.true)
