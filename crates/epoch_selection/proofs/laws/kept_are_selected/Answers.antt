use Rattle.epoch_selection.proofs.KeptLemmas.{kept_all, kept_same}
use Rattle.epoch_selection.proofs.laws.kept_are_selected.Goals as goal

pub returns-clause-same : goal.returns-clause-same
returns-clause-same c = kept_same

pub returns-clause-all : goal.returns-clause-all
returns-clause-all c = kept_all
