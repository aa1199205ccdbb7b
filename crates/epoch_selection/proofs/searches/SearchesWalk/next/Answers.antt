use Rattle.epoch_selection.proofs.SelectionLemmas.{standing_first}
use Rattle.epoch_selection.proofs.searches.SearchesWalk.next.Goals as goal

pub returns-clause-first : goal.returns-clause-first
returns-clause-first c = λ ready. standing_first c.args.self.now c.in_ok-epoch.epoch.now c.next.new.self c.in_ok-epoch.ensures
