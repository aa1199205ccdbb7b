use Rattle.grid_model.specs.Boxes.{grid_box}
use Rattle.row_pairs.proofs.DecideLemmas.{inner_not_empty}
use Rattle.row_pairs.proofs.TestLemmas as test_lemmas
use Rattle.row_pairs.proofs.laws.empty_or_not.Goals as goal

pub returns-clause-decided : goal.returns-clause-decided
returns-clause-decided c test few = test_lemmas.empty_or_not test (grid_box c.args._part.now) few

pub returns-clause-inner : goal.returns-clause-inner
returns-clause-inner c test b = inner_not_empty test c.args._part.now b
