use Rattle.paving_log_check.proofs.FewLemmas.{shows_none_empty}
use Rattle.paving_log_check.proofs.rows_test.RowsTest.is_slab_empty.Goals as goal

pub returns-in-Few-clause-empty : goal.returns-in-Few-clause-empty
returns-in-Few-clause-empty c = (λ t. absurd cc, λ e. absurd (shows_none_empty c.args.self.now _ c.in-Few.is c.args.slab.now e))
