use Rattle.std.proofs.Common.{w64}
use Rattle.std.proofs.lemmas.Int.{to_z-of_z}
use Rattle.paving_log_check.proofs.rows_test.RowsTest.is_inner.Goals as goal

pub returns-in-Enough : goal.returns-in-Enough
returns-in-Enough c = rw c.in-Enough.is (rw (to_z-of_z w64 c.args.clock c.ranges.clock) at c.is_inner.ensures)
