use Rattle.std.proofs.Common.{w64}
use Rattle.std.proofs.lemmas.Int.{to_z-of_z}
use Rattle.grid_model.specs.Boxes.{grid_box}
use Rattle.paving_log_check.proofs.FewLemmas.{holds_none}
use Rattle.paving_log_check.proofs.rows_test.RowsTest.holds_hull.Goals as goal

pub returns-in-Enough : goal.returns-in-Enough
returns-in-Enough c = rw c.in-Enough.is (rw (to_z-of_z w64 c.args.lo c.ranges.lo, to_z-of_z w64 c.args.hi c.ranges.hi) at c.holds_hull.ensures)

pub returns-in-Few : goal.returns-in-Few
returns-in-Few c = (λ t. absurd cc, λ h. absurd (holds_none c.args.self.now _ c.in-Few.is (grid_box c.args.part.now) c.args.lo c.args.hi h))
