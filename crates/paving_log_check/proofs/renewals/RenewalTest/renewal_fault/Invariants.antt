use Rattle.std.proofs.Common.{ℕ, ◌<◌}
use Rattle.grid_model.specs.Boxes.{grid_box}
use Rattle.paving_log_check.proofs.RenewalLemmas.{HoldsAt}
use Rattle.paving_log_check.proofs.renewals.RenewalTest.renewal_fault.Given as goal

abbrev pub invariant-loop-i : goal.invariant-loop-i
invariant-loop-i l = (k : ℕ) → k < l.i
    → HoldsAt l.self.delays (grid_box l.self.root.now) (grid_box l.new.part) l.self.firsts.now l.self.bases.now l.new.rows.items k
