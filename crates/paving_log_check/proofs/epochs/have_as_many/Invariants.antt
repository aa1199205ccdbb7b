use Rattle.std.proofs.Common.{◌≡◌, length, drop}
use Rattle.std.specs.Prelude.{◌↔◌}
use Rattle.std.specs.List.{AllByRecursion}
use Rattle.paving_log_check.proofs.epochs.have_as_many.Given as goal

abbrev pub invariant-loop-renewal : goal.invariant-loop-renewal
invariant-loop-renewal l = AllByRecursion (λ r. length r.rows.items ≡ l.n) (drop l.renewal-index l.renewals) ↔ AllByRecursion (λ r. length r.rows.items ≡ l.n) l.renewals
