use Rattle.std.proofs.Common.{◌≡◌, ◌+◌, length}
use Rattle.bound_search.proofs.constraints.constraints_of.Given as goal

abbrev pub invariant-loop-form : goal.invariant-loop-form
invariant-loop-form l = length l.constraints.items ≡ l.form-index + 3
