use Rattle.std.proofs.Common.{w64}
use Rattle.std.proofs.lemmas.Int.{to_z-of_z}
use Rattle.paving_log_check.proofs.claims.cuts_empty_slab.Goals as goal

pub returns-then-is_proper_cut-clause-cuts : goal.returns-then-is_proper_cut-clause-cuts
returns-then-is_proper_cut-clause-cuts c =
    let same = to_z-of_z w64 c.args.bound c.ranges.bound in
    let proper = rw same at (c.is_proper_cut.ensures.0 c.if-is_proper_cut.true) in
    let shown = rw (rw same at c.slab_of.ensures) at c.is_slab_empty.ensures.empty in
    (λ t. (proper, shown.0 t), λ h. shown.1 h.1)
