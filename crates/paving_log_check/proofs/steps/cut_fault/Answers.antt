use Rattle.std.proofs.Common.{inr, refl, sym, w64}
use Rattle.std.proofs.lemmas.Int.{to_z-of_z}
use Rattle.grid_model.specs.Boxes.{grid_box}
use Rattle.paving_log_check.proofs.steps.cut_fault.Goals as goal

pub returns-then-not-cuts_empty_slab-clause-fault : goal.returns-then-not-cuts_empty_slab-clause-fault
returns-then-not-cuts_empty_slab-clause-fault c rules =
    let cuts = rw (to_z-of_z w64 c.args.bound c.ranges.bound) at c.cuts_empty_slab.ensures.cuts in
    inr (grid_box c.in-Some.part, sym c.in-Some.ensures, λ h. cc (cuts.1 h), refl)

pub returns-clause-fault : goal.returns-clause-fault
returns-clause-fault c rules =
    let cuts = rw (to_z-of_z w64 c.args.bound c.ranges.bound) at c.cuts_empty_slab.ensures.cuts in
    (grid_box c.in-Some.part, sym c.in-Some.ensures, cuts.0 c.if-not-cuts_empty_slab.false)
