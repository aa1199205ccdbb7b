use Rattle.std.proofs.Common.{inr, refl, sym, w64}
use Rattle.std.proofs.lemmas.Int.{to_z-of_z}
use Rattle.grid_model.specs.Boxes.{grid_box}
use Rattle.paving_log_check.proofs.steps.edge_fault.Goals as goal

pub returns-then-not-holds_hull : goal.returns-then-not-holds_hull
returns-then-not-holds_hull c rules =
    let hull = rw (to_z-of_z w64 c.args.lo c.ranges.lo, to_z-of_z w64 c.args.hi c.ranges.hi) at c.holds_hull.ensures in
    inr (grid_box c.in-Some.part, sym c.in-Some.ensures, λ h. cc (hull.1 h), refl)

pub returns : goal.returns
returns c rules =
    let hull = rw (to_z-of_z w64 c.args.lo c.ranges.lo, to_z-of_z w64 c.args.hi c.ranges.hi) at c.holds_hull.ensures in
    (grid_box c.in-Some.part, sym c.in-Some.ensures, hull.0 c.if-not-holds_hull.false)
