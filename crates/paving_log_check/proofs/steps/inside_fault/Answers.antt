use Rattle.std.proofs.Common.{inl, inr, refl, sym, w64}
use Rattle.std.proofs.lemmas.Int.{to_z-of_z}
use Rattle.grid_model.specs.Boxes.{grid_box}
use Rattle.paving_log_check.proofs.steps.inside_fault.Goals as goal

pub returns-then-not-is_inner : goal.returns-then-not-is_inner
returns-then-not-is_inner c rules =
    let inner = rw (to_z-of_z w64 c.args.clock c.ranges.clock) at c.is_inner.ensures in
    inr (inl (grid_box c.in-Some.part, sym c.in-Some.ensures, λ h. cc (inner.1 h), refl))

pub returns-then-not-holds_hull : goal.returns-then-not-holds_hull
returns-then-not-holds_hull c rules =
    let inner = rw (to_z-of_z w64 c.args.clock c.ranges.clock) at c.is_inner.ensures in
    let hull = rw (to_z-of_z w64 c.args.lo c.ranges.lo, to_z-of_z w64 c.args.hi c.ranges.hi) at c.holds_hull.ensures in
    inr (inr (grid_box c.in-Some.part, sym c.in-Some.ensures, inner.0 c.if-not-is_inner.false, λ h. cc (hull.1 h), refl))

pub returns : goal.returns
returns c rules =
    let inner = rw (to_z-of_z w64 c.args.clock c.ranges.clock) at c.is_inner.ensures in
    let hull = rw (to_z-of_z w64 c.args.lo c.ranges.lo, to_z-of_z w64 c.args.hi c.ranges.hi) at c.holds_hull.ensures in
    (grid_box c.in-Some.part, sym c.in-Some.ensures, inner.0 c.if-not-is_inner.false, hull.0 c.if-not-holds_hull.false)
