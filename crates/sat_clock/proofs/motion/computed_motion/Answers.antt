use Rattle.std.proofs.Common.{arith, rules, ◌≤◌, FitsSigned, ◌+◌}
use Rattle.std.specs.Prelude.{pos, nat_abs, ◌≤ℤ◌}
use Rattle.std.specs.Int.{w128}
use Rattle.std.proofs.lemmas.Int.{ints, to_z-of_z}
use Rattle.grid_model.specs.Intervals.{Between}
use Rattle.sat_clock.specs.GravityRoots.{gravity_root}
use Rattle.sat_clock.proofs.MotionLemmas.{motion_held, motions_ordered, motions_apart}
use Rattle.sat_clock.proofs.motion.computed_motion.Goals as goal

pub invariant_of-result : goal.invariant_of-result
invariant_of-result c =
    let f : FitsSigned w128 c.args.root_a.lo = search rules in
    let g : FitsSigned w128 c.args.root_a.hi = search rules in
    let h = simp to_z-of_z at c.slowest-lo.ensures.holds in
    let k = simp to_z-of_z at c.fastest-hi.ensures.holds in
    let o : pos c.slowest-lo.result ≤ℤ pos c.fastest-hi.result = motions_ordered c.args.system c.args.root_a.lo c.args.root_a.hi _ _ (omega (arith, ints)) c.args.root_a.ordered h k in
    record { ordered = omega (arith, ints) }

pub returns-clause-holds : goal.returns-clause-holds
returns-clause-holds c s n v m =
    let f : FitsSigned w128 c.args.root_a.lo = search rules in
    let g : FitsSigned w128 c.args.root_a.hi = search rules in
    let h = simp to_z-of_z at c.slowest-lo.ensures.holds in
    let k = simp to_z-of_z at c.fastest-hi.ensures.holds in
    let b : Between (pos c.slowest-lo.result) (pos c.fastest-hi.result) (pos n) = motion_held c.args.system c.args.root_a.lo c.args.root_a.hi s n _ _ (omega (arith, ints)) h k v m in
    record { from = omega (arith, ints, b.from); to = omega (arith, ints, b.to) }

pub returns-clause-width : goal.returns-clause-width
returns-clause-width c =
    let f : FitsSigned w128 c.args.root_a.lo = search rules in
    let g : FitsSigned w128 c.args.root_a.hi = search rules in
    let h = simp to_z-of_z at c.slowest-lo.ensures.tight in
    let k = simp to_z-of_z at c.fastest-hi.ensures.tight in
    let b : c.fastest-hi.result ≤ c.slowest-lo.result + 4095 = motions_apart (gravity_root c.args.system) c.slowest-lo.result c.fastest-hi.result (nat_abs c.args.root_a.lo) (nat_abs c.args.root_a.hi) (omega (arith, ints)) (omega (arith, ints)) (omega (arith, ints)) h k c.fastest-hi.ensures.high in
    omega (arith, ints)
