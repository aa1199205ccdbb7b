use Rattle.std.proofs.Common.{◌^◌, ◌+◌, arith, lit≤}
use Rattle.sat_clock.specs.GravityRoots.{gravity_root}
use Rattle.sat_clock.proofs.MotionLemmas.{slowest_holds, slowest_tight, motion_low, motion_high}
use Rattle.sat_clock.proofs.motion.slowest.Goals as goal

pub returns-clause-holds : goal.returns-clause-holds
returns-clause-holds c s n h m = rw c.gravity_root.ensures (slowest_holds c.args.system s n c.cube.result c.args.root_a h c.cube.ensures.above m)

pub returns-clause-tight : goal.returns-clause-tight
returns-clause-tight c = rw c.gravity_root.ensures (slowest_tight (gravity_root c.args.system) (10 ^ 29) c.cube.result c.args.root_a (lit≤ tt) c.cube.ensures.below)

pub returns-clause-low : goal.returns-clause-low
returns-clause-low c = rw c.gravity_root.ensures (motion_low c.args.system c.cube.result c.args.root_a c.requires.high c.cube.ensures.below)

pub returns-clause-high : goal.returns-clause-high
returns-clause-high c = rw c.gravity_root.ensures (motion_high c.args.system c.cube.result (c.cube.result + 2) c.args.root_a c.requires.low c.cube.ensures.above (omega arith))
