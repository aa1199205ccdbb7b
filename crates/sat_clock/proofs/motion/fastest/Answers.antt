use Rattle.std.proofs.Common.{◌^◌, arith}
use Rattle.sat_clock.specs.GravityRoots.{gravity_root}
use Rattle.sat_clock.proofs.MotionLemmas.{fastest_holds, fastest_tight, cube_not_none, motion_high}
use Rattle.sat_clock.proofs.motion.fastest.Goals as goal

pub returns-clause-holds : goal.returns-clause-holds
returns-clause-holds c s n h m = rw c.gravity_root.ensures (fastest_holds c.args.system s n c.cube.result c.args.root_a (cube_not_none c.cube.result c.args.root_a c.requires.low c.cube.ensures.above) h c.cube.ensures.below m)

pub returns-clause-tight : goal.returns-clause-tight
returns-clause-tight c = rw c.gravity_root.ensures (fastest_tight (gravity_root c.args.system) (10 ^ 29) c.cube.result c.args.root_a c.cube.ensures.above)

pub returns-clause-high : goal.returns-clause-high
returns-clause-high c = rw c.gravity_root.ensures (motion_high c.args.system c.cube.result c.cube.result c.args.root_a c.requires.low c.cube.ensures.above (omega arith))
