use Rattle.std.proofs.Common.{arith, FitsSigned}
use Rattle.std.specs.Int.{w128}
use Rattle.std.proofs.lemmas.Int.{ints, to_z-of_z}
use Rattle.fix_interval.proofs.ends.product.Goals as goal

pub overflow_mul-result : goal.overflow_mul-result
overflow_mul-result c =
    let f : FitsSigned w128 c.args.a = c.ranges.a in
    let g : FitsSigned w128 c.args.b = c.ranges.b in
    simp to_z-of_z (omega (arith, ints))
