use Rattle.std.proofs.Common.{arith, rules, FitsSigned}
use Rattle.std.specs.Prelude.{pos, ◌≤ℤ◌}
use Rattle.std.specs.Int.{w128}
use Rattle.std.proofs.lemmas.Int.{ints, to_z-of_z}
use Rattle.grid_model.proofs.RoundingLemmas.{negative_high, natural_high}
use Rattle.grid_model.proofs.IntervalLemmas.{high_member}
use Rattle.fix_interval.proofs.ends.high_end_over.Goals as goal

pub returns-then-num-lt0-clause-holds : goal.returns-then-num-lt0-clause-holds
returns-then-num-lt0-clause-holds c d v p h =
    let s : c.args.num ≤ℤ pos 0 = omega (arith, ints) in
    let f : FitsSigned w128 c.args.num = c.ranges.num in
    let i : FitsSigned w128 c.args.divisor.lo = search rules in
    let j : FitsSigned w128 c.args.divisor.hi = search rules in
    let r : FitsSigned w128 c.high_end.result = search rules in
    let k = simp to_z-of_z at c.high_end.ensures.holds v in
    simp to_z-of_z (k (negative_high c.args.num c.args.divisor.lo c.args.divisor.hi d v s c.requires.positive p h))

pub returns-else-num-lt0-clause-holds : goal.returns-else-num-lt0-clause-holds
returns-else-num-lt0-clause-holds c d v p h =
    let s : pos 0 ≤ℤ c.args.num = omega (arith, ints) in
    let f : FitsSigned w128 c.args.num = c.ranges.num in
    let i : FitsSigned w128 c.args.divisor.lo = search rules in
    let j : FitsSigned w128 c.args.divisor.hi = search rules in
    let r : FitsSigned w128 c.high_end-else-num-lt0.result = search rules in
    let k = simp to_z-of_z at c.high_end-else-num-lt0.ensures.holds v in
    simp to_z-of_z (k (natural_high c.args.num c.args.divisor.lo c.args.divisor.hi d v s c.requires.positive p h))

pub returns-then-num-lt0-clause-tight : goal.returns-then-num-lt0-clause-tight
returns-then-num-lt0-clause-tight c =
    let f : FitsSigned w128 c.args.num = c.ranges.num in
    let j : FitsSigned w128 c.args.divisor.hi = search rules in
    let r : FitsSigned w128 c.high_end.result = search rules in
    let t = simp to_z-of_z at c.high_end.ensures.tight in
    (c.args.divisor.hi, high_member c.args.divisor.lo c.args.divisor.hi c.args.divisor.ordered, simp to_z-of_z t)
