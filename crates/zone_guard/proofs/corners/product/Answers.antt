use Rattle.std.proofs.Common.{arith, rules, FitsSigned}
use Rattle.std.specs.Int.{w64, w128}
use Rattle.std.proofs.lemmas.Int.{ints, to_z-of_z}
use Rattle.grid_model.proofs.ProductLemmas.{product_within}
use Rattle.zone_guard.proofs.CornerLemmas.{uncast_product}
use Rattle.zone_guard.proofs.corners.product.Goals as goal

pub overflow_mul-result : goal.overflow_mul-result
overflow_mul-result c =
    let f : FitsSigned w64 c.args.factor = c.ranges.factor in
    let g : FitsSigned w64 c.args.end = c.ranges.end in
    let a = simp to_z-of_z at c.from.ensures in
    let b = simp to_z-of_z at c.from-2.ensures in
    let w = product_within 2199023255552 10000000000000 c.args.factor c.args.end c.requires.factor c.requires.end in
    let h : FitsSigned w128 c.from.result = search rules in
    let i : FitsSigned w128 c.from-2.result = search rules in
    simp to_z-of_z (rw (a, b) (omega (arith, ints, w.low, w.high)))

pub returns-clause-value : goal.returns-clause-value
returns-clause-value c =
    let f : FitsSigned w64 c.args.factor = c.ranges.factor in
    let g : FitsSigned w64 c.args.end = c.ranges.end in
    let a = simp to_z-of_z at c.from.ensures in
    let b = simp to_z-of_z at c.from-2.ensures in
    rw (a, b) (uncast_product c.args.factor c.args.end c.requires.factor c.requires.end)

pub returns-clause-bound : goal.returns-clause-bound
returns-clause-bound c =
    let f : FitsSigned w64 c.args.factor = c.ranges.factor in
    let g : FitsSigned w64 c.args.end = c.ranges.end in
    let a = simp to_z-of_z at c.from.ensures in
    let b = simp to_z-of_z at c.from-2.ensures in
    rw (a, b, uncast_product c.args.factor c.args.end c.requires.factor c.requires.end) (product_within 2199023255552 10000000000000 c.args.factor c.args.end c.requires.factor c.requires.end)
