use Rattle.std.proofs.Common.{arith, rules, FitsSigned}
use Rattle.std.specs.Int.{w128}
use Rattle.std.proofs.lemmas.Int.{to_z-of_z}
use Rattle.grid_model.proofs.IntervalLemmas.{min_within}
use Rattle.zone_guard.proofs.corners.least_product.Goals as goal

pub returns-clause-value : goal.returns-clause-value
returns-clause-value c = grind (arith, to_z-of_z)

pub returns-clause-bound : goal.returns-clause-bound
returns-clause-bound c =
    let f : FitsSigned w128 c.product.result = search rules in
    let g : FitsSigned w128 c.product-2.result = search rules in
    let h : FitsSigned w128 c.min.result = search rules in
    let a = simp to_z-of_z at c.min.ensures.value in
    simp to_z-of_z (simp a (min_within _ _ _ c.product.ensures.bound c.product-2.ensures.bound))
