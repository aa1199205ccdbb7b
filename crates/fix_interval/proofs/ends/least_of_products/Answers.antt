use Rattle.std.proofs.Common.{arith, rules, FitsSigned}
use Rattle.std.specs.Int.{w128}
use Rattle.std.proofs.lemmas.Int.{to_z-of_z}
use Rattle.grid_model.proofs.IntervalLemmas.{min_within}
use Rattle.fix_interval.proofs.ends.least_of_products.Goals as goal

pub returns-clause-value : goal.returns-clause-value
returns-clause-value c = grind (arith, to_z-of_z)

pub returns-clause-size : goal.returns-clause-size
returns-clause-size c =
    let f : FitsSigned w128 c.product.result = search rules in
    let g : FitsSigned w128 c.product-2.result = search rules in
    let h : FitsSigned w128 c.product-3.result = search rules in
    let i : FitsSigned w128 c.product-4.result = search rules in
    let j : FitsSigned w128 c.min.result = search rules in
    let k : FitsSigned w128 c.min-2.result = search rules in
    let l : FitsSigned w128 c.min-3.result = search rules in
    let a = simp to_z-of_z at c.min.ensures.value in
    let b = simp to_z-of_z at c.min-2.ensures.value in
    let d = simp to_z-of_z at c.min-3.ensures.value in
    simp to_z-of_z (simp (d, a, b) (min_within _ _ _ (min_within _ _ _ c.product.ensures.size c.product-2.ensures.size) (min_within _ _ _ c.product-3.ensures.size c.product-4.ensures.size)))
