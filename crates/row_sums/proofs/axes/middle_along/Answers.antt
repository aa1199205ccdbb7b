use Rattle.std.proofs.Common.{◌≡◌, arith, rules, FitsSigned, w64}
use Rattle.std.specs.Prelude.{◌+ℤ◌, ◌*ℤ◌}
use Rattle.std.specs.Int.{w128}
use Rattle.std.proofs.lemmas.Int.{ints, to_z-of_z}
use Rattle.grid_model.specs.Boxes.{grid_box, middle}
use Rattle.sat_model.proofs.PairAxisLemmas.{sum_within}
use Rattle.row_sums.proofs.AboveLemmas.{three_same}
use Rattle.row_sums.proofs.axes.middle_along.Goals as goal

pub overflow_add-result : goal.overflow_add-result
overflow_add-result c = omega (arith, ints, c.middle_term.ensures.bound, c.middle_term-2.ensures.bound)

pub overflow_add-result-2 : goal.overflow_add-result-2
overflow_add-result-2 c = omega (arith, ints, c.middle_term.ensures.bound, c.middle_term-2.ensures.bound, c.middle_term-3.ensures.bound)

pub returns-clause-value : goal.returns-clause-value
returns-clause-value c =
    let part = grid_box c.args.part.now in
    let half = c.args.half.now in
    let i : FitsSigned w128 c.middle_term.result = search rules in
    let j : FitsSigned w128 c.middle_term-2.result = search rules in
    let k : FitsSigned w128 c.middle_term-3.result = search rules in
    let hx : FitsSigned w64 half.x = search rules in
    let hy : FitsSigned w64 half.y = search rules in
    let hz : FitsSigned w64 half.z = search rules in
    let xl : FitsSigned w64 c.args.part.now.lo.x = search rules in
    let xh : FitsSigned w64 c.args.part.now.hi.x = search rules in
    let yl : FitsSigned w64 c.args.part.now.lo.y = search rules in
    let yh : FitsSigned w64 c.args.part.now.hi.y = search rules in
    let zl : FitsSigned w64 c.args.part.now.lo.z = search rules in
    let zh : FitsSigned w64 c.args.part.now.hi.z = search rules in
    let l : FitsSigned w128 (c.middle_term.result +ℤ c.middle_term-2.result) = omega (arith, ints, c.middle_term.ensures.bound, c.middle_term-2.ensures.bound) in
    let m : FitsSigned w128 (c.middle_term.result +ℤ c.middle_term-2.result +ℤ c.middle_term-3.result) = omega (arith, ints, c.middle_term.ensures.bound, c.middle_term-2.ensures.bound, c.middle_term-3.ensures.bound) in
    let x : c.middle_term.result ≡ half.x *ℤ middle part.x = simp to_z-of_z at c.middle_term.ensures.value in
    let y : c.middle_term-2.result ≡ half.y *ℤ middle part.y = simp to_z-of_z at c.middle_term-2.ensures.value in
    let z : c.middle_term-3.result ≡ half.z *ℤ middle part.z = simp to_z-of_z at c.middle_term-3.ensures.value in
    simp to_z-of_z (three_same c.middle_term.result c.middle_term-2.result c.middle_term-3.result _ _ _ x y z)

pub returns-clause-bound : goal.returns-clause-bound
returns-clause-bound c =
    let i : FitsSigned w128 c.middle_term.result = search rules in
    let j : FitsSigned w128 c.middle_term-2.result = search rules in
    let k : FitsSigned w128 c.middle_term-3.result = search rules in
    let l : FitsSigned w128 (c.middle_term.result +ℤ c.middle_term-2.result) = omega (arith, ints, c.middle_term.ensures.bound, c.middle_term-2.ensures.bound) in
    let m : FitsSigned w128 (c.middle_term.result +ℤ c.middle_term-2.result +ℤ c.middle_term-3.result) = omega (arith, ints, c.middle_term.ensures.bound, c.middle_term-2.ensures.bound, c.middle_term-3.ensures.bound) in
    simp to_z-of_z (sum_within 20000000000000000000 10000000000000000000 _ _ (sum_within 10000000000000000000 10000000000000000000 _ _ c.middle_term.ensures.bound c.middle_term-2.ensures.bound) c.middle_term-3.ensures.bound)
