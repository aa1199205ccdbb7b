use Rattle.std.proofs.Common.{◌≡◌, arith, rules, refl, FitsSigned, w64}
use Rattle.std.specs.Prelude.{◌+ℤ◌, ◌-ℤ◌}
use Rattle.std.specs.Int.{w128}
use Rattle.std.proofs.lemmas.Int.{ints, to_z-of_z}
use Rattle.grid_model.specs.Boxes.{grid_box}
use Rattle.sat_model.proofs.PairAxisLemmas.{sum_within}
use Rattle.row_pairs.proofs.LeastLemmas.{least_lead_of, term_at}
use Rattle.row_sums.specs.SumValues.{sum_value, slope_form, aim_form}
use Rattle.row_sums.proofs.TotalLemmas.{sum_slopes}
use Rattle.row_sums.proofs.one_sum.least_lead.Goals as goal

pub aimed_slope-requires-clause-slope : goal.aimed_slope-requires-clause-slope
aimed_slope-requires-clause-slope c =
    let f : FitsSigned w64 c.args.sum.now.x = search rules in
    simp to_z-of_z (sum_slopes _ _ c.args.sum.now.count_low c.args.sum.now.x_within)

pub aimed_slope-requires-2-clause-slope : goal.aimed_slope-requires-2-clause-slope
aimed_slope-requires-2-clause-slope c =
    let f : FitsSigned w64 c.args.sum.now.y = search rules in
    simp to_z-of_z (sum_slopes _ _ c.args.sum.now.count_low c.args.sum.now.y_within)

pub aimed_slope-requires-3-clause-slope : goal.aimed_slope-requires-3-clause-slope
aimed_slope-requires-3-clause-slope c =
    let f : FitsSigned w64 c.args.sum.now.z = search rules in
    simp to_z-of_z (sum_slopes _ _ c.args.sum.now.count_low c.args.sum.now.z_within)

pub overflow_add-result : goal.overflow_add-result
overflow_add-result c = omega (arith, ints, c.least_term-x.ensures.bound, c.least_term-y.ensures.bound)

pub overflow_add-result-2 : goal.overflow_add-result-2
overflow_add-result-2 c =
    let i : FitsSigned w128 c.least_term-x.result = search rules in
    let j : FitsSigned w128 c.least_term-y.result = search rules in
    let k : FitsSigned w128 c.least_term-z.result = search rules in
    let l : FitsSigned w128 (c.least_term-x.result +ℤ c.least_term-y.result) = omega (arith, ints, c.least_term-x.ensures.bound, c.least_term-y.ensures.bound) in
    let m : FitsSigned w128 (c.least_term-x.result +ℤ c.least_term-y.result +ℤ c.least_term-z.result) = omega (arith, ints, c.least_term-x.ensures.bound, c.least_term-y.ensures.bound, c.least_term-z.ensures.bound) in
    simp to_z-of_z m

pub returns-clause-least : goal.returns-clause-least
returns-clause-least c =
    let part = grid_box c.args.part.now in
    let f = slope_form (sum_value c.args.sum.now) in
    let g = aim_form c.args.aim c.args.half.now in
    let sx : FitsSigned w64 c.args.sum.now.x = search rules in
    let sy : FitsSigned w64 c.args.sum.now.y = search rules in
    let sz : FitsSigned w64 c.args.sum.now.z = search rules in
    let hx : FitsSigned w64 c.args.half.now.x = search rules in
    let hy : FitsSigned w64 c.args.half.now.y = search rules in
    let hz : FitsSigned w64 c.args.half.now.z = search rules in
    let xl : FitsSigned w64 c.args.part.now.lo.x = search rules in
    let xh : FitsSigned w64 c.args.part.now.hi.x = search rules in
    let yl : FitsSigned w64 c.args.part.now.lo.y = search rules in
    let yh : FitsSigned w64 c.args.part.now.hi.y = search rules in
    let zl : FitsSigned w64 c.args.part.now.lo.z = search rules in
    let zh : FitsSigned w64 c.args.part.now.hi.z = search rules in
    let ax : FitsSigned w128 c.aimed_slope.result = search rules in
    let ay : FitsSigned w128 c.aimed_slope-2.result = search rules in
    let az : FitsSigned w128 c.aimed_slope-3.result = search rules in
    let i : FitsSigned w128 c.least_term-x.result = search rules in
    let j : FitsSigned w128 c.least_term-y.result = search rules in
    let k : FitsSigned w128 c.least_term-z.result = search rules in
    let ex : c.aimed_slope.result ≡ f.x -ℤ g.x = simp to_z-of_z at c.aimed_slope.ensures.value in
    let ey : c.aimed_slope-2.result ≡ f.y -ℤ g.y = simp to_z-of_z at c.aimed_slope-2.ensures.value in
    let ez : c.aimed_slope-3.result ≡ f.z -ℤ g.z = simp to_z-of_z at c.aimed_slope-3.ensures.value in
    let x = term_at _ _ _ _ (f.x -ℤ g.x) part.x.lo part.x.hi (simp to_z-of_z at c.least_term-x.ensures.least) ex refl refl in
    let y = term_at _ _ _ _ (f.y -ℤ g.y) part.y.lo part.y.hi (simp to_z-of_z at c.least_term-y.ensures.least) ey refl refl in
    let z = term_at _ _ _ _ (f.z -ℤ g.z) part.z.lo part.z.hi (simp to_z-of_z at c.least_term-z.ensures.least) ez refl refl in
    let l : FitsSigned w128 (c.least_term-x.result +ℤ c.least_term-y.result) = omega (arith, ints, c.least_term-x.ensures.bound, c.least_term-y.ensures.bound) in
    let m : FitsSigned w128 (c.least_term-x.result +ℤ c.least_term-y.result +ℤ c.least_term-z.result) = omega (arith, ints, c.least_term-x.ensures.bound, c.least_term-y.ensures.bound, c.least_term-z.ensures.bound) in
    simp to_z-of_z (least_lead_of part f g c.least_term-x.result c.least_term-y.result c.least_term-z.result x y z)

pub returns-clause-bound : goal.returns-clause-bound
returns-clause-bound c =
    let i : FitsSigned w128 c.least_term-x.result = search rules in
    let j : FitsSigned w128 c.least_term-y.result = search rules in
    let k : FitsSigned w128 c.least_term-z.result = search rules in
    let l : FitsSigned w128 (c.least_term-x.result +ℤ c.least_term-y.result) = omega (arith, ints, c.least_term-x.ensures.bound, c.least_term-y.ensures.bound) in
    let m : FitsSigned w128 (c.least_term-x.result +ℤ c.least_term-y.result +ℤ c.least_term-z.result) = omega (arith, ints, c.least_term-x.ensures.bound, c.least_term-y.ensures.bound, c.least_term-z.ensures.bound) in
    simp to_z-of_z (sum_within 800000000000000000000000000000000 400000000000000000000000000000000 _ _ (sum_within 400000000000000000000000000000000 400000000000000000000000000000000 _ _ c.least_term-x.ensures.bound c.least_term-y.ensures.bound) c.least_term-z.ensures.bound)
