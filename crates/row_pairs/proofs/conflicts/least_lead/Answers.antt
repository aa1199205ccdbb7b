use Rattle.std.proofs.Common.{arith, rules, FitsSigned, w64}
use Rattle.std.specs.Prelude.{◌+ℤ◌}
use Rattle.std.specs.Int.{w128}
use Rattle.std.proofs.lemmas.Int.{ints, to_z-of_z}
use Rattle.grid_model.specs.Boxes.{grid_box}
use Rattle.row_pairs.specs.FormValues.{form_value}
use Rattle.sat_model.proofs.PairAxisLemmas.{sum_within}
use Rattle.row_pairs.proofs.LeastLemmas.{least_lead_of}
use Rattle.row_pairs.proofs.SizeLemmas.{fits64}
use Rattle.row_pairs.proofs.conflicts.least_lead.Goals as goal

pub returns-clause-least : goal.returns-clause-least
returns-clause-least c =
    let part = grid_box c.args.part.now in
    let f = form_value c.args.f.now in
    let g = form_value c.args.g.now in
    let fx : FitsSigned w64 c.args.f.now.x = fits64 _ c.args.f.now.x_within in
    let gx : FitsSigned w64 c.args.g.now.x = fits64 _ c.args.g.now.x_within in
    let fy : FitsSigned w64 c.args.f.now.y = fits64 _ c.args.f.now.y_within in
    let gy : FitsSigned w64 c.args.g.now.y = fits64 _ c.args.g.now.y_within in
    let fz : FitsSigned w64 c.args.f.now.z = fits64 _ c.args.f.now.z_within in
    let gz : FitsSigned w64 c.args.g.now.z = fits64 _ c.args.g.now.z_within in
    let x = simp to_z-of_z at c.least_on.ensures.least in
    let y = simp to_z-of_z at c.least_on-2.ensures.least in
    let z = simp to_z-of_z at c.least_on-3.ensures.least in
    let i : FitsSigned w128 c.least_on.result = search rules in
    let j : FitsSigned w128 c.least_on-2.result = search rules in
    let k : FitsSigned w128 c.least_on-3.result = search rules in
    let l : FitsSigned w128 (c.least_on.result +ℤ c.least_on-2.result) = omega (arith, ints, c.least_on.ensures.bound, c.least_on-2.ensures.bound) in
    let m : FitsSigned w128 (c.least_on.result +ℤ c.least_on-2.result +ℤ c.least_on-3.result) = omega (arith, ints, c.least_on.ensures.bound, c.least_on-2.ensures.bound, c.least_on-3.ensures.bound) in
    simp to_z-of_z (least_lead_of part f g c.least_on.result c.least_on-2.result c.least_on-3.result x y z)

pub overflow_add-result : goal.overflow_add-result
overflow_add-result c = omega (arith, ints, c.least_on.ensures.bound, c.least_on-2.ensures.bound)

pub overflow_add-result-2 : goal.overflow_add-result-2
overflow_add-result-2 c = omega (arith, ints, c.least_on.ensures.bound, c.least_on-2.ensures.bound, c.least_on-3.ensures.bound)

pub returns-clause-bound : goal.returns-clause-bound
returns-clause-bound c =
    let i : FitsSigned w128 c.least_on.result = search rules in
    let j : FitsSigned w128 c.least_on-2.result = search rules in
    let k : FitsSigned w128 c.least_on-3.result = search rules in
    let l : FitsSigned w128 (c.least_on.result +ℤ c.least_on-2.result) = omega (arith, ints, c.least_on.ensures.bound, c.least_on-2.ensures.bound) in
    let m : FitsSigned w128 (c.least_on.result +ℤ c.least_on-2.result +ℤ c.least_on-3.result) = omega (arith, ints, c.least_on.ensures.bound, c.least_on-2.ensures.bound, c.least_on-3.ensures.bound) in
    simp to_z-of_z (sum_within 400000000000000000000 200000000000000000000 _ _ (sum_within 200000000000000000000 200000000000000000000 _ _ c.least_on.ensures.bound c.least_on-2.ensures.bound) c.least_on-3.ensures.bound)
