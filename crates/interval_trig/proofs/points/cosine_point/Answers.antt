use Rattle.std.proofs.Common.{arith, rules, FitsSigned, ◌≡◌}
use Rattle.std.specs.Prelude.{pos, ◌+ℤ◌, ◌-ℤ◌, ◌*ℤ◌}
use Rattle.std.specs.Int.{w128}
use Rattle.std.proofs.lemmas.Int.{ints, to_z-of_z}
use Rattle.grid_model.specs.Angles.{quarter, quarter_turn}
use Rattle.grid_model.specs.Sines.{by_quarter, modulo_4}
use Rattle.interval_trig.proofs.Rests.{cosine_from_turn}
use Rattle.interval_trig.proofs.points.cosine_point.Goals as goal

pub returns-clause-value : goal.returns-clause-value
returns-clause-value c =
    let a : FitsSigned w128 c.args.x = c.ranges.x in
    let b : FitsSigned w128 c.quarter_of-k.result = search rules in
    let l : FitsSigned w128 c.left_of.result = search rules in
    let f : FitsSigned w128 c.whole_of.result = search rules in
    let j : FitsSigned w128 (c.quarter_of-k.result +ℤ pos 1) = let z = c.quarter_of-k.ensures.size in omega (arith, ints) in
    let g : FitsSigned w128 c.turned.result = search rules in
    let q : c.quarter_of-k.result ≡ quarter c.args.x = simp to_z-of_z at c.quarter_of-k.ensures.value in
    let e : c.left_of.result ≡ (pos 10000 *ℤ c.args.x) -ℤ (c.quarter_of-k.result *ℤ pos quarter_turn) = simp to_z-of_z at c.left_of.ensures.value in
    let h = simp to_z-of_z at c.whole_of.ensures.floor in
    let t : c.turn_of.result ≡ modulo_4 (c.quarter_of-k.result +ℤ pos 1) = simp to_z-of_z at c.turn_of.ensures.value in
    let v : by_quarter c.turn_of.result c.whole_of.result c.turned.result = simp to_z-of_z at c.turned.ensures.value in
    simp to_z-of_z (cosine_from_turn c.args.x c.quarter_of-k.result c.left_of.result c.whole_of.result c.turned.result c.turn_of.result q e h t v)
