use Rattle.std.proofs.Common.{◌≡◌, arith, rules, FitsSigned, w64}
use Rattle.std.specs.Prelude.{pos, ◌*ℤ◌, ◌+ℤ◌, ◌-ℤ◌}
use Rattle.std.specs.Int.{int_div_euclid, w128}
use Rattle.std.proofs.lemmas.Int.{ints, to_z-of_z}
use Rattle.sat_model.specs.Pairs.{scale}
use Rattle.row_pairs.proofs.bounds.upper_of.Goals as goal

pub returns-clause-value : goal.returns-clause-value
returns-clause-value c =
    let f : FitsSigned w64 c.args.end = c.ranges.end in
    let g : FitsSigned w128 c.most_of.result = search rules in
    let most : c.most_of.result ≡ ((pos c.args.arm *ℤ (c.args.end +ℤ pos 1)) -ℤ pos c.args.square) +ℤ pos c.args.play = simp to_z-of_z at c.most_of.ensures.value in
    let s : c.scaled.result ≡ int_div_euclid (pos scale *ℤ c.most_of.result) (pos c.args.arm) = simp to_z-of_z at c.scaled.ensures.value in
    let v : c.scaled.result ≡ int_div_euclid (pos scale *ℤ (((pos c.args.arm *ℤ (c.args.end +ℤ pos 1)) -ℤ pos c.args.square) +ℤ pos c.args.play)) (pos c.args.arm) = rw most at s in
    omega (arith, ints, v, c.scaled.ensures.bound, c.from.ensures)
