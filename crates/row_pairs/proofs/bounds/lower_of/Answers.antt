use Rattle.std.proofs.Common.{◌≡◌, ◌*◌, arith, rules, FitsSigned, w64}
use Rattle.std.specs.Prelude.{pos, ◌*ℤ◌, ◌-ℤ◌}
use Rattle.std.specs.Int.{int_div_euclid, w128}
use Rattle.std.proofs.lemmas.Int.{ints, to_z-of_z}
use Rattle.sat_model.specs.Pairs.{scale}
use Rattle.row_pairs.proofs.bounds.lower_of.Goals as goal

pub returns-clause-value : goal.returns-clause-value
returns-clause-value c =
    let f : FitsSigned w64 c.args.end = c.ranges.end in
    let g : FitsSigned w128 c.least_of.result = search rules in
    let least : c.least_of.result ≡ (pos (2 * c.args.arm) *ℤ c.args.end) -ℤ pos c.taken_of-taken.result = simp to_z-of_z at c.least_of.ensures.value in
    let s : c.scaled.result ≡ int_div_euclid (pos scale *ℤ c.least_of.result) (pos (2 * c.args.arm)) = simp to_z-of_z at c.scaled.ensures.value in
    let v = rw (least, c.taken_of-taken.ensures.value) at s in
    omega (arith, ints, v, c.scaled.ensures.bound, c.from.ensures)
