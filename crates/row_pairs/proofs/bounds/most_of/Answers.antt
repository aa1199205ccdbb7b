use Rattle.std.proofs.Common.{◌≡◌, arith, FitsSigned, w64}
use Rattle.std.specs.Prelude.{pos, ◌*ℤ◌, ◌+ℤ◌}
use Rattle.std.proofs.lemmas.Int.{ints, to_z-of_z}
use Rattle.row_pairs.proofs.bounds.most_of.Goals as goal

pub returns-clause-value : goal.returns-clause-value
returns-clause-value c =
    let f : FitsSigned w64 c.args.end = c.ranges.end in
    let g : FitsSigned w64 (c.args.end +ℤ pos 1) = omega (arith, ints) in
    let e : c.arm_times.result ≡ (pos c.args.arm *ℤ (c.args.end +ℤ pos 1)) = simp to_z-of_z at c.arm_times.ensures.value in
    omega (arith, ints, e, c.arm_times.ensures.bound)
