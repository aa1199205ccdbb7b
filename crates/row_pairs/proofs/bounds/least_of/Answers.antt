use Rattle.std.proofs.Common.{◌≡◌, ◌*◌, arith, FitsSigned, w64}
use Rattle.std.specs.Prelude.{pos, ◌*ℤ◌}
use Rattle.std.proofs.lemmas.Int.{ints, to_z-of_z}
use Rattle.row_pairs.proofs.bounds.least_of.Goals as goal

pub returns-clause-value : goal.returns-clause-value
returns-clause-value c =
    let f : FitsSigned w64 c.args.end = c.ranges.end in
    let e : c.arm_times.result ≡ (pos (2 * c.args.arm) *ℤ c.args.end) = simp to_z-of_z at c.arm_times.ensures.value in
    omega (arith, ints, e, c.arm_times.ensures.bound)
