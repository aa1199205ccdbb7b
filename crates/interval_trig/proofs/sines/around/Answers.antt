use Rattle.std.proofs.Common.{arith}
use Rattle.std.specs.Prelude.{pos, ◌≤ℤ◌}
use Rattle.std.proofs.lemmas.Int.{ints, clamps}
use Rattle.grid_model.specs.Angles.{unit}
use Rattle.interval_trig.proofs.sines.around.Goals as goal

pub invariant_of-result-2 : goal.invariant_of-result-2
invariant_of-result-2 c = record { ordered = omega (arith, ints, clamps) }

pub returns-clause-holds : goal.returns-clause-holds
returns-clause-holds c s a p =
    let b : c.args.half ≤ℤ pos unit = omega (arith, ints) in
    let q = p b in
    record { from = omega (arith, ints, clamps); to = omega (arith, ints, clamps) }

pub returns-clause-width : goal.returns-clause-width
returns-clause-width c = omega (arith, ints, clamps)
