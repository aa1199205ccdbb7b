use Rattle.std.proofs.Common.{arith, to_z, of_z, w64}
use Rattle.std.specs.Prelude.{◌-ℤ◌}
use Rattle.std.proofs.lemmas.Int.{ints}
use Rattle.paving_log_check.proofs.claims.is_long.Goals as goal
use Rattle.relaxed_meet.proofs.FallingLemmas.{lt_true}

pub returns : goal.returns
returns c = (
  λ t. omega (arith, ints),
  λ h. lt_true (to_z w64 (of_z w64 c.args.rules.now.width)) (to_z w64 (of_z w64 (to_z w64 (of_z w64 c.side-lo.result.1) -ℤ to_z w64 (of_z w64 c.side-lo.result.0))))
      (omega (arith, ints)),
)
