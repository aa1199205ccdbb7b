use Rattle.std.proofs.Common.{arith}
use Rattle.std.proofs.lemmas.Grind.{common_steps}
use Rattle.outer_io.proofs.OwnNames.{few_have_own_names}
use Rattle.log_tests.proofs.writing.write.Goals as goal

pub make-requires : goal.make-requires
make-requires g c = few_have_own_names _ (grind (arith, common_steps))
